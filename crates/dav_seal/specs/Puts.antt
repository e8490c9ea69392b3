-- The digests of rows that are put one by one.
use Rattle.std.specs.Prelude.{ℕ, ℤ, List, [], fold}
use Rattle.std.specs.Ordering.{int_cmp}
use Rattle.std.specs.BTreeMap.{insert_entry}

-- each row's digest is put under its number
abbrev pub put_all : {R : Type 0} → (R → ℤ) → (R → ℕ) → List R → List (ℤ × ℕ)
put_all number digest rows = fold (λ s r. insert_entry int_cmp s (number r) (digest r)) [] rows
