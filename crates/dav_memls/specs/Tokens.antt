-- Sorted tokens: this project's own choice.
use Rattle.std.specs.Prelude.{◌≡◌, ℕ, List, bytes_eq}
use Rattle.std.specs.BTreeSet.{BTreeSet, contains_by}
use Rattle.std.specs.Cmp.Lexicographic.{slice_cmp}
use Rattle.std.specs.List.{list_any}
use Rattle.std.specs.Ordering.{nat_cmp}
use denote.Ref.{Bor}

-- the set contains exactly these tokens
abbrev pub HasTokens : List (List ℕ) → BTreeSet (Bor (List ℕ)) → Type 0
HasTokens tokens ordered = (token : List ℕ) → contains_by (λ k. slice_cmp nat_cmp token k.now) ordered ≡ list_any (bytes_eq token) tokens
