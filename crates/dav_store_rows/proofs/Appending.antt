-- Changes that are appended, one after another.
use Rattle.std.proofs.Common.{◌≡◌, ◌≤◌, ◌-◌, ℤ, arith, ℕ, zero, suc, ◌+◌, List, [], ◌∷◌, ◌++◌, refl, sym, ap, ◌∙◌, append_assoc, append-nil}
use Rattle.dav_rows.specs.Contents.{Contents}
use Rattle.dav_rows.specs.Changes.{after, after_one, removed}
use Rattle.dav_rows.specs.declared.change.Change.{Change}
use Rattle.dav_rows.specs.declared.change.Change.TheVariants.{Remove}
use Rattle.dav_rows.specs.declared.change.Table.{Table}
use Rattle.dav_rows.specs.declared.change.Table.TheVariants.{Extent, Property}
use Rattle.dav_rows.proofs.SavingLemmas.{after-append}
use Rattle.dav_store_rows.specs.Parts.{part_key}
use Rattle.dav_store_rows.specs.Changed.{Appends, without_parts, removed_parts}

pub appends_none : (a : List Change) → Appends (λ m. m) a a
appends_none a = record { more = []; is = sym (append-nil a); makes = λ m. refl }

pub appends_one : (f : Contents → Contents) (change : Change) (a b : List Change) → b ≡ a ++ change ∷ [] → ((m : Contents) → after_one change m ≡ f m) → Appends f a b
appends_one f change a b is makes = record { more = change ∷ []; is = is; makes = makes }

pub appends_then : (f g : Contents → Contents) (a b c : List Change) → Appends f a b → Appends g b c → Appends (λ m. g (f m)) a c
appends_then f g a b c p q = record {
  more = p.more ++ q.more;
  is = q.is ∙ ap (λ xs. xs ++ q.more) p.is ∙ append_assoc a p.more q.more;
  makes = λ m. after-append p.more q.more m ∙ ap (after q.more) (p.makes m) ∙ q.makes (f m);
}

pub appends_same : (f g : Contents → Contents) (a b : List Change) → ((m : Contents) → f m ≡ g m) → Appends f a b → Appends g a b
appends_same f g a b same p = record { more = p.more; is = p.is; makes = λ m. p.makes m ∙ same m }

-- ---- what a removal makes of each table

pub removed_extents : (number index count : ℕ) (m : Contents) → removed_parts Extent number index count m ≡ record m { extents = without_parts number index count m.extents }
removed_extents number index zero m = refl
removed_extents number index (suc count) m = ap (removed Extent (part_key number (index + count))) (removed_extents number index count m)

pub removed_properties : (number index count : ℕ) (m : Contents) → removed_parts Property number index count m ≡ record m { properties = without_parts number index count m.properties }
removed_properties number index zero m = refl
removed_properties number index (suc count) m = ap (removed Property (part_key number (index + count))) (removed_properties number index count m)

-- one more part is removed
pub removed_next : (table : Table) (number from index : ℕ) (key : ℤ) (a b now : List Change) → from ≤ index → Appends (removed_parts table number from (index - from)) a b
    → key ≡ part_key number index → now ≡ b ++ Remove table key ∷ [] → Appends (removed_parts table number from (index + 1 - from)) a now
removed_next table number from index key a b now low p key_is is =
    appends_same (λ m. removed table key (removed_parts table number from (index - from) m)) (removed_parts table number from (index + 1 - from)) a now
    (λ m. ap (λ k. removed table k (removed_parts table number from (index - from) m))
    (key_is ∙ ap (part_key number) (let same : index ≡ from + (index - from) = omega arith in same))
    ∙ ap (λ n. removed_parts table number from n m) (let more : suc (index - from) ≡ index + 1 - from = omega arith in more))
    (appends_then (removed_parts table number from (index - from)) (removed table key) a b now p (appends_one (removed table key) (Remove table key) b now is (λ m. refl)))
