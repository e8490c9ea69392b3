-- The first value of a name, found by going over the fields of a map.
use Rattle.std.proofs.Common.{◌≡◌, ◌<◌, ℕ, true, false, List, [], ◌∷◌, ◌++◌, length, Option, Some, None, bytes_eq, slice_get, if◌then◌else◌, slice_index_or, suc, refl, arith, inl, inr}
use Rattle.std.proofs.lemmas.Bool.{cases_Bool}
use Rattle.http_header.specs.HeaderMap.{Entries, Entry, get, pairs, entry_pairs, IsHeaderMap}

module _ {X : Type 0} where
  -- the first value of the name
  abbrev pub first_of : List ℕ → List (List ℕ × X) → Option X
  first_of name [] = None
  first_of name (p ∷ ps) = if bytes_eq p.0 name then Some p.1 else first_of name ps

  -- the pairs of other names are passed over
  first_of-others : (name own : List ℕ) (values : List X) (ps : List (List ℕ × X)) → bytes_eq own name ≡ false
      → first_of name (entry_pairs (own, values) ++ ps) ≡ first_of name ps
  first_of-others name own [] ps n = refl
  first_of-others name own (v ∷ values) ps n = rw n (first_of-others name own values ps n)

  first_of-own : (name own : List ℕ) (values : List X) (ps : List (List ℕ × X)) → bytes_eq own name ≡ true → 0 < length values
      → first_of name (entry_pairs (own, values) ++ ps) ≡ slice_get values 0
  first_of-own name own [] ps t some = absurd (omega arith)
  first_of-own name own (v ∷ values) ps t some = rw t refl

  first_of-entries : (name : List ℕ) (m : Entries X) → ((i : ℕ) (d : Entry X) → i < length m → 0 < length (slice_index_or m i d).1)
      → first_of name (pairs m) ≡ get m name
  first_of-entries name [] filled = refl
  first_of-entries name (e ∷ m) filled =
      elim (cases_Bool (bytes_eq e.0 name)) [
        | inl t ↦ rw t (first_of-own name e.0 e.1 (pairs m) t (filled 0 e (omega arith)))
        | inr n ↦
            rw n
            (rw (first_of-others name e.0 e.1 (pairs m) n)
            (first_of-entries name m (λ i d h. filled (suc i) d (omega arith))))
      ]

  pub first_of-pairs : (name : List ℕ) (m : Entries X) → IsHeaderMap m → first_of name (pairs m) ≡ get m name
  first_of-pairs name m valid = first_of-entries name m valid.filled

-- without a first value there is none
pub none-from_first : {X : Type 0} (values : List X) → slice_get values 0 ≡ None → values ≡ []
none-from_first [] none = refl
none-from_first (v ∷ values) none = absurd cc
