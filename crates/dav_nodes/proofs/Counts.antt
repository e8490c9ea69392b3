-- How many keys have a value: no more than there are slots for nodes.
use Rattle.std.proofs.Common.{◌≡◌, ◌∙◌, ◌≤◌, ◌<◌, eqb, ℕ, arith, Bool, true, false, T, List, [], ◌∷◌, map, Option, Some, None, is_some, refl, sym, ap, subst}
use Rattle.std.specs.Ordering.{is_lt}
use Rattle.std.specs.Cmp.{tied_itself}
use Rattle.std.specs.List.{AllByRecursion, IsDistinct, list_any}
use Rattle.std.specs.Option.{unwrap_or}
use Rattle.std.specs.FinMap.{get, entries, entries_sorted, len, len-entries}
use Rattle.std.specs.FinMap.Entries.{is_sorted, below_all}
use Rattle.std.proofs.lemmas.Bool.Decides.{nat_tests}
use Rattle.std.proofs.lemmas.List.{length-map}
use Rattle.std.proofs.lemmas.Map.Steps.{length-le_from_distinct_below}
use Rattle.dav_key.specs.Key.{Key, key_cmp, key_cmp_total}
use Rattle.dav_nodes.specs.Tree.{Tree}
use Rattle.dav_nodes.specs.Links.{AreLinked}
use Rattle.dav_nodes.proofs.MemberEntries.{parts}
use Rattle.dav_nodes.proofs.Subtrees.{entries_found}
use Rattle.dav_nodes.proofs.Listings.{number_from_value}

-- a key is not less than itself
not_less : (a b : Key) → a ≡ b → is_lt (key_cmp a b) ≡ false
not_less a b same = ap (λ k. is_lt (key_cmp a k)) (sym same) ∙ ap is_lt (tied_itself key_cmp_total a)

module _ {R : Type 0} (value : ℕ → Option R) (member : List ℕ → ℕ → Option ℕ) (tree : Tree R) (linked : AreLinked value member tree) where
  -- the number of a key with a value
  abbrev number_of : Key × R → ℕ
  number_of entry = unwrap_or (get tree.numbers entry.0) 0

  -- the key of an entry has its number
  abbrev IsNumbered : Key × R → Type 0
  IsNumbered entry = get tree.numbers entry.0 ≡ Some (number_of entry)

  numbered : (entry : Key × R) → get tree.values entry.0 ≡ Some entry.1 → IsNumbered entry
  numbered entry there = by (get tree.numbers entry.0) refl (number_from_value value member tree linked entry.0 (ap is_some there))
    where
      by : (o : Option ℕ) → get tree.numbers entry.0 ≡ o → is_some (get tree.numbers entry.0) ≡ true → IsNumbered entry
      by None at some = absurd (let no : true ≡ false = sym some ∙ ap is_some at in cc)
      by (Some n) at some = at ∙ ap Some (sym (ap (λ o. unwrap_or o 0) at))

  all_numbered : (es : List (Key × R)) → AllByRecursion (λ e. get tree.values e.0 ≡ Some e.1) es → AllByRecursion IsNumbered es
  all_numbered [] a = tt
  all_numbered (e ∷ es) a = (numbered e a.0, all_numbered es a.1)

  -- different keys have different numbers
  numbers_apart : (e f : Key × R) → IsNumbered e → IsNumbered f → is_lt (key_cmp e.0 f.0) ≡ true → eqb (number_of e) (number_of f) ≡ false
  numbers_apart e f at_e at_f less = by (eqb (number_of e) (number_of f)) refl
    where
      by : (b : Bool) → eqb (number_of e) (number_of f) ≡ b → b ≡ false
      by false is = refl
      by true is =
          let same : number_of e ≡ number_of f = grind (arith, nat_tests) in
          let no : true ≡ false = sym less ∙ not_less e.0 f.0 (linked.one e.0 f.0 (number_of e) at_e (at_f ∙ ap Some (sym same))) in
          absurd cc

  apart_from : (e : Key × R) (es : List (Key × R)) → IsNumbered e → AllByRecursion IsNumbered es → T (below_all key_cmp e.0 es) → AllByRecursion (λ n. eqb (number_of e) n ≡ false) (map number_of es)
  apart_from e [] at a below = tt
  apart_from e (f ∷ es) at a below =
      let q = parts (is_lt (key_cmp e.0 f.0)) (below_all key_cmp e.0 es) below in
      (numbers_apart e f at a.0 (is_true (is_lt (key_cmp e.0 f.0)) q.0), apart_from e es at a.1 q.1)
    where
      is_true : (b : Bool) → T b → b ≡ true
      is_true true t = refl
      is_true false t = absurd t

  distinct_numbers : (es : List (Key × R)) → AllByRecursion IsNumbered es → T (is_sorted key_cmp es) → IsDistinct eqb (map number_of es)
  unfolding IsDistinct
  distinct_numbers [] a sorted = tt
  distinct_numbers (e ∷ es) a sorted =
      let q = parts (below_all key_cmp e.0 es) (is_sorted key_cmp es) sorted in
      (apart_from e es a.0 a.1 q.0, distinct_numbers es a.1 q.1)

  module _ (bound : ℕ) (within : (n : ℕ) → is_some (value n) ≡ true → n < bound) where
    all_within : (es : List (Key × R)) → AllByRecursion IsNumbered es → (n : ℕ) → list_any (eqb n) (map number_of es) ≡ true → n < bound
    all_within [] a n has = absurd cc
    all_within (e ∷ es) a n has = by (eqb n (number_of e)) refl (λ later. all_within es a.1 n later)
      where
        by : (b : Bool) → eqb n (number_of e) ≡ b → (list_any (eqb n) (map number_of es) ≡ true → n < bound) → n < bound
        by true is rest =
            let same : n ≡ number_of e = grind (arith, nat_tests) in
            subst (λ m. m < bound) (sym same) (within (number_of e) (linked.live e.0 (number_of e) a.0))
        by false is rest = rest (rw is at has)

    -- where each number with a value is below a bound, so is how many keys have one, or it is the bound
    pub len-at_most : len tree.values ≤ bound
    len-at_most =
        let es = entries tree.values in
        let a = all_numbered es (entries_found tree.values) in
        let few = length-le_from_distinct_below (map number_of es) bound (distinct_numbers es a (entries_sorted tree.values)) (all_within es a) in
        omega (arith, few, len-entries tree.values, length-map es number_of)
