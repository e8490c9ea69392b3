-- From what holds of each value at its key to what holds of each entry, and back.
use Rattle.std.proofs.Common.{◌≡◌, ◌∙◌, Bool, true, false, cond, List, [], ◌∷◌, map, Some, Bor, T, refl, sym, ap, subst}
use Rattle.std.specs.List.{AllByRecursion}
use Rattle.std.specs.Ordering.{eq_by_cmp}
use Rattle.std.specs.FinMap.{FinMap, get, entries, entries_sorted, get-entries}
use Rattle.std.specs.FinMap.Entries.{find, is_sorted, below_all}
use Rattle.dav_key.specs.Key.{Key, key_cmp, tied_decides}
use Rattle.dav_key.specs.EachLaws.{both_parts}
use Rattle.dav_tree.proofs.Sums.{found-later}

module _ {X : Type 0} (P : Key → X → Type 0) where
  -- each entry has what holds of its value at its key
  abbrev pub AllEntries : List (Key × X) → Type 0
  AllEntries es = AllByRecursion (λ e. P e.0 e.1) es

  all_found : (es : List (Key × X)) → T (is_sorted key_cmp es) → ((k : Key) (x : X) → find key_cmp k es ≡ Some x → P k x) → AllEntries es
  all_found [] h each = tt
  all_found (e ∷ es) h each =
      let parts = both_parts (below_all key_cmp e.0 es) (is_sorted key_cmp es) h in (
        each e.0 e.1 (ap (λ b. cond b (Some e.1) (find key_cmp e.0 es)) ((tied_decides e.0 e.0).1 refl)),
        all_found es parts.1 (λ k x here. each k x (found-later e es parts.0 k x here)),
      )

  pub all-entries : (m : FinMap key_cmp X) → ((k : Key) (x : X) → get m k ≡ Some x → P k x) → AllEntries (entries m)
  all-entries m each = all_found (entries m) (entries_sorted m) (λ k x here. each k x (get-entries m k ∙ here))

  found_all : (es : List (Key × X)) → AllEntries es → (k : Key) (x : X) → find key_cmp k es ≡ Some x → P k x
  found_all [] each k x here = absurd cc
  found_all (e ∷ es) each k x here = by (eq_by_cmp key_cmp k e.0) refl here (found_all es each.1 k x)
    where
      by : (b : Bool) → eq_by_cmp key_cmp k e.0 ≡ b → cond b (Some e.1) (find key_cmp k es) ≡ Some x → (find key_cmp k es ≡ Some x → P k x) → P k x
      by true tied is later =
          let same : e.1 ≡ x = cc in
          subst (P k) same (subst (λ q. P q e.1) (sym ((tied_decides k e.0).0 tied)) each.0)
      by false apart is later = later is

  pub at-entries : (m : FinMap key_cmp X) → AllEntries (entries m) → (k : Key) (x : X) → get m k ≡ Some x → P k x
  at-entries m each k x here = found_all (entries m) each k x (sym (get-entries m k) ∙ here)

-- what holds of each value that a list of references leads to
pub all-behind : {K X : Type 0} (P : X → Type 0) (xs : List (K × Bor X)) → AllByRecursion {X = K × X} (λ e. P e.1) (map (λ e. (e.0, e.1.now)) xs) → AllByRecursion {X = K × Bor X} (λ e. P e.1.now) xs
all-behind P [] each = tt
all-behind P (x ∷ xs) each = (each.0, all-behind P xs each.1)
