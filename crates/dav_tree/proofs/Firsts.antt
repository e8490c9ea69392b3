-- A store with the root only.
use Rattle.std.proofs.Common.{◌≡◌, ◌∙◌, ℕ, ◌+◌, Bool, true, List, [], ◌∷◌, Some, None, refl, sym, ap, arith, length}
use Rattle.std.specs.Option.{option_map}
use Rattle.std.specs.Ordering.{nat_cmp}
use Rattle.std.specs.Map.{lookup}
use Rattle.std.specs.List.{sum_by}
use Rattle.std.specs.FinMap.{empty, insert, entries, get-empty, len-empty, len-entries, same_map}
use Rattle.std.specs.BTreeMap as ordered
use Rattle.std.specs.BTreeMap.{BTreeMap, is_at}
use Rattle.dav_key.specs.Key.{key_cmp, key_cmp_total, key_cmp_exact}
use base.Stored.{Gv, gnil}
use Rattle.dav_nodes.specs.Tree.{Tree, root_tree}
use Rattle.dav_tree.specs.Memory.{Stored, size_of, used_by, none_held, fresh}
use Rattle.dav_store.specs.Store.{Directory}
use Rattle.dav_key.specs.Below.{each}
use Rattle.dav_key.specs.EachLaws.{get-each-some}
use Rattle.dav_tree.specs.Entry.{node_by, stored_by, is_held}
use Rattle.dav_tree.specs.Kept.{Rest, kept_by, resources_by, AreKept, held_of}
use Rattle.dav_tree.specs.declared.entry.Entry.{Entry}
use Rattle.dav_tree.proofs.Keeping.{get-bodies}
use Rattle.dav_tree.proofs.Sums.{total, part, total-insert}
use Rattle.dav_tree.proofs.Editing.{size, held-insert, resources-insert}

each-none : {X Y : Type 0} (f : X → Y) → each (λ x. Some (f x)) (empty {X = X} {R = key_cmp}) ≡ empty
each-none {X} {Y} f = same_map key_cmp_total key_cmp_exact _ _ (λ q. get-each-some f (empty {X = X} {R = key_cmp}) q ∙ ap (option_map f) (get-empty key_cmp q) ∙ sym (get-empty key_cmp q))

sum_none : {X : Type 0} (f : X → ℕ) (es : List X) → length es ≡ 0 → sum_by f es ≡ 0
sum_none f [] e = refl
sum_none f (x ∷ es) e = absurd (omega arith)

used_none : used_by empty ≡ 0
used_none = sum_none _ (entries (empty {X = Stored} {R = key_cmp})) (sym (len-entries empty) ∙ len-empty key_cmp Stored)

pub used-first : used_by (insert empty [] (fresh Directory 0 0)) ≡ 0
used-first =
    let sums : total size (insert empty [] (fresh Directory 0 0)) + 0 ≡ total size empty + 0 =
    ap (λ o. total size (insert empty [] (fresh Directory 0 0)) + part size o) (sym (get-empty key_cmp [])) ∙ total-insert size empty [] (fresh Directory 0 0) in
    omega (arith, sums, used_none)

module _ {B : Type 0} (bytes : B → List ℕ) (holds : B → Bool) (root : Entry B) (tree : Tree (Entry B)) (is : tree ≡ root_tree root) (bodies : BTreeMap ℕ B) (none : bodies.entries ≡ []) where
  abbrev before : Tree (Entry B)
  before = record { values = empty; numbers = empty }

  values_are : tree.values ≡ insert before.values [] root
  values_are = ap (λ (t : Tree (Entry B)). t.values) is

  pub first-resources : resources_by bytes tree ≡ insert empty [] (stored_by bytes root)
  first-resources = resources-insert bytes [] before tree root values_are ∙ ap (λ m. insert m [] (stored_by bytes root)) (each-none (stored_by bytes))

  no_body : (number : ℕ) → ordered.get nat_cmp bodies number ≡ None
  no_body number = ap (lookup (is_at (nat_cmp number))) none

  pub first-kept : is_held holds root.content ≡ true → size_of (node_by bytes root.content) ≡ 0 → AreKept bytes holds tree 0 bodies 0
  first-kept own small = record {
    held = held-insert holds [] before tree root values_are (λ q e here. absurd (let clash : None ≡ Some e = sym (get-empty key_cmp q) ∙ here in cc)) own;
    counted = count;
    stored = λ number body here. absurd (let clash : None ≡ Some body = sym (no_body number) ∙ here in cc);
    below = λ number _. no_body number;
  }
    where
      sums : total size (insert empty [] (stored_by bytes root)) + 0 ≡ total size empty + size (stored_by bytes root)
      sums = ap (λ o. total size (insert empty [] (stored_by bytes root)) + part size o) (sym (get-empty key_cmp [])) ∙ total-insert size empty [] (stored_by bytes root)

      count : 0 ≡ used_by (resources_by bytes tree)
      count = omega (arith, sums, used_none, small, ap used_by first-resources)

  pub first-held : (rest : Rest) (past : Gv) → past ≡ gnil → held_of (kept_by bytes rest tree bodies 0 past) ≡ none_held
  first-held rest past never = λ i. record { bodies = λ n. (get-bodies bytes bodies n ∙ ap (option_map bytes) (no_body n)) i; next = 0; before = never i }
