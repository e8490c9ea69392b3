-- Entries with the resources of a tree that was loaded.
use Rattle.std.proofs.Common.{◌≡◌, ◌∙◌, ℕ, ◌+◌, Bool, true, List, [], ◌∷◌, map, All, Bor, Option, Some, None, refl, sym, ap, subst}
use Rattle.std.proofs.lemmas.List.Elements.{All-from_recursion}
use Rattle.std.proofs.lemmas.List.Sums.{sum_by-cons}
use Rattle.std.specs.Coded.{Coded}
use Rattle.std.specs.List.{AllByRecursion, sum_by}
use Rattle.std.specs.Map.{lookup}
use Rattle.std.specs.Option.{option_map}
use Rattle.std.specs.Ordering.{nat_cmp}
use Rattle.std.specs.FinMap.{entries}
use Rattle.std.specs.BTreeMap as ordered
use Rattle.std.specs.BTreeMap.{BTreeMap, is_at}
use Rattle.dav_key.specs.Key.{Key}
use Rattle.dav_nodes.specs.Tree.{Tree}
use Rattle.dav_tree.specs.Before.{entries_code, past_code, rest_of}
use Rattle.dav_key.specs.EachLaws.{with_values, entries-each-some}
use Rattle.dav_tree.specs.Entry.{node_by, stored_by, is_held}
use Rattle.dav_tree.specs.Kept.{kept_by, resources_by, AreHeld, AreKept}
use Rattle.dav_tree.specs.Loading.{IsLoaded}
use Rattle.dav_tree.specs.Memory.{Stored, size_of, used_by}
use Rattle.dav_tree.specs.declared.entry.Entry.{Entry}
use Rattle.dav_tree.proofs.Dumps.{seen-entries}
use Rattle.dav_tree.proofs.EachEntry.{all-entries, all-behind}
use Rattle.dav_tree.proofs.Keeping.{get-bodies}

module _ {B : Type 0} (bytes : B → List ℕ) (tree now : Tree (Entry B)) (is : now ≡ tree) (bodies : BTreeMap ℕ B) (none : bodies.entries ≡ []) where
  no_body : (number : ℕ) → ordered.get nat_cmp bodies number ≡ None
  no_body number = ap (lookup (is_at (nat_cmp number))) none

  pub loaded-kept : (holds : B → Bool) (used : ℕ) → used ≡ used_by (resources_by bytes tree) → AreHeld holds tree → AreKept bytes holds now used bodies 0
  loaded-kept holds used counts held = record {
    held = subst (AreHeld holds) (sym is) held;
    counted = counts ∙ ap (λ t. used_by (resources_by bytes t)) (sym is);
    stored = λ number body here. absurd (let clash : None ≡ Some body = sym (no_body number) ∙ here in cc);
    below = λ number _. no_body number;
  }

  pub is-loaded : (code : Coded B) (honest faultless : Bool) (settled : Option (List ℕ)) (before : Option (Tree (Entry B))) → before ≡ Some tree
      → IsLoaded code bytes tree (kept_by bytes (rest_of code bytes honest faultless settled now None) now bodies 0 (past_code code bytes before))
  is-loaded code honest faultless settled before saved = record {
    resources = ap (resources_by bytes) is;
    held = λ i. record { bodies = λ n. (get-bodies bytes bodies n ∙ ap (option_map bytes) (no_body n)) i; next = 0; before = ap (past_code code bytes) saved i };
    entries = ap (entries_code code) is;
    older = refl;
  }

-- ---- the number of bytes

module _ {B : Type 0} (bytes : B → List ℕ) where
  abbrev pub entry_size : Key × Bor (Entry B) → ℕ
  entry_size e = size_of (node_by bytes e.1.now.content)

  abbrev stored_size : Key × Stored → ℕ
  stored_size e = size_of e.1.node

  sum_seen : (xs : List (Key × Bor (Entry B))) → sum_by entry_size xs ≡ sum_by stored_size (map (λ e. (e.0, stored_by bytes e.1.now)) xs)
  sum_seen [] = refl
  sum_seen (x ∷ xs) =
      sum_by-cons entry_size x xs ∙ ap (λ n. entry_size x + n) (sum_seen xs)
      ∙ sym (sum_by-cons stored_size (x.0, stored_by bytes x.1.now) (map (λ e. (e.0, stored_by bytes e.1.now)) xs))

  pub used-seen : (tree : Tree (Entry B)) (xs : List (Key × Bor (Entry B))) → map (λ e. (e.0, e.1.now)) xs ≡ entries tree.values → sum_by entry_size xs ≡ used_by (resources_by bytes tree)
  used-seen tree xs are =
      sum_seen xs
      ∙ ap (sum_by stored_size) (seen-entries (stored_by bytes) xs ∙ ap (with_values (stored_by bytes)) are ∙ sym (entries-each-some (stored_by bytes) tree.values))

-- each entry of a list is held
pub held-seen : {B : Type 0} (holds : B → Bool) (tree : Tree (Entry B)) (xs : List (Key × Bor (Entry B))) → map (λ e. (e.0, e.1.now)) xs ≡ entries tree.values → AreHeld holds tree
    → All (λ e. is_held holds e.1.now.content ≡ true) xs
held-seen {B} holds tree xs are held =
    let Held : Entry B → Type 0 = λ e. is_held holds e.content ≡ true in
    All-from_recursion (λ e. Held e.1.now) xs (all-behind Held xs (subst (AllByRecursion (λ e. Held e.1)) (sym are) (all-entries (λ k e. Held e) tree.values held)))
