-- The tree when a store was last asked what has changed, as one value.
use Rattle.std.proofs.Common.{◌≡◌, ◌∙◌, ◌⊎◌, inl, inr, ℕ, Bool, true, List, Option, Some, None, refl, sym, ap, subst}
use Rattle.std.specs.Coded.{Coded}
use base.Stored.{Gv, gnil, gcons}
use Rattle.dav_nodes.specs.Tree.{Tree}
use Rattle.dav_nodes.specs.Codes.{tree_code}
use Rattle.dav_nodes.specs.Rows.{Row, HasRow, HasNoted, AreNoted, AreDistinct, is_noted}
use Rattle.dav_nodes.specs.declared.changes.Changes.{Changes}
use Rattle.dav_tree.specs.Codes.{resources_code}
use Rattle.dav_tree.specs.Memory.{Resources}
use Rattle.dav_tree.specs.Kept.{Kept, AreSaved, resources_by}
use Rattle.dav_tree.specs.Before.{entry_code, entries_code, saved_code, past_code, IsTreeIn, IsSaved, IsNotedBetween, IsSafe, HasSaved, HasEntry, HasNoEntry}
use Rattle.dav_tree.specs.declared.entry.Entry.{Entry}

same_head : (a b c d : Gv) → gcons a b ≡ gcons c d → a ≡ c
same_head a b c d e = cc

same_tail : (a b c d : Gv) → gcons a b ≡ gcons c d → b ≡ d
same_tail a b c d e = cc

-- trees and resources with the same value are the same
pub same-entries : {B : Type 0} (code : Coded B) (s t : Tree (Entry B)) → entries_code code s ≡ entries_code code t → s ≡ t
same-entries code s t e = (tree_code (entry_code code)).inj s t e

pub same-trees : {B : Type 0} (code : Coded B) (s t : Tree (Entry B)) (q r : Resources) → saved_code (entries_code code s) q ≡ saved_code (entries_code code t) r → s ≡ t
same-trees code s t q r e = same-entries code s t (same_head (entries_code code s) (resources_code.code q) (entries_code code t) (resources_code.code r) e)

some_tree : {B : Type 0} (s t : Tree (Entry B)) → Some s ≡ Some t → s ≡ t
some_tree s t e = cc

same_resources : {B : Type 0} (code : Coded B) (s t : Tree (Entry B)) (q r : Resources) → saved_code (entries_code code s) q ≡ saved_code (entries_code code t) r → q ≡ r
same_resources code s t q r e = resources_code.inj q r (same_tail (entries_code code s) (resources_code.code q) (entries_code code t) (resources_code.code r) e)

module _ {B : Type 0} (code : Coded B) (bytes : B → List ℕ) where
  -- the value says which tree it was
  pub tree-before : (before : Option (Tree (Entry B))) (past : Gv) → past_code code bytes before ≡ past → (tree : Tree (Entry B)) → IsTreeIn past (entries_code code tree) → before ≡ Some tree
  tree-before None past was tree there = absurd (let clash : saved_code (entries_code code tree) there.0 ≡ gnil = there.1 ∙ sym was in cc)
  tree-before (Some old) past was tree there = ap Some (same-trees code old tree (resources_by bytes old) there.0 (was ∙ sym there.1))

  all-noted : (changes : Changes) (before : Option (Tree (Entry B))) (tree : Tree (Entry B)) → AreNoted changes before tree → past_code code bytes before ≡ gnil → (number : ℕ) → is_noted changes number ≡ true
  all-noted changes None tree noted is = noted
  all-noted changes (Some old) tree noted is = absurd cc

  -- what is noted of trees is noted of their values
  pub noted-between : (changes : Changes) (before : Option (Tree (Entry B))) (tree : Tree (Entry B)) (past now : Gv)
      → AreNoted changes before tree → AreDistinct tree → past_code code bytes before ≡ past → entries_code code tree ≡ now → IsNotedBetween code changes past now
  noted-between changes before tree past now noted distinct was is = record {
    first = λ none. all-noted changes before tree noted (was ∙ none);
    distinct = λ new is_new. subst AreDistinct (same-entries code tree new (is ∙ sym is_new)) distinct;
    later = λ old new is_old is_new.
        subst (HasNoted changes old) (same-entries code tree new (is ∙ sym is_new))
        (subst (λ b. AreNoted changes b tree) (tree-before before past was old is_old) noted);
  }

  -- what is saved is none, or all that there is now
  pub saved-tree : (before : Option (Tree (Entry B))) (tree : Tree (Entry B)) (kept : Kept) → past_code code bytes before ≡ kept.before → entries_code code tree ≡ kept.tree
      → (kept.before ≡ gnil) ⊎ IsSaved kept → (before ≡ None) ⊎ (before ≡ Some tree)
  saved-tree before tree kept was now (inl none) = inl (no_tree before (was ∙ none))
    where
      no_tree : (o : Option (Tree (Entry B))) → past_code code bytes o ≡ gnil → o ≡ None
      no_tree None is = refl
      no_tree (Some t) is = absurd cc
  saved-tree before tree kept was now (inr is) = inr (tree-before before kept.before was tree (kept.resources, ap (λ t. saved_code t kept.resources) now ∙ is))

  -- what is saved is safe, with its bytes
  pub has-saved : (safe : B → Bool) (before : Option (Tree (Entry B))) (past : Gv) → past_code code bytes before ≡ past → AreSaved safe before → HasSaved code bytes safe past
  has-saved safe before past was saved = λ tree resources is. by tree resources before saved (was ∙ sym is)
    where
      by : (tree : Tree (Entry B)) (resources : Resources) (o : Option (Tree (Entry B))) → AreSaved safe o → past_code code bytes o ≡ saved_code (entries_code code tree) resources → IsSafe bytes safe tree resources
      by tree resources None held e = absurd cc
      by tree resources (Some old) held e =
          let same : old ≡ tree = same-trees code old tree (resources_by bytes old) resources e in
          record {
            held = held tree (ap Some same);
            bytes_are = ap (resources_by bytes) (sym same) ∙ same_resources code old tree (resources_by bytes old) resources e;
          }

  -- the tree is the one that is saved
  pub unchanged : (before : Option (Tree (Entry B))) (tree : Tree (Entry B)) (kept : Kept) → past_code code bytes before ≡ kept.before → entries_code code tree ≡ kept.tree
      → resources_by bytes tree ≡ kept.resources → before ≡ Some tree → IsSaved kept
  unchanged before tree kept was now resources is = (λ i. saved_code (sym now i) (sym resources i)) ∙ sym (ap (past_code code bytes) is) ∙ was

-- the row of a number
pub has-entry : {B : Type 0} (code : Coded B) (tree : Tree (Entry B)) (now : Gv) (number : ℕ) (row : Row (Entry B)) → entries_code code tree ≡ now → HasRow tree number row → HasEntry code now number row
has-entry code tree now number row is has = λ t at. subst (λ t. HasRow t number row) (same-entries code tree t (is ∙ sym at)) has

pub has-no-entry : {B : Type 0} (code : Coded B) (tree : Tree (Entry B)) (now : Gv) (number : ℕ) → entries_code code tree ≡ now → ((row : Row (Entry B)) → HasRow tree number row → ⊥) → HasNoEntry code now number
has-no-entry code tree now number is none = λ t row at has. none row (subst (λ t. HasRow t number row) (sym (same-entries code tree t (is ∙ sym at))) has)
