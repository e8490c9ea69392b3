-- What is saved elsewhere stays safe, with its bytes.
use Rattle.std.proofs.Common.{◌≡◌, ◌∙◌, ◌⊎◌, inl, inr, ℕ, Bool, true, List, Option, Some, None, refl, sym, ap, subst}
use Rattle.std.specs.Coded.{Coded}
use Rattle.dav_nodes.specs.Tree.{Tree}
use Rattle.dav_tree.specs.Before.{entries_code, saved_code, past_code}
use Rattle.dav_tree.specs.Bodies.{KeepsBodies, KeepsMarked}
use Rattle.dav_tree.specs.Entry.{is_held}
use Rattle.dav_tree.specs.Kept.{AreHeld, AreSaved, resources_by}
use Rattle.dav_tree.specs.declared.entry.Content.{Content}
use Rattle.dav_tree.specs.declared.entry.Content.TheVariants as contents
use Rattle.dav_tree.specs.declared.entry.Entry.{Entry}
use Rattle.dav_tree.proofs.Keeping.{same-resources}
use Rattle.dav_tree.proofs.Sweeping.{files-more}

-- nothing is saved
pub saved-none : {B : Type 0} (safe : B → Bool) (before : Option (Tree (Entry B))) → before ≡ None → AreSaved safe before
saved-none safe before none = λ tree at. absurd (let clash : None ≡ Some tree = sym none ∙ at in cc)

some_entries : {B : Type 0} (s t : Tree (Entry B)) → Some s ≡ Some t → s ≡ t
some_entries s t e = cc

-- all that there is now is saved
pub saved-all : {B : Type 0} (safe : B → Bool) (before : Option (Tree (Entry B))) (tree : Tree (Entry B)) → before ≡ Some tree → AreHeld safe tree → AreSaved safe before
saved-all safe before tree is held = λ t at. subst (AreHeld safe) (some_entries tree t (sym is ∙ at)) held

-- the medium is the same
pub saved-same : {B : Type 0} (safe : B → Bool) (before after : Option (Tree (Entry B))) → after ≡ before → AreSaved safe before → AreSaved safe after
saved-same safe before after is saved = λ tree at. saved tree (sym is ∙ at)

module _ {M B : Type 0} (bytes : M → B → List ℕ) (holds safe : M → B → Bool) (old new : M) (kept : KeepsBodies bytes holds safe old new) where
  -- the medium keeps its bodies
  pub saved-now : (before after : Option (Tree (Entry B))) → after ≡ before → AreSaved (safe old) before → AreSaved (safe new) after
  saved-now before after is saved = λ tree at. files-more (safe old) (safe new) kept.still tree (saved tree (sym is ∙ at))

  pub past-now : (code : Coded B) → ((medium : M) (body : B) → safe medium body ≡ true → holds medium body ≡ true)
      → (before after : Option (Tree (Entry B))) → after ≡ before → AreSaved (safe old) before → past_code code (bytes new) after ≡ past_code code (bytes old) before
  past-now code own None after is saved = ap (past_code code (bytes new)) is
  past-now code own (Some tree) after is saved =
      ap (past_code code (bytes new)) is
      ∙ ap (saved_code (entries_code code tree)) (same-resources (bytes old) (bytes new) (holds old) (holds new) kept.held kept.same tree (files-more (safe old) (holds old) (own old) tree (saved tree refl)))

-- ---- a sweep

module _ {M B : Type 0} (bytes : M → B → List ℕ) (holds safe marked : M → B → Bool) (m0 m1 m2 : M) (kept : KeepsBodies bytes holds safe m0 m1) (ends : KeepsMarked bytes holds safe marked m1 m2)
    (tree : Tree (Entry B)) (files : AreHeld (marked m1) tree) where
  safe_content : (content : Content B) → is_held (marked m1) content ≡ true → is_held (safe m0) content ≡ true → is_held (safe m2) content ≡ true
  safe_content (contents.File body) is was = ends.still body is (kept.still body was)
  safe_content contents.Directory is was = refl

  -- what is marked stays safe
  pub swept-saved : (before : Option (Tree (Entry B))) → (before ≡ None) ⊎ (before ≡ Some tree) → AreSaved (safe m0) before → AreSaved (safe m2) before
  swept-saved before (inl none) saved = saved-none (safe m2) before none
  swept-saved before (inr is) saved = λ t at.
      subst (AreHeld (safe m2)) (some_entries tree t (sym is ∙ at)) (λ key e here. safe_content e.content (files key e here) (saved tree is key e here))

  pub swept-past : (code : Coded B) (before : Option (Tree (Entry B))) → (before ≡ None) ⊎ (before ≡ Some tree) → resources_by (bytes m2) tree ≡ resources_by (bytes m0) tree
      → past_code code (bytes m2) before ≡ past_code code (bytes m0) before
  swept-past code before (inl none) same = ap (past_code code (bytes m2)) none ∙ sym (ap (past_code code (bytes m0)) none)
  swept-past code before (inr is) same = ap (past_code code (bytes m2)) is ∙ ap (saved_code (entries_code code tree)) same ∙ sym (ap (past_code code (bytes m0)) is)
