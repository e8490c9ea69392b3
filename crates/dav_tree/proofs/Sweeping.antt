-- A sweep of the medium: what is marked is held afterwards, with its bytes.
use Rattle.std.proofs.Common.{◌≡◌, ◌∙◌, ◌⊎◌, inl, inr, ℕ, Bool, true, false, cond, List, [], ◌∷◌, Some, refl, sym, ap}
use Rattle.std.specs.Ordering.{nat_cmp}
use Rattle.std.specs.Map.{lookup}
use Rattle.std.specs.BTreeMap.{BTreeMap, is_at}
use base.Stored.{Gv}
use Rattle.dav_nodes.specs.Tree.{Tree}
use Rattle.dav_tree.specs.Memory.{used_by}
use Rattle.dav_tree.specs.Bodies.{KeepsBodies, KeepsMarked}
use Rattle.dav_tree.specs.Kept.{Kept, Rest, kept_by, resources_by, bodies_by, held_of, AreHeld, AreStored, AreKept, Has}
use Rattle.dav_tree.specs.Entry.{is_held}
use Rattle.dav_tree.specs.declared.entry.Content.{Content}
use Rattle.dav_tree.specs.declared.entry.Content.TheVariants as contents
use Rattle.dav_tree.specs.declared.entry.Entry.{Entry}
use Rattle.dav_tree.proofs.Keeping.{same-resources, same-bodies, held-tree, kept-now, has-now, resources-before, counted-before}

-- ---- the stored bodies, one after the other

-- a body is marked, or still to come
abbrev pub IsMarkedOrLeft : {B : Type 0} → (B → Bool) → List (ℕ × B) → ℕ → B → Type 0
IsMarkedOrLeft marked left number body = (lookup (is_at (nat_cmp number)) left ≡ Some body) ⊎ (marked body ≡ true)

next_marked : {B : Type 0} (marked0 marked1 : B → Bool) (b : Bool) (x body : B) (left : List (ℕ × B)) (number : ℕ) → cond b (Some x) (lookup (is_at (nat_cmp number)) left) ≡ Some body
    → (x ≡ body → marked1 body ≡ true) → IsMarkedOrLeft marked1 left number body
next_marked marked0 marked1 true x body left number is here = inr (here (let same : Some x ≡ Some body = is in cc))
next_marked marked0 marked1 false x body left number is here = inl is

pub marked-step : {B : Type 0} (marked0 marked1 : B → Bool) (e : ℕ × B) (left : List (ℕ × B)) (number : ℕ) (body : B) → IsMarkedOrLeft marked0 (e ∷ left) number body
    → (marked0 body ≡ true → marked1 body ≡ true) → (e.1 ≡ body → marked1 body ≡ true) → IsMarkedOrLeft marked1 left number body
marked-step marked0 marked1 e left number body (inl is) stays here = next_marked marked0 marked1 (is_at (nat_cmp number) e.0) e.1 body left number is here
marked-step marked0 marked1 e left number body (inr is) stays here = inr (stays is)

pub marked-end : {B : Type 0} (marked : B → Bool) (number : ℕ) (body : B) → IsMarkedOrLeft marked [] number body → marked body ≡ true
marked-end marked number body (inl is) = absurd cc
marked-end marked number body (inr is) = is

-- ---- the files

pub more-held : {B : Type 0} (h0 h1 : B → Bool) → ((body : B) → h0 body ≡ true → h1 body ≡ true) → (content : Content B) → is_held h0 content ≡ true → is_held h1 content ≡ true
more-held h0 h1 more (contents.File body) is = more body is
more-held h0 h1 more contents.Directory is = refl

pub files-more : {B : Type 0} (h0 h1 : B → Bool) → ((body : B) → h0 body ≡ true → h1 body ≡ true) → (tree : Tree (Entry B)) → AreHeld h0 tree → AreHeld h1 tree
files-more h0 h1 more tree held = λ key e here. more-held h0 h1 more e.content (held key e here)

-- ---- the medium

module _ {M B : Type 0} (bytes : M → B → List ℕ) (holds safe : M → B → Bool) where
  pub bodies-trans : (a b c : M) → KeepsBodies bytes holds safe a b → KeepsBodies bytes holds safe b c → KeepsBodies bytes holds safe a c
  bodies-trans a b c x y = record {
    held = λ body is. y.held body (x.held body is);
    same = λ body is. y.same body (x.held body is) ∙ x.same body is;
    still = λ body is. y.still body (x.still body is);
  }

  module _ (marked : M → B → Bool) (m0 m1 m2 : M) (before : KeepsBodies bytes holds safe m0 m1) (ends : KeepsMarked bytes holds safe marked m1 m2)
      (rest : Rest) (tree : Tree (Entry B)) (used : ℕ) (bodies : BTreeMap ℕ B) (next : ℕ) (past : Gv) (kept : Kept) (is : kept_by (bytes m0) rest tree bodies next past ≡ kept)
      (inv : AreKept (bytes m0) (holds m0) tree used bodies next) (files : AreHeld (marked m1) tree) (stored : AreStored (marked m1) bodies) where
    resources_are : resources_by (bytes m1) tree ≡ resources_by (bytes m0) tree
    resources_are = same-resources (bytes m0) (bytes m1) (holds m0) (holds m1) before.held before.same tree inv.held

    bodies_are : bodies_by (bytes m1) bodies ≡ bodies_by (bytes m0) bodies
    bodies_are = same-bodies (bytes m0) (bytes m1) (holds m0) (holds m1) before.held before.same bodies inv.stored

    marked_is : kept_by (bytes m1) rest tree bodies next past ≡ kept
    marked_is = (λ i. record { resources = resources_are i; numbers = tree.numbers; bodies = bodies_are i; next = next; honest = rest.honest; faultless = rest.faultless; settled = rest.settled; tree = rest.tree; before = past; older = rest.older }) ∙ is

    marked_kept : AreKept (bytes m1) (marked m1) tree used bodies next
    marked_kept = record { held = files; counted = inv.counted ∙ ap used_by (sym resources_are); stored = stored; below = inv.below }

    pub swept-resources : resources_by (bytes m2) tree ≡ kept.resources
    swept-resources = resources-before (bytes m1) (bytes m2) (marked m1) (holds m2) ends.held ends.same rest tree used bodies next past kept marked_is marked_kept

    -- what was marked is kept
    pub swept-kept : AreKept (bytes m2) (holds m2) tree used bodies next
    swept-kept = kept-now (bytes m1) (bytes m2) (marked m1) (holds m2) ends.held ends.same rest tree used bodies next past kept marked_is marked_kept tree kept.resources used
        (held-tree (bytes m1) (bytes m2) (marked m1) (holds m2) ends.held ends.same tree files) swept-resources
        (counted-before (bytes m1) (bytes m2) (marked m1) (holds m2) ends.held ends.same rest tree used bodies next past kept marked_is marked_kept)

    -- nothing has changed
    pub swept-has : (rest1 : Rest) (past1 : Gv) → past1 ≡ past → Has kept.resources (held_of kept) (kept_by (bytes m2) rest1 tree bodies next past1)
    swept-has rest1 past1 same_past =
        has-now (bytes m1) (bytes m2) (marked m1) (holds m2) ends.held ends.same rest tree used bodies next past kept marked_is marked_kept rest1 tree past1 same_past kept.resources swept-resources
