-- Where a copy is made: the snapshot stays as it is, and each place is free until its copy is made.
use Rattle.std.proofs.Common.{◌≡◌, ◌≢◌, ◌⊎◌, ℕ, Bool, true, false, List, [], ◌∷◌, ◌++◌, Option, None, Some, refl, sym, ap, ◌∙◌, subst, inl, inr, append_assoc}
use Rattle.std.specs.Prelude.{if◌then◌else◌}
use Rattle.std.specs.FinMap.{get}
use Rattle.dav_key.specs.Key.{Key, parent}
use Rattle.dav_resource.specs.declared.record.Op.TheVariants.{ReadDir}
use Rattle.dav_key.specs.Below.{is_at_or_below}
use Rattle.dav_store.specs.BelowLaws.{at_or_below-append, at_or_below-tail}
use Rattle.dav_store.specs.MemberLaws.{member-parent, parent-member}
use Rattle.dav_store.specs.Store.{Contents, Node, File, Directory, Tree, IsWellFormed}
use Rattle.dav_store.specs.Calls.{metadata_bar, create_dir_bar}
use Rattle.dav_store.specs.Members.{member, read_dir_bar}
use Rattle.dav_store.specs.Transfers.{copy_bar}
use Rattle.dav_walks.specs.KeyCall.{standing}
use Rattle.dav_walks.specs.Trace.{HasKind}
use Rattle.dav_walks.specs.Copying.{snapshot, IsGranted, IsMade, IsListed, copied, HasRoom}
use Rattle.dav_walks.proofs.Keys.{below_cancel, append-nothing}
use Rattle.dav_walks.proofs.Kept.{none_or}
use Rattle.dav_walks.proofs.Single.{Standing, node_of, stands_in}
use Rattle.dav_walks.proofs.Facts.{directory_there}
use Rattle.dav_walks.proofs.CopyGrow.{Steps, Sound}

-- what is in the snapshot stands in the tree, and isn't at or below the top destination
pub snap_there : (tree : Tree) (s top x : Key) → snapshot tree s top x ≢ None → (is_at_or_below (s ++ x) top ≡ false) × (snapshot tree s top x ≡ get tree (s ++ x))
snap_there tree s top x there = go (is_at_or_below (s ++ x) top) refl there
  where
    go : (b : Bool) → is_at_or_below (s ++ x) top ≡ b → (if b then None else get tree (s ++ x)) ≢ None → (is_at_or_below (s ++ x) top ≡ false) × (snapshot tree s top x ≡ get tree (s ++ x))
    go true e none = absurd (none refl)
    go false e in_tree = (e, ap (λ b. if b then None else get tree (s ++ x)) e)

pub snap_is : (tree : Tree) (s top x : Key) → is_at_or_below (s ++ x) top ≡ false → snapshot tree s top x ≡ get tree (s ++ x)
snap_is tree s top x e = ap (λ b. if b then None else get tree (s ++ x)) e

pub copied_node : (it : Standing) → (copied it).0 ≡ it.0
copied_node (Some (File bytes), properties) = refl
copied_node (Some Directory, properties) = refl
copied_node (None, properties) = refl

ends_in_name : (y : Key) (n : List ℕ) → [] ≡ y ++ n ∷ [] → ⊥
ends_in_name [] n p = cc
ends_in_name (a ∷ y) n p = cc

-- nothing is its own parent's place
parent_apart : (d x : Key) → d ≢ [] → parent d ≢ d ++ x
parent_apart [] x there p = there refl
parent_apart (a ∷ d) x there p =
    let child = member-parent a d in
    ends_in_name x child.0 (below_cancel (a ∷ d) [] (x ++ child.0 ∷ []) (append-nothing (a ∷ d) ∙ child.1 ∙ ap (λ k. member k child.0) p ∙ append_assoc (a ∷ d) x (child.0 ∷ [])))

module _ {s top d : Key} {old : Contents} (room : HasRoom s top d old) where
  pub apart_from_place : (x y : Key) → is_at_or_below (s ++ x) top ≡ false → s ++ x ≢ d ++ y
  apart_from_place x y e p =
      let tail = at_or_below-tail top d room.within in
      let inside : is_at_or_below (s ++ x) top ≡ true = ap (λ k. is_at_or_below k top) (p ∙ ap (λ k. k ++ y) tail.1 ∙ append_assoc top tail.0 y) ∙ at_or_below-append top (tail.0 ++ y) in
      let q : true ≡ false = sym inside ∙ e in
      cc

  module _ (formed : IsWellFormed old) where
    pub nothing_at_place : (x : Key) → get old.tree (d ++ x) ≡ None
    nothing_at_place [] = ap (get old.tree) (append-nothing d) ∙ room.free
    nothing_at_place (n ∷ x) = go (none_or _)
      where
        go : (get old.tree (d ++ n ∷ x) ≡ None) ⊎ (get old.tree (d ++ n ∷ x) ≢ None) → get old.tree (d ++ n ∷ x) ≡ None
        go (inl none) = none
        go (inr there) = absurd (directory_there _ (stands_in old formed x d n there) room.free)

    not_root : d ≢ []
    not_root p = directory_there _ formed.root (ap (get old.tree) (sym p) ∙ room.free)

    module _ {mid : Contents} {steps : Steps} (sound : Sound s top d old mid steps) where
      pub source_still : (x : Key) → snapshot old.tree s top x ≢ None → standing mid (s ++ x) ≡ standing old (s ++ x)
      source_still x there = sound.others (s ++ x) (λ y m p. apart_from_place x y (snap_there old.tree s top x there).0 p)

      -- what is in the snapshot still stands
      pub snap_still : (x : Key) → snapshot old.tree s top x ≢ None → get mid.tree (s ++ x) ≡ snapshot old.tree s top x
      snap_still x there = node_of (source_still x there) ∙ sym (snap_there old.tree s top x there).1

      pub place_free : (p : Key) → (IsMade p steps → ⊥) → get mid.tree (d ++ p) ≡ None
      place_free p unmade = node_of (sound.others (d ++ p) (λ x m e. unmade (subst (λ y. IsMade y steps) (sym (below_cancel d p x e)) m))) ∙ nothing_at_place p

      listed_made : (y : Key) → IsGranted ReadDir y steps → get mid.tree (d ++ y) ≡ Some Directory
      listed_made y i =
          let called = sound.called_for _ i in
          node_of (sound.made y (inr called.1)) ∙ copied_node (standing old (s ++ y)) ∙ sym (snap_there old.tree s top y (directory_there _ called.0)).1 ∙ called.0

      pub place_above : (p : Key) → (p ≡ []) ⊎ IsListed p steps → get mid.tree (parent (d ++ p)) ≡ Some Directory
      place_above p (inl e) =
          let same : parent (d ++ p) ≡ parent d = ap parent (ap (λ x. d ++ x) e ∙ append-nothing d) in
          ap (get mid.tree) same ∙ node_of (sound.others (parent d) (λ x m. parent_apart d x not_root)) ∙ room.above
      place_above p (inr (y, n, is, listed)) =
          let same : parent (d ++ p) ≡ d ++ y = ap parent (ap (λ x. d ++ x) is ∙ sym (append_assoc d y (n ∷ []))) ∙ parent-member (d ++ y) n in
          ap (get mid.tree) same ∙ listed_made y listed

-- ---- nothing bars the calls

pub look_free : (it : Option Node) → it ≢ None → metadata_bar it ≡ None
look_free None there = absurd (there refl)
look_free (Some it) there = refl

pub copy_free : (from to above : Option Node) → HasKind false from → to ≡ None → above ≡ Some Directory → copy_bar from to above ≡ None
copy_free from to above file free directory = rw (file.1, free, directory) refl

pub make_free : (to above : Option Node) → to ≡ None → above ≡ Some Directory → create_dir_bar to above ≡ None
make_free to above free directory = rw (free, directory) refl

pub list_free : (it : Option Node) → it ≡ Some Directory → read_dir_bar it ≡ None
list_free it directory = rw directory refl
