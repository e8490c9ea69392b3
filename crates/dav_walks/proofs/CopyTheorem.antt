-- Where nothing is left to be done the copy is whole: each key of the snapshot is copied, or lies under a name.
use Rattle.std.proofs.Common.{◌≡◌, ◌≢◌, ◌⊎◌, ℕ, Bool, true, false, List, [], ◌∷◌, ◌++◌, Option, None, Some, map, refl, sym, ap, ◌∙◌, subst, inl, inr, append_assoc}
use Rattle.std.specs.Prelude.{not, IsPermutation}
use Rattle.std.specs.FinMap.{get}
use Rattle.std.specs.List.{cons_option}
use Rattle.std.proofs.lemmas.List.{append-nil}
use Rattle.std.proofs.lemmas.List.Sorted.{IsPermutation-append_left}
use Rattle.dav_key.specs.Key.{Key}
use Rattle.dav_resource.specs.PathText.{PathValue}
use Rattle.dav_resource.specs.Errors.{fs_status}
use Rattle.dav_resource.specs.declared.error.FsError.{FsError}
use Rattle.dav_resource.specs.declared.record.Op.{Op}
use Rattle.dav_resource.specs.declared.record.Op.TheVariants.{Metadata, ReadDir, CreateDir, Copy}
use Rattle.dav_resource.specs.declared.record.Outcome.{Outcome}
use Rattle.dav_resource.specs.declared.record.Outcome.TheVariants.{Granted, Barred, Refused}
use Rattle.dav_resource.specs.declared.request.Depth.TheVariants.{Zero, Infinity}
use Rattle.dav_key.specs.Below.{is_at_or_below}
use Rattle.dav_store.specs.BelowLaws.{at_or_below-append, at_or_below-tail}
use Rattle.dav_store.specs.MemberLaws.{IsIn-permuted}
use Rattle.dav_store.specs.Store.{Store, Directory, IsWellFormed}
use Rattle.dav_store.specs.Calls.{error_of}
use Rattle.dav_store.specs.Members.{IsIn, member}
use Rattle.dav_messages.specs.Multistatus.{Item}
use Rattle.dav_walks.specs.Deletion.{Subtree, is_call}
use Rattle.dav_walks.specs.Trace.{HasKind}
use Rattle.dav_walks.specs.Copying.{CopyStep, logged_step, snapshot, HasOutcome, IsAsked, IsGranted, HasUnseen, IsMade, path_of_step, named_once, names_behind, names_of_copy, IsUnderName, CopiesTree, is_directory_node}
use Rattle.dav_walks.specs.declared.copy_frame.CopyFrame.{CopyFrame}
use Rattle.dav_walks.specs.CopyFrames.{CopiesWhole, BreaksOffCopy}
use Rattle.dav_walks.proofs.Keys.{child_below, append-nothing}
use Rattle.dav_walks.proofs.Single.{Names, stands_in}
use Rattle.dav_walks.proofs.CopyGrow.{Steps, step_on}
use Rattle.dav_walks.proofs.CopyReach.{Reached}
use Rattle.dav_walks.proofs.CopyRoom.{snap_there, snap_is}
use Rattle.dav_walks.proofs.CopyNames.{StartsAnew, names_append}
use Rattle.dav_walks.proofs.CopyEnter.{path_at-key}
use Rattle.dav_walks.proofs.CopyState.{owed_all, owed_all-none, IsWaiting, Underway}
use Rattle.dav_walks.proofs.CopySteps.{kind_of_node}
use Rattle.dav_walks.proofs.CopyBound.{lawful_all}

behind_option : {X : Type 0} (o : Option X) (x : X) (xs : List X) → IsIn x xs → IsIn x (cons_option o xs)
behind_option None x xs i = i
behind_option (Some y) x xs i = inr i

-- each refused call is named
named_among : (source dest : PathValue) (snap : Subtree) (after_unseen : Bool) (steps : Steps) (op : Op) (x : Key) (outcome : Outcome) (e : FsError) → is_call op ≡ true → error_of outcome ≡ Some e → HasOutcome op outcome x steps
    → IsIn (path_of_step source dest snap op x, fs_status e) (names_behind source dest snap after_unseen steps)
named_among source dest snap after_unseen [] op x outcome e call is i = absurd i
named_among source dest snap after_unseen (step ∷ steps) op x outcome e call is (inr i) = behind_option (named_once source dest snap after_unseen step) _ _ (named_among source dest snap (not (is_call step.op)) steps op x outcome e call is i)
named_among source dest snap after_unseen (step ∷ steps) op x outcome e call is (inl same) =
    subst (λ (t : CopyStep). IsIn (path_of_step source dest snap op x, fs_status e) (cons_option (named_once source dest snap after_unseen t) (names_behind source dest snap (not (is_call t.op)) steps))) (sym same) (first after_unseen)
  where
    first : (b : Bool) → IsIn (path_of_step source dest snap op x, fs_status e) (cons_option (named_once source dest snap b (step_on x op outcome)) (names_behind source dest snap (not (is_call op)) steps))
    first false = rw is (inl refl)
    first true = rw (call, is) (inl refl)

-- what was asked was granted, or refused with an error
came_of : (op : Op) (x : Key) (steps : Steps) → IsAsked op x steps → IsGranted op x steps ⊎ ((outcome : Outcome) × (e : FsError) × (error_of outcome ≡ Some e) × HasOutcome op outcome x steps)
came_of op x steps (Granted, i) = inl i
came_of op x steps (Barred e, i) = inr (Barred e, e, refl, i)
came_of op x steps (Refused e, i) = inr (Refused e, e, refl, i)

module _ (source dest : PathValue) (top : Key) (old mid : Store) (had has : Names) (steps : Steps) (formed : IsWellFormed old.contents) (underway : Underway source dest top old mid had has steps [] []) where
  abbrev snap : Subtree
  snap = snapshot old.contents.tree source.key top

  all_named : IsPermutation (names_of_copy source dest snap steps) underway.names
  all_named = subst (IsPermutation (names_of_copy source dest snap steps)) (ap (λ l. underway.names ++ l) owed_all-none ∙ append-nil underway.names) underway.bag

  under : (x y z : Key) → x ≡ y ++ z → (item : Item) → IsIn item (names_of_copy source dest snap steps) → (item.0.key ≡ source.key ++ y) ⊎ (item.0.key ≡ dest.key ++ y) → IsUnderName source.key dest.key x underway.names
  under x y z is item i key = (y, z, is, item, IsIn-permuted _ _ item all_named i, key)

  -- a refused call on the way
  refused_under : (op : Op) (x y z : Key) → x ≡ y ++ z → is_call op ≡ true → ((path_of_step source dest snap op y).key ≡ source.key ++ y) ⊎ ((path_of_step source dest snap op y).key ≡ dest.key ++ y)
      → (outcome : Outcome) (e : FsError) → error_of outcome ≡ Some e → HasOutcome op outcome y steps → IsUnderName source.key dest.key x underway.names
  refused_under op x y z is call key outcome e refused i = under x y z is (path_of_step source dest snap op y, fs_status e) (named_among source dest snap false steps op y outcome e call refused i) key

  -- a key of the snapshot above another
  module _ (y : Key) (n : List ℕ) (z : Key) (there : snap (y ++ n ∷ z) ≢ None) where
    below_there : get old.contents.tree (source.key ++ (y ++ n ∷ z)) ≢ None
    below_there none = there ((snap_there old.contents.tree source.key top (y ++ n ∷ z) there).1 ∙ none)

    longer : (w v : Key) → w ++ v ≡ y ++ n ∷ z → is_at_or_below (source.key ++ w) top ≡ false
    longer w v same = go (is_at_or_below (source.key ++ w) top) refl
      where
        go : (b : Bool) → is_at_or_below (source.key ++ w) top ≡ b → b ≡ false
        go false e = refl
        go true e =
            let tail = at_or_below-tail top (source.key ++ w) e in
            let inside : is_at_or_below (source.key ++ (y ++ n ∷ z)) top ≡ true
            = ap (λ k. is_at_or_below k top) (ap (λ k. source.key ++ k) (sym same) ∙ sym (append_assoc source.key w v) ∙ ap (λ k. k ++ v) tail.1 ∙ append_assoc top tail.0 v) ∙ at_or_below-append top (tail.0 ++ v) in
            let p : true ≡ false = sym inside ∙ (snap_there old.contents.tree source.key top (y ++ n ∷ z) there).0 in
            absurd (cc)

    above_directory : snap y ≡ Some Directory
    above_directory = snap_is old.contents.tree source.key top y (longer y (n ∷ z) refl)
        ∙ stands_in old.contents formed z (source.key ++ y) n (λ none. below_there (ap (get old.contents.tree) (sym (append_assoc source.key y (n ∷ z))) ∙ none))

    member_there : snap (member y n) ≢ None
    member_there none = present (snap_is old.contents.tree source.key top (member y n) (longer (member y n) z (child_below y n z)))
      where
        present : snap (member y n) ≡ get old.contents.tree (source.key ++ member y n) → ⊥
        present same = gone z there (sym same ∙ none)
          where
            gone : (v : Key) → snap (y ++ n ∷ v) ≢ None → get old.contents.tree (source.key ++ member y n) ≡ None → ⊥
            gone [] at empty = at ((snap_there old.contents.tree source.key top (member y n) at).1 ∙ empty)
            gone (m ∷ v) at empty =
                let key : source.key ++ (y ++ n ∷ m ∷ v) ≡ (source.key ++ member y n) ++ m ∷ v = ap (λ k. source.key ++ k) (sym (child_below y n (m ∷ v))) ∙ sym (append_assoc source.key (member y n) (m ∷ v)) in
                let directory = stands_in old.contents formed v (source.key ++ member y n) m (λ nothing. at ((snap_there old.contents.tree source.key top (y ++ n ∷ m ∷ v) at).1 ∙ ap (get old.contents.tree) key ∙ nothing)) in
                let p : Some Directory ≡ None = sym directory ∙ empty in
                cc

  -- from a key that was looked at on
  missed_from : (z y x : Key) → x ≡ y ++ z → snap x ≢ None → IsAsked Metadata y steps → IsMade x steps ⊎ IsUnderName source.key dest.key x underway.names
  missed_from [] y x is there asked = elim (came_of Metadata y steps asked) [
    | inr refused ↦ inr (refused_under Metadata x y [] is refl (inl (path_at-key source _ _)) refused.0 refused.1 refused.2 refused.3)
    | inl seen ↦ by_kind (is_directory_node (snap y)) (kind_of_node (snap y) (λ none. there (ap snap here ∙ none))) seen
  ]
    where
      here : x ≡ y
      here = is ∙ append-nothing y

      by_kind : (slash : Bool) → HasKind slash (snap y) → IsGranted Metadata y steps → IsMade x steps ⊎ IsUnderName source.key dest.key x underway.names
      by_kind false file seen = elim (came_of Copy y steps (underway.files y file seen)) [
        | inl made ↦ inl (inl (subst (λ (k : Key). IsGranted Copy k steps) (sym here) made))
        | inr refused ↦ inr (refused_under Copy x y [] is refl (inl (path_at-key source _ _)) refused.0 refused.1 refused.2 refused.3)
      ]
      by_kind true directory seen = elim (came_of CreateDir y steps (underway.directories y directory seen)) [
        | inl made ↦ inl (inr (subst (λ (k : Key). IsGranted CreateDir k steps) (sym here) made))
        | inr refused ↦ inr (refused_under CreateDir x y [] is refl (inr (path_at-key dest _ _)) refused.0 refused.1 refused.2 refused.3)
      ]
  missed_from (n ∷ z) y x is there asked = elim (came_of Metadata y steps asked) [
    | inr refused ↦ inr (refused_under Metadata x y (n ∷ z) is refl (inl (path_at-key source _ _)) refused.0 refused.1 refused.2 refused.3)
    | inl seen ↦ elim (came_of CreateDir y steps (underway.directories y directory seen)) [
      | inr refused ↦ inr (refused_under CreateDir x y (n ∷ z) is refl (inr (path_at-key dest _ _)) refused.0 refused.1 refused.2 refused.3)
      | inl made ↦ elim (came_of ReadDir y steps (underway.listings y made)) [
        | inr refused ↦ inr (refused_under ReadDir x y (n ∷ z) is refl (inl (path_at-key source _ _)) refused.0 refused.1 refused.2 refused.3)
        | inl listed ↦ further (λ deeper. missed_from z (member y n) x (is ∙ sym (child_below y n z)) there deeper) (underway.members y n (member_there y n z inside) listed)
      ]
    ]
  ]
    where
      inside : snap (y ++ n ∷ z) ≢ None
      inside none = there (ap snap is ∙ none)

      directory : HasKind true (snap y)
      directory = above_directory y n z inside

      further : (IsAsked Metadata (member y n) steps → IsMade x steps ⊎ IsUnderName source.key dest.key x underway.names) → IsAsked Metadata (member y n) steps ⊎ HasUnseen y steps ⊎ IsWaiting source [] (member y n) ⊎ IsIn (member y n) [] → IsMade x steps ⊎ IsUnderName source.key dest.key x underway.names
      further deeper (inl asked) = deeper asked
      further deeper (inr (inl unseen)) = let named = underway.unseen_named y unseen in inr (under x y (n ∷ z) is named.0 named.1 (inl named.2))
      further deeper (inr (inr (inl waiting))) = absurd waiting.1
      further deeper (inr (inr (inr nothing))) = absurd nothing

  pub copies_tree : IsAsked Metadata [] steps → CopiesTree source dest top old.contents mid.contents steps underway.names
  copies_tree begun = record {
    lawful = lawful_all underway.reached.sound;
    whole = record {
      source = begun;
      files = underway.files;
      directories = underway.directories;
      listings = underway.listings;
      members = λ x n there i. elim (underway.members x n there i) [
        | inl asked ↦ inl asked
        | inr more ↦ elim more [ inl unseen ↦ inr unseen | inr others ↦ elim others [ inl waiting ↦ absurd waiting.1 | inr nothing ↦ absurd nothing ] ]
      ];
    };
    named = all_named;
    missed = λ x there. missed_from x [] x refl there begun;
  }

  pub whole : mid.facts ≡ old.facts → IsAsked Metadata [] steps → CopiesWhole Infinity source dest top old mid had has
  whole fixed begun = record {
    records = map (logged_step source.key dest.key) steps;
    recorded = underway.reached.log;
    fixed = fixed;
    names = underway.names;
    added = underway.named;
    copies = (steps, refl, copies_tree begun);
  }

-- ---- broken off

-- what was named so far are some of the names of the calls
pub breaks_off : {source dest : PathValue} {top : Key} {old mid : Store} {had has : Names} {steps : Steps} {frames : List CopyFrame} {hand : List Key} → Underway source dest top old mid had has steps frames hand
    → (new : Store) → new.facts ≡ old.facts → (more : Steps) → Reached source.key top dest.key old new (steps ++ more) → StartsAnew source dest (snapshot old.contents.tree source.key top) more
    → BreaksOffCopy Infinity source dest top old new had has
breaks_off {source} {dest} {top} {old} {mid} {had} {has} {steps} {frames} underway new fixed more reached anew = record {
  records = map (logged_step source.key dest.key) (steps ++ more);
  recorded = reached.log;
  fixed = fixed;
  stops = record {
    part = (steps ++ more, refl, lawful_all reached.sound);
    alone = λ zero. absurd (let p : Infinity ≡ Zero = zero in cc);
    names = underway.names;
    added = underway.named;
    named = (
      steps ++ more,
      refl,
      (
        owed_all frames ++ names_of_copy source dest (snapshot old.contents.tree source.key top) more,
        subst (λ l. IsPermutation l (underway.names ++ (owed_all frames ++ names_of_copy source dest (snapshot old.contents.tree source.key top) more))) (sym (names_append source dest (snapshot old.contents.tree source.key top) steps more anew))
            (subst (IsPermutation (names_of_copy source dest (snapshot old.contents.tree source.key top) steps ++ names_of_copy source dest (snapshot old.contents.tree source.key top) more)) (append_assoc underway.names (owed_all frames) (names_of_copy source dest (snapshot old.contents.tree source.key top) more))
            (IsPermutation-append_left (names_of_copy source dest (snapshot old.contents.tree source.key top) more) _ _ underway.bag)),
      ),
    );
  };
}
