-- The begin of a key's copy, call by call.
use Rattle.std.proofs.Common.{◌≡◌, ◌≢◌, ◌⊎◌, ℕ, Bool, true, false, List, [], ◌∷◌, ◌++◌, Option, None, Some, Err, map, drop, refl, sym, ap, ◌∙◌, subst, inl, inr, append_assoc}
use Rattle.std.specs.FinMap.{get}
use Rattle.std.proofs.lemmas.List.{append-nil}
use Rattle.dav_key.specs.Key.{Key}
use Rattle.dav_resource.specs.PathText.{PathValue}
use Rattle.dav_resource.specs.Errors.{fs_status}
use Rattle.dav_resource.specs.declared.record.Op.{Op}
use Rattle.dav_resource.specs.declared.record.Op.TheVariants.{Metadata, ReadDir, CreateDir, Copy, Entry}
use Rattle.dav_resource.specs.declared.record.Outcome.{Outcome}
use Rattle.dav_resource.specs.declared.record.Outcome.TheVariants.{Granted, Refused}
use Rattle.dav_resource.specs.declared.error.FsError.{FsError}
use Rattle.dav_store.specs.Store.{Store, Contents, IsWellFormed}
use Rattle.dav_store.specs.Calls.{IsMetaAt}
use Rattle.dav_store.specs.Members.{IsIn, member, Child, AreChildren}
use Rattle.dav_walks.specs.declared.copy_frame.CopyFrame.{CopyFrame}
use Rattle.dav_walks.specs.Deletion.{WasRefused, path_at, Subtree, is_call}
use Rattle.dav_walks.specs.Trace.{HasKind}
use Rattle.dav_walks.specs.Copying.{CopyStep, snapshot, IsAsked, IsGranted, HasUnseen, IsMade, IsListed, HasRoom, path_of_step, names_behind, names_of_copy}
use Rattle.dav_walks.specs.CopyFrames.{LooksUpAt, CopiesFile, MakesPlace, ListsSource, Finds, MakesPlaceOf, EntersCopy, unlooked, filed, unmade, after_made, IsCutCopy, at_look, at_file, at_place, at_listing}
use Rattle.dav_walks.proofs.Keys.{IsIn-right}
use Rattle.dav_walks.proofs.Listings.{Shown, kind_of_meta, children_once}
use Rattle.dav_walks.proofs.Single.{Names, has_error, beside}
use Rattle.dav_walks.proofs.CopyGrow.{Steps, step_on, call_of, only_one, IsIn-map, map-IsIn, come_later, unseen_steps}
use Rattle.dav_walks.proofs.CopyReach as reach
use Rattle.dav_walks.proofs.CopyReach.{Reached, IsNew}
use Rattle.dav_walks.proofs.CopyRoom.{snap_still}
use Rattle.dav_walks.proofs.CopyNames.{StartsAnew, granted_anew, refused_anew, first_unseen, owed_in, owed_some}
use Rattle.dav_walks.proofs.CopyEnter.{path_at-key, member_above, kind_same, kind_said, kind_present, two_kinds, clear_new, clear_unmade, new_after, unmade_after, unseen_near, unseen_among, unseen_only, InHand, OpensAt, Opens, rest, owed, owed_by, IsNamedIn, Went, op_apart, not_granted}

module _ (source dest : PathValue) {top : Key} {old mid : Store} {steps : Steps} {p : Key} (room : HasRoom source.key top dest.key old.contents) (formed : IsWellFormed old.contents)
    (reached : Reached source.key top dest.key old mid steps) (sound : IsWellFormed mid.contents) (hand : InHand (snapshot old.contents.tree source.key top) steps p)
    (from to : PathValue) (at_source : from ≡ path_at source hand.slash (source.key ++ p)) (at_dest : to ≡ path_at dest hand.slash (dest.key ++ p)) where
  abbrev snap : Subtree
  snap = snapshot old.contents.tree source.key top

  from_key : from.key ≡ source.key ++ p
  from_key = ap (λ (v : PathValue). v.key) at_source ∙ path_at-key source hand.slash (source.key ++ p)

  to_key : to.key ≡ dest.key ++ p
  to_key = ap (λ (v : PathValue). v.key) at_dest ∙ path_at-key dest hand.slash (dest.key ++ p)

  there : snap p ≢ None
  there = kind_present hand.slash (snap p) hand.kind

  -- what the lookup says of its kind
  kind_found : {dir : Bool} {new : Store} → Finds dir from mid new → hand.slash ≡ dir
  kind_found {dir} found =
      let is : HasKind found.meta.dir (get mid.contents.tree from.key) = kind_of_meta _ (mid.contents.metas from.key) found.meta (sound.metas from.key) found.looked.effect.answer in
      let same : get mid.contents.tree from.key ≡ snap p = ap (get mid.contents.tree) from_key ∙ snap_still room formed reached.sound p there in
      kind_same hand.slash found.meta.dir (snap p) hand.kind (subst (HasKind found.meta.dir) same is) ∙ found.kind

  kind_at : {dir : Bool} {new : Store} → Finds dir from mid new → HasKind dir (snap p)
  kind_at found = subst (λ b. HasKind b (snap p)) (kind_found found) hand.kind

  -- the lookup was granted
  after_look : {dir : Bool} {new : Store} → Finds dir from mid new → Reached source.key top dest.key old new (steps ++ step_on p Metadata Granted ∷ [])
  after_look {dir} {new} found = reach.looked room formed reached new p from.key from_key there hand.come (clear_new p Metadata steps hand.clear) _ (λ (e : IsMetaAt from.key found.meta mid.contents new.contents). e.same) found.looked

  come_seen : (p ≡ []) ⊎ IsListed p (steps ++ step_on p Metadata Granted ∷ [])
  come_seen = come_later steps (step_on p Metadata Granted ∷ []) p hand.come

  seen_there : IsGranted Metadata p (steps ++ step_on p Metadata Granted ∷ [])
  seen_there = IsIn-right _ steps _ (inl refl)

  unmade_seen : IsMade p (steps ++ step_on p Metadata Granted ∷ []) → ⊥
  unmade_seen = unmade_after p Metadata Granted steps (clear_unmade p steps hand.clear) (λ e. cc) (λ e. cc)

  new_copy : IsNew p Copy (steps ++ step_on p Metadata Granted ∷ [])
  new_copy = new_after p p Copy Metadata Granted steps (clear_new p Copy steps hand.clear) (λ e. cc)

  new_place : IsNew p CreateDir (steps ++ step_on p Metadata Granted ∷ [])
  new_place = new_after p p CreateDir Metadata Granted steps (clear_new p CreateDir steps hand.clear) (λ e. cc)

  -- and the directory made
  after_place : {new : Store} → MakesPlaceOf from to mid new → Reached source.key top dest.key old new ((steps ++ step_on p Metadata Granted ∷ []) ++ step_on p CreateDir Granted ∷ [])
  after_place {new} made = reach.placed room formed (after_look made.found) new p to.key to_key (kind_at made.found) come_seen seen_there new_place unmade_seen made.made

  new_listing : IsNew p ReadDir ((steps ++ step_on p Metadata Granted ∷ []) ++ step_on p CreateDir Granted ∷ [])
  new_listing = new_after p p ReadDir CreateDir Granted (steps ++ step_on p Metadata Granted ∷ []) (new_after p p ReadDir Metadata Granted steps (clear_new p ReadDir steps hand.clear) (λ e. cc)) (λ e. cc)

  new_entries : (n : List ℕ) → IsNew (member p n) Entry ((steps ++ step_on p Metadata Granted ∷ []) ++ step_on p CreateDir Granted ∷ [])
  new_entries n = new_after p (member p n) Entry CreateDir Granted (steps ++ step_on p Metadata Granted ∷ []) (new_after p (member p n) Entry Metadata Granted steps
      (λ i. let found = map-IsIn call_of (member p n, Entry) steps i in hand.clear found.0 found.1 (n ∷ []) (ap (λ (c : Key × Op). c.0) found.2)) (λ e. cc)) (λ e. cc)

  place_there : IsGranted CreateDir p ((steps ++ step_on p Metadata Granted ∷ []) ++ step_on p CreateDir Granted ∷ [])
  place_there = IsIn-right _ (steps ++ step_on p Metadata Granted ∷ []) _ (inl refl)

  two : (a b : CopyStep) → (steps ++ a ∷ []) ++ b ∷ [] ≡ steps ++ a ∷ b ∷ []
  two a b = append_assoc steps (a ∷ []) (b ∷ [])

  three : (a b : CopyStep) (more : Steps) → ((steps ++ a ∷ []) ++ b ∷ []) ++ more ≡ steps ++ a ∷ b ∷ more
  three a b more = ap (λ l. l ++ more) (two a b) ∙ append_assoc steps (a ∷ b ∷ []) more

  -- the path that is named
  from_named : from ≡ path_of_step source dest snap Metadata p
  from_named = at_source ∙ ap (λ b. path_at source b (source.key ++ p)) (sym (kind_said hand.slash (snap p) hand.kind))

  -- ---- the lookup is refused

  went_unlooked : (new : Store) (has finally : Names) → LooksUpAt from mid new has finally None → Went source dest top old new has finally steps p None
  went_unlooked new has finally refusal =
      let dec = refusal.declined in
      let refused : WasRefused dec.outcome = has_error dec.outcome refusal.error dec.cause in
      record {
        more = step_on p Metadata dec.outcome ∷ [];
        reached = reach.unlooked room formed reached new p from.key from_key there hand.come (clear_new p Metadata steps hand.clear) refusal.error dec;
        near = λ step i. inl (sym (ap (λ (t : CopyStep). t.at) (only_one _ _ i)));
        asked = (dec.outcome, inl refl);
        file = λ kind i. not_granted p p Metadata Metadata dec.outcome refused (only_one _ _ i);
        directory = λ kind i. not_granted p p Metadata Metadata dec.outcome refused (only_one _ _ i);
        listing = λ i. op_apart p p Metadata CreateDir dec.outcome Granted (λ e. cc) (only_one _ _ i);
        anew = λ after_unseen. refused_anew source dest snap p Metadata dec.outcome refusal.error refl dec.cause after_unseen ∙ sym (refused_anew source dest snap p Metadata dec.outcome refusal.error refl dec.cause false);
        given = (from, fs_status refusal.error) ∷ [];
        appended = refusal.named;
        names = refused_anew source dest snap p Metadata dec.outcome refusal.error refl dec.cause false ∙ ap (λ (v : PathValue). (v, fs_status refusal.error) ∷ []) (sym from_named);
        opens = λ i. op_apart p p Metadata ReadDir dec.outcome Granted (λ e. cc) (only_one _ _ i);
        unseen_named = λ x u. op_apart p (member x u.0) Metadata Entry dec.outcome u.1.0 (λ e. cc) (only_one _ _ u.1.2);
      }

  -- ---- a second call, which isn't a listing

  in_two : (a b c : CopyStep) → IsIn c (a ∷ b ∷ []) → (a ≡ c) ⊎ (b ≡ c)
  in_two a b c (inl e) = inl e
  in_two a b c (inr i) = inr (only_one b c i)

  near_two : (op : Op) (outcome : Outcome) (step : CopyStep) → IsIn step (step_on p Metadata Granted ∷ step_on p op outcome ∷ []) → (step.at ≡ p) ⊎ ((n : List ℕ) × (step.at ≡ member p n) × (step.op ≡ Entry))
  near_two op outcome step i = elim (in_two _ _ step i) [ inl e ↦ inl (sym (ap (λ (t : CopyStep). t.at) e)) | inr e ↦ inl (sym (ap (λ (t : CopyStep). t.at) e)) ]

  -- ---- a file

  module _ {middle : Store} (found : Finds false from mid middle) (new : Store) (has finally : Names) where
    went_file : (outcome : Outcome) (given : Names) → Reached source.key top dest.key old new ((steps ++ step_on p Metadata Granted ∷ []) ++ step_on p Copy outcome ∷ []) → finally ≡ has ++ given
        → ((after_unseen : Bool) → names_behind source dest snap after_unseen (step_on p Copy outcome ∷ []) ≡ given) → Went source dest top old new has finally steps p None
    went_file outcome given came appended names = record {
      more = step_on p Metadata Granted ∷ step_on p Copy outcome ∷ [];
      reached = subst (Reached source.key top dest.key old new) (two _ _) came;
      near = near_two Copy outcome;
      asked = (Granted, inl refl);
      file = λ kind i. (outcome, inr (inl refl));
      directory = λ kind i. two_kinds (snap p) (kind_at found) kind;
      listing = λ i. elim (in_two _ _ _ i) [ inl e ↦ op_apart p p Metadata CreateDir Granted Granted (λ q. cc) e | inr e ↦ op_apart p p Copy CreateDir outcome Granted (λ q. cc) e ];
      anew = λ t. granted_anew source dest snap p Metadata (step_on p Copy outcome ∷ []) refl t ∙ sym (granted_anew source dest snap p Metadata (step_on p Copy outcome ∷ []) refl false);
      given = given;
      appended = appended;
      names = granted_anew source dest snap p Metadata (step_on p Copy outcome ∷ []) refl false ∙ names false ∙ sym (append-nil given);
      opens = λ i. elim (in_two _ _ _ i) [ inl e ↦ op_apart p p Metadata ReadDir Granted Granted (λ q. cc) e | inr e ↦ op_apart p p Copy ReadDir outcome Granted (λ q. cc) e ];
      unseen_named = λ x u. elim (in_two _ _ _ u.1.2) [ inl e ↦ op_apart p (member x u.0) Metadata Entry Granted u.1.0 (λ q. cc) e | inr e ↦ op_apart p (member x u.0) Copy Entry outcome u.1.0 (λ q. cc) e ];
    }

    went_filed : (done : Bool) → CopiesFile from to middle new has finally done → Went source dest top old new has finally steps p None
    went_filed true (g, same) = went_file Granted [] (reach.copied_file room formed (after_look found) new p from.key to.key from_key to_key (kind_at found) come_seen seen_there new_copy unmade_seen g)
        (same ∙ sym (append-nil has)) (λ after_unseen. granted_anew source dest snap p Copy [] refl after_unseen)
    went_filed false refusal =
        let dec = refusal.declined in
        went_file dec.outcome ((from, fs_status refusal.error) ∷ []) (reach.uncopied room formed (after_look found) new p from.key to.key from_key to_key (kind_at found) come_seen seen_there new_copy unmade_seen refusal.error dec)
        refusal.named (λ after_unseen. refused_anew source dest snap p Copy dec.outcome refusal.error refl dec.cause after_unseen ∙ ap (λ (v : PathValue). (v, fs_status refusal.error) ∷ []) (sym from_named))

  -- ---- a directory that the store didn't make

  went_unmade : {middle : Store} → Finds true from mid middle → (new : Store) (has finally : Names) → MakesPlace to middle new has finally false → Went source dest top old new has finally steps p None
  went_unmade found new has finally refusal =
      let dec = refusal.declined in
      let refused : WasRefused dec.outcome = has_error dec.outcome refusal.error dec.cause in
      let place : to ≡ path_at dest true (dest.key ++ p) = at_dest ∙ ap (λ b. path_at dest b (dest.key ++ p)) (kind_found found) in
      let last : (after_unseen : Bool) → names_behind source dest snap after_unseen (step_on p CreateDir dec.outcome ∷ []) ≡ (path_at dest true (dest.key ++ p), fs_status refusal.error) ∷ []
      = λ after_unseen. refused_anew source dest snap p CreateDir dec.outcome refusal.error refl dec.cause after_unseen in
      record {
        more = step_on p Metadata Granted ∷ step_on p CreateDir dec.outcome ∷ [];
        reached = subst (Reached source.key top dest.key old new) (two _ _) (reach.unplaced room formed (after_look found) new p to.key to_key (kind_at found) come_seen seen_there new_place unmade_seen refusal.error dec);
        near = near_two CreateDir dec.outcome;
        asked = (Granted, inl refl);
        file = λ kind i. two_kinds (snap p) kind (kind_at found);
        directory = λ kind i. (dec.outcome, inr (inl refl));
        listing = λ i. elim (in_two _ _ _ i) [ inl e ↦ op_apart p p Metadata CreateDir Granted Granted (λ q. cc) e | inr e ↦ not_granted p p CreateDir CreateDir dec.outcome refused e ];
        anew = λ t. granted_anew source dest snap p Metadata (step_on p CreateDir dec.outcome ∷ []) refl t ∙ sym (granted_anew source dest snap p Metadata (step_on p CreateDir dec.outcome ∷ []) refl false);
        given = (to, fs_status refusal.error) ∷ [];
        appended = refusal.named;
        names = granted_anew source dest snap p Metadata (step_on p CreateDir dec.outcome ∷ []) refl false ∙ last false ∙ ap (λ (v : PathValue). (v, fs_status refusal.error) ∷ []) (sym place);
        opens = λ i. elim (in_two _ _ _ i) [ inl e ↦ op_apart p p Metadata ReadDir Granted Granted (λ q. cc) e | inr e ↦ op_apart p p CreateDir ReadDir dec.outcome Granted (λ q. cc) e ];
        unseen_named = λ x u. elim (in_two _ _ _ u.1.2) [ inl e ↦ op_apart p (member x u.0) Metadata Entry Granted u.1.0 (λ q. cc) e | inr e ↦ op_apart p (member x u.0) CreateDir Entry dec.outcome u.1.0 (λ q. cc) e ];
      }

  -- ---- a directory that it made

  module _ {middle : Store} (made : MakesPlaceOf from to mid middle) (new : Store) (has finally : Names) where
    -- the first two calls, and those behind
    near_three : (more : Steps) → ((step : CopyStep) → IsIn step more → (step.at ≡ p) ⊎ ((n : List ℕ) × (step.at ≡ member p n) × (step.op ≡ Entry)))
        → (step : CopyStep) → IsIn step (step_on p Metadata Granted ∷ step_on p CreateDir Granted ∷ more) → (step.at ≡ p) ⊎ ((n : List ℕ) × (step.at ≡ member p n) × (step.op ≡ Entry))
    near_three more near step (inl e) = inl (sym (ap (λ (t : CopyStep). t.at) e))
    near_three more near step (inr (inl e)) = inl (sym (ap (λ (t : CopyStep). t.at) e))
    near_three more near step (inr (inr i)) = near step i

    names_three : (more : Steps) (after_unseen : Bool) → names_behind source dest snap after_unseen (step_on p Metadata Granted ∷ step_on p CreateDir Granted ∷ more) ≡ names_of_copy source dest snap more
    names_three more after_unseen = granted_anew source dest snap p Metadata (step_on p CreateDir Granted ∷ more) refl after_unseen ∙ granted_anew source dest snap p CreateDir more refl false

    source_slash : from ≡ path_at source true (source.key ++ p)
    source_slash = at_source ∙ ap (λ b. path_at source b (source.key ++ p)) (kind_found made.found)

    went_behind : (more : Steps) (opened : Option CopyFrame) (given : Names) → Reached source.key top dest.key old new (((steps ++ step_on p Metadata Granted ∷ []) ++ step_on p CreateDir Granted ∷ []) ++ more)
        → ((step : CopyStep) → IsIn step more → (step.at ≡ p) ⊎ ((n : List ℕ) × (step.at ≡ member p n) × (step.op ≡ Entry))) → IsAsked ReadDir p more → finally ≡ has ++ given → names_of_copy source dest snap more ≡ given ++ owed_by opened
        → Opens source dest new.contents p (step_on p Metadata Granted ∷ step_on p CreateDir Granted ∷ more) opened → ((x : Key) → HasUnseen x more → IsNamedIn source x (names_of_copy source dest snap more))
        → Went source dest top old new has finally steps p opened
    went_behind more opened given came near asked appended names opens unseen = record {
      more = step_on p Metadata Granted ∷ step_on p CreateDir Granted ∷ more;
      reached = subst (Reached source.key top dest.key old new) (three _ _ more) came;
      near = near_three more near;
      asked = (Granted, inl refl);
      file = λ kind i. two_kinds (snap p) kind (kind_at made.found);
      directory = λ kind i. (Granted, inr (inl refl));
      listing = λ i. (asked.0, inr (inr asked.1));
      anew = λ t. names_three more t ∙ sym (names_three more false);
      given = given;
      appended = appended;
      names = names_three more false ∙ names;
      opens = opens;
      unseen_named = λ x u. subst (IsNamedIn source x) (sym (names_three more false)) (unseen x (u.0, (u.1.0, u.1.1, entry_behind x u.0 u.1.0 u.1.2)));
    }
      where
        entry_behind : (x : Key) (n : List ℕ) (outcome : Outcome) → IsIn (step_on (member x n) Entry outcome) (step_on p Metadata Granted ∷ step_on p CreateDir Granted ∷ more) → IsIn (step_on (member x n) Entry outcome) more
        entry_behind x n outcome (inl e) = op_apart p (member x n) Metadata Entry Granted outcome (λ q. cc) e
        entry_behind x n outcome (inr (inl e)) = op_apart p (member x n) CreateDir Entry Granted outcome (λ q. cc) e
        entry_behind x n outcome (inr (inr i)) = i

    went_unlisted : ListsSource from to middle new has finally None → Went source dest top old new has finally steps p None
    went_unlisted refusal =
        let dec = refusal.declined in
        let refused : WasRefused dec.outcome = has_error dec.outcome refusal.error dec.cause in
        let last : names_of_copy source dest snap (step_on p ReadDir dec.outcome ∷ []) ≡ (path_of_step source dest snap ReadDir p, fs_status refusal.error) ∷ []
        = refused_anew source dest snap p ReadDir dec.outcome refusal.error refl dec.cause false in
        went_behind (step_on p ReadDir dec.outcome ∷ []) None ((from, fs_status refusal.error) ∷ [])
        (reach.unlisted room formed (after_place made) new p from.key from_key (kind_at made.found) place_there new_listing refusal.error dec)
        (λ step i. inl (sym (ap (λ (t : CopyStep). t.at) (only_one _ _ i)))) (dec.outcome, inl refl) refusal.named (last ∙ ap (λ (v : PathValue). (v, fs_status refusal.error) ∷ []) (sym from_named))
        (none_listed dec.outcome refused) (λ x u. op_apart p (member x u.0) ReadDir Entry dec.outcome u.1.0 (λ q. cc) (only_one _ _ u.1.2))
      where
        none_listed : (outcome : Outcome) → WasRefused outcome → IsGranted ReadDir p (step_on p Metadata Granted ∷ step_on p CreateDir Granted ∷ step_on p ReadDir outcome ∷ []) → ⊥
        none_listed outcome refused (inl e) = op_apart p p Metadata ReadDir Granted Granted (λ q. cc) e
        none_listed outcome refused (inr (inl e)) = op_apart p p CreateDir ReadDir Granted Granted (λ q. cc) e
        none_listed outcome refused (inr (inr i)) = not_granted p p ReadDir ReadDir outcome refused (only_one _ _ i)

    abbrev listing_steps : List Child → Steps
    listing_steps cs = step_on p ReadDir Granted ∷ unseen_steps p cs

    went_opened : (frame : CopyFrame) → ListsSource from to middle new has finally (Some frame) → Went source dest top old new has finally steps p (Some frame)
    went_opened frame opens = went_behind (listing_steps opens.lists.children) (Some frame) []
        (reach.listed room formed (after_place made) new p from.key from_key (kind_at made.found) place_there new_listing _ opens.lists (children_once middle.contents from.key opens.lists.children opens.lists.are) new_entries)
        near (Granted, inl refl) (opens.unnamed ∙ sym (append-nil has)) due opened named
      where
        place : frame.source ≡ path_at source true (source.key ++ p)
        place = opens.at_source ∙ source_slash

        due : names_of_copy source dest snap (listing_steps opens.lists.children) ≡ owed frame
        due = granted_anew source dest snap p ReadDir (unseen_steps p opens.lists.children) refl false ∙ first_unseen source dest snap p opens.lists.children
            ∙ sym (λ i. owed_in (place i) (drop (opens.first i) (opens.lists.listed i)))

        near : (step : CopyStep) → IsIn step (listing_steps opens.lists.children) → (step.at ≡ p) ⊎ ((n : List ℕ) × (step.at ≡ member p n) × (step.op ≡ Entry))
        near step (inl e) = inl (sym (ap (λ (t : CopyStep). t.at) e))
        near step (inr i) = inr (unseen_near p opens.lists.children step i)

        only : (step : CopyStep) → IsIn step (step_on p Metadata Granted ∷ step_on p CreateDir Granted ∷ listing_steps opens.lists.children) → (n : List ℕ) → step.at ≡ member p n
            → (error : FsError) × IsIn {X = Child} (n, Err error) opens.lists.children
        only step (inl e) n is = absurd (beside p n [] (ap (λ (t : CopyStep). t.at) e ∙ is))
        only step (inr (inl e)) n is = absurd (beside p n [] (ap (λ (t : CopyStep). t.at) e ∙ is))
        only step (inr (inr (inl e))) n is = absurd (beside p n [] (ap (λ (t : CopyStep). t.at) e ∙ is))
        only step (inr (inr (inr i))) n is = unseen_only p opens.lists.children step i n is

        all_there : rest frame ≡ map (λ (c : Child). c.1) opens.lists.children
        all_there = λ i. drop (opens.first i) (opens.lists.listed i)

        named : (x : Key) → HasUnseen x (listing_steps opens.lists.children) → IsNamedIn source x (names_of_copy source dest snap (listing_steps opens.lists.children))
        named x (n, denied) = elim denied.2 [
          | inl e ↦ op_apart p (member x n) ReadDir Entry Granted denied.0 (λ q. cc) e
          | inr i ↦
              let where_from = unseen_near p opens.lists.children _ i in
              let above : x ≡ p = member_above x p n where_from.0 where_from.1 in
              let unseen = unseen_only p opens.lists.children _ i n (ap (λ k. member k n) above) in
              let due_name = owed_some frame.source (rest frame) unseen.0 (subst (IsIn {X = Shown} (Err unseen.0)) (sym all_there) (IsIn-map (λ (c : Child). c.1) (n, Err unseen.0) opens.lists.children unseen.1)) in
              (due_name.0, subst (IsIn due_name.0) (sym due) due_name.1, ap (λ (v : PathValue). v.key) (due_name.2 ∙ place) ∙ path_at-key source true (source.key ++ p) ∙ ap (λ k. source.key ++ k) (sym above))
        ]

        opened : OpensAt source dest new.contents p (step_on p Metadata Granted ∷ step_on p CreateDir Granted ∷ listing_steps opens.lists.children) frame
        opened = record {
          source_at = place;
          dest_at = opens.at_dest ∙ at_dest ∙ ap (λ b. path_at dest b (dest.key ++ p)) (kind_found made.found);
          first = opens.first;
          children = opens.lists.children;
          shows = middle.facts.shows;
          are = subst (λ (c : Contents). AreChildren middle.facts.shows c (source.key ++ p) opens.lists.children) (sym opens.lists.same) (subst (λ (k : Key). AreChildren middle.facts.shows middle.contents k opens.lists.children) from_key opens.lists.are);
          shown = opens.lists.listed;
          listed = inr (inr (inl refl));
          unseen = λ n error i. (Refused error, (λ e. cc), inr (inr (inr (unseen_among p opens.lists.children n error i))));
          only = only;
        }

  -- ---- in all

  pub went : (new : Store) (has finally : Names) (opened : Option CopyFrame) → EntersCopy from to mid new has finally opened → Went source dest top old new has finally steps p opened
  went new has finally opened (unlooked look_up) = went_unlooked new has finally look_up
  went new has finally opened (filed middle done found file) = went_filed found new has finally done file
  went new has finally opened (unmade middle found place) = went_unmade found new has finally place
  went new has finally opened (after_made middle None made lists) = went_unlisted made new has finally lists
  went new has finally opened (after_made middle (Some frame) made lists) = went_opened made new has finally frame lists

  -- memory was lacking in one of the calls
  abbrev Cut : Store → Type 0
  Cut new = (more : Steps) × Reached source.key top dest.key old new (steps ++ more) × StartsAnew source dest snap more

  one_anew : (op : Op) (outcome : Outcome) → is_call op ≡ true → StartsAnew source dest snap (step_on p op outcome ∷ [])
  one_anew op outcome call true = rw call refl
  one_anew op outcome call false = refl

  two_anew : (op : Op) (outcome : Outcome) (more : Steps) → StartsAnew source dest snap (step_on p Metadata Granted ∷ step_on p op outcome ∷ more)
  two_anew op outcome more after_unseen = granted_anew source dest snap p Metadata (step_on p op outcome ∷ more) refl after_unseen ∙ sym (granted_anew source dest snap p Metadata (step_on p op outcome ∷ more) refl false)

  pub went_cut : (new : Store) → IsCutCopy from to mid new → Cut new
  went_cut new (at_look (inl same)) = ([], subst (λ (t : Store). Reached source.key top dest.key old t (steps ++ [])) (sym same) (subst (Reached source.key top dest.key old mid) (sym (append-nil steps)) reached), (λ after_unseen. refl))
  went_cut new (at_look (inr (e, dec))) = (step_on p Metadata dec.outcome ∷ [], reach.unlooked room formed reached new p from.key from_key there hand.come (clear_new p Metadata steps hand.clear) e dec, one_anew Metadata dec.outcome refl)
  went_cut new (at_file middle found (inl same)) = (step_on p Metadata Granted ∷ [], subst (λ (t : Store). Reached source.key top dest.key old t (steps ++ step_on p Metadata Granted ∷ [])) (sym same) (after_look found), one_anew Metadata Granted refl)
  went_cut new (at_file middle found (inr (e, dec))) =
      (step_on p Metadata Granted ∷ step_on p Copy dec.outcome ∷ [], subst (Reached source.key top dest.key old new) (two _ _) (reach.uncopied room formed (after_look found) new p from.key to.key from_key to_key (kind_at found) come_seen seen_there new_copy unmade_seen e dec), two_anew Copy dec.outcome [])
  went_cut new (at_place middle found (inl same)) = (step_on p Metadata Granted ∷ [], subst (λ (t : Store). Reached source.key top dest.key old t (steps ++ step_on p Metadata Granted ∷ [])) (sym same) (after_look found), one_anew Metadata Granted refl)
  went_cut new (at_place middle found (inr (e, dec))) =
      (step_on p Metadata Granted ∷ step_on p CreateDir dec.outcome ∷ [], subst (Reached source.key top dest.key old new) (two _ _) (reach.unplaced room formed (after_look found) new p to.key to_key (kind_at found) come_seen seen_there new_place unmade_seen e dec), two_anew CreateDir dec.outcome [])
  went_cut new (at_listing middle made (inl same)) =
      (step_on p Metadata Granted ∷ step_on p CreateDir Granted ∷ [], subst (λ (t : Store). Reached source.key top dest.key old t (steps ++ step_on p Metadata Granted ∷ step_on p CreateDir Granted ∷ [])) (sym same) (subst (Reached source.key top dest.key old middle) (two _ _) (after_place made)), two_anew CreateDir Granted [])
  went_cut new (at_listing middle made (inr (e, dec))) =
      (step_on p Metadata Granted ∷ step_on p CreateDir Granted ∷ step_on p ReadDir dec.outcome ∷ [], subst (Reached source.key top dest.key old new) (three _ _ _) (reach.unlisted room formed (after_place made) new p from.key from_key (kind_at made.found) place_there new_listing e dec), two_anew CreateDir Granted (step_on p ReadDir dec.outcome ∷ []))
