-- How far a copy has come: the calls so far, of which the log tells, and what they made. One call of the store leads further.
use Rattle.std.proofs.Common.{◌≡◌, ◌≢◌, ◌⊎◌, ℕ, Result, true, false, List, [], ◌∷◌, ◌++◌, Option, None, Some, Ok, Err, map, filter_map, refl, sym, ap, ◌∙◌, subst, inl, inr, append_assoc}
use Rattle.std.specs.FinMap.{get}
use Rattle.std.proofs.lemmas.List.{append-nil, map-append}
use Rattle.dav_key.specs.Key.{Key, parent}
use Rattle.dav_resource.specs.declared.meta.DirEntry.{DirEntry}
use Rattle.dav_resource.specs.declared.record.Op.{Op}
use Rattle.dav_resource.specs.declared.record.Op.TheVariants.{Metadata, ReadDir, CreateDir, Copy, Entry}
use Rattle.dav_resource.specs.declared.record.Outcome.{Outcome}
use Rattle.dav_resource.specs.declared.record.Outcome.TheVariants.{Granted, Refused}
use Rattle.dav_resource.specs.declared.error.FsError.{FsError}
use Rattle.dav_store.specs.Logged.{Logged, logged}
use Rattle.dav_store.specs.Store.{Store, Contents, Node, File, Directory, IsWellFormed}
use Rattle.dav_store.specs.Calls.{Call, record_of, Grants, Declines, IsLawful, metadata_call, create_dir_call, IsMadeAt, bytes_at}
use Rattle.dav_store.specs.Members.{IsIn, AreDistinct, member, Child, names_of, Lists, unseen_record, read_dir_call}
use Rattle.dav_store.specs.Transfers.{copy_call, IsCopiedTo}
use Rattle.dav_walks.specs.KeyCall.{standing}
use Rattle.dav_walks.specs.Deletion.{WasRefused}
use Rattle.dav_walks.specs.Trace.{HasKind}
use Rattle.dav_walks.specs.Copying.{CopyStep, logged_step, snapshot, IsGranted, IsMade, IsListed, IsCalledFor, copied, HasRoom}
use Rattle.dav_walks.specs.PutLaws.{put_here, put_elsewhere, put_at_here, put_at_elsewhere}
use Rattle.dav_walks.proofs.Keys.{below_cancel, IsIn-right, IsIn-append}
use Rattle.dav_walks.proofs.Single.{has_error}
use Rattle.dav_walks.proofs.Facts.{directory_there, file_there}
use Rattle.dav_walks.proofs.CopyGrow.{Steps, step_on, call_of, only_one, Sound, none_sound, grow, grow_quiet, unseen_steps, grow_unseen}
use Rattle.dav_walks.proofs.CopyRoom.{source_still, snap_there, snap_still, place_free, place_above, nothing_at_place, look_free, copy_free, make_free, list_free}

pub record Reached (s top d : Key) (old mid : Store) (steps : Steps) : Type 0 where
  pub log : mid.log ≡ old.log ++ map (logged_step s d) steps
  pub sound : Sound s top d old.contents mid.contents steps

pub none_reached : (s top d : Key) (old : Store) → Reached s top d old old []
none_reached s top d old = record { log = sym (append-nil old.log); sound = none_sound s top d old.contents }

-- no such call on the key was made yet
abbrev pub IsNew : Key → Op → Steps → Type 0
IsNew p op steps = IsIn (p, op) (map call_of steps) → ⊥

log_grows : (s d : Key) (before mid after : List Logged) (steps more : Steps) (records : List Logged) → mid ≡ before ++ map (logged_step s d) steps → after ≡ mid ++ records → records ≡ map (logged_step s d) more
    → after ≡ before ++ map (logged_step s d) (steps ++ more)
log_grows s d before mid after steps more records had recorded same =
    recorded ∙ (λ i. had i ++ same i) ∙ append_assoc before (map (logged_step s d) steps) (map (logged_step s d) more) ∙ ap (λ l. before ++ l) (sym (map-append (logged_step s d) steps more))

pub granted_of_made : (p q : Key) (op : Op) (outcome : Outcome) → IsMade q (step_on p op outcome ∷ []) → outcome ≡ Granted
granted_of_made p q op outcome (inl i) = ap (λ (t : CopyStep). t.outcome) (only_one _ _ i)
granted_of_made p q op outcome (inr i) = ap (λ (t : CopyStep). t.outcome) (only_one _ _ i)

granted_of_seen : (p q : Key) (op : Op) (outcome : Outcome) → IsGranted Entry q (step_on p op outcome ∷ []) → outcome ≡ Granted
granted_of_seen p q op outcome i = ap (λ (t : CopyStep). t.outcome) (only_one _ _ i)

op_of_seen : (p q : Key) (op : Op) (outcome : Outcome) → IsGranted Entry q (step_on p op outcome ∷ []) → op ≡ Entry
op_of_seen p q op outcome i = ap (λ (t : CopyStep). t.op) (only_one _ _ i)

pub op_of_made : (p q : Key) (op : Op) (outcome : Outcome) → IsMade q (step_on p op outcome ∷ []) → (op ≡ Copy) ⊎ (op ≡ CreateDir)
op_of_made p q op outcome (inl i) = inl (ap (λ (t : CopyStep). t.op) (only_one _ _ i))
op_of_made p q op outcome (inr i) = inr (ap (λ (t : CopyStep). t.op) (only_one _ _ i))

-- ---- the calls

module _ {s top d : Key} {old : Store} (room : HasRoom s top d old.contents) (formed : IsWellFormed old.contents) {mid : Store} {steps : Steps} (reached : Reached s top d old mid steps) (new : Store) (p : Key) where
  abbrev snap_at : Option Node
  snap_at = snapshot old.contents.tree s top p

  -- one that wasn't granted
  declined : (op : Op) (call : Call) (error : FsError) → call.bar ≡ None → ((outcome : Outcome) → record_of call outcome ≡ logged_step s d (step_on p op outcome)) → IsCalledFor (snapshot old.contents.tree s top) op p steps
      → IsNew p op steps → (dec : Declines call error mid new) → Reached s top d old new (steps ++ step_on p op dec.outcome ∷ [])
  declined op call error bar is_recorded called fresh dec = record {
    log = log_grows s d old.log mid.log new.log steps (step_on p op dec.outcome ∷ []) _ reached.log dec.recorded (ap (λ r. r ∷ []) (is_recorded dec.outcome));
    sound = grow_quiet reached.sound new.contents (step_on p op dec.outcome) dec.same called (subst (λ b. IsLawful b dec.outcome) bar dec.lawful) (λ i. refused (granted_of_seen p p op dec.outcome i)) fresh (λ m. refused (granted_of_made p p op dec.outcome m));
  }
    where
      refused : WasRefused dec.outcome
      refused = has_error dec.outcome error dec.cause

  -- one that was granted, and changes nothing
  granted : (op : Op) → (op ≡ Entry → ⊥) → (op ≡ Copy → ⊥) → (op ≡ CreateDir → ⊥) → (r : Logged) → r ≡ logged_step s d (step_on p op Granted) → new.log ≡ mid.log ++ r ∷ [] → new.contents ≡ mid.contents
      → IsCalledFor (snapshot old.contents.tree s top) op p steps → IsNew p op steps → Reached s top d old new (steps ++ step_on p op Granted ∷ [])
  granted op no_entry no_copy no_place r is recorded same called fresh = record {
    log = log_grows s d old.log mid.log new.log steps (step_on p op Granted ∷ []) _ reached.log recorded (ap (λ t. t ∷ []) is);
    sound = grow_quiet reached.sound new.contents (step_on p op Granted) same called refl (λ i. no_entry (op_of_seen p p op Granted i)) fresh (λ m. elim (op_of_made p p op Granted m) [ inl e ↦ no_copy e | inr e ↦ no_place e ]);
  }

  module _ (k : Key) (key : k ≡ s ++ p) (there : snap_at ≢ None) (come : (p ≡ []) ⊎ IsListed p steps) (fresh : IsNew p Metadata steps) where
    pub looked : (Effect : Contents → Contents → Type 0) → (Effect mid.contents new.contents → new.contents ≡ mid.contents) → Grants (metadata_call mid.contents k) Effect mid new → Reached s top d old new (steps ++ step_on p Metadata Granted ∷ [])
    looked Effect same g = granted Metadata (λ e. cc) (λ e. cc) (λ e. cc) _ (ap (λ j. logged Metadata (j ∷ []) Granted) key) g.recorded (same g.effect) (there, come) fresh

    pub unlooked : (error : FsError) (dec : Declines (metadata_call mid.contents k) error mid new) → Reached s top d old new (steps ++ step_on p Metadata dec.outcome ∷ [])
    unlooked error dec = declined Metadata (metadata_call mid.contents k) error (look_free _ here) (λ o. ap (λ j. logged Metadata (j ∷ []) o) key) (there, come) fresh dec
      where
        here : get mid.contents.tree k ≢ None
        here none = there (sym (snap_still room formed reached.sound p there) ∙ ap (get mid.contents.tree) (sym key) ∙ none)

  module _ (k q : Key) (key : k ≡ s ++ p) (place : q ≡ d ++ p) (file : HasKind false snap_at) (come : (p ≡ []) ⊎ IsListed p steps) (seen : IsGranted Metadata p steps) (fresh : IsNew p Copy steps) (unmade : IsMade p steps → ⊥) where
    source_file : HasKind false (get mid.contents.tree k)
    source_file = (file.0, ap (get mid.contents.tree) key ∙ snap_still room formed reached.sound p (file_there _ file) ∙ file.1)

    bar : (copy_call mid.contents k q).bar ≡ None
    bar = copy_free _ _ _ source_file (ap (get mid.contents.tree) place ∙ place_free room formed reached.sound p unmade) (ap (λ j. get mid.contents.tree (parent j)) place ∙ place_above room formed reached.sound p come)

    pub uncopied : (error : FsError) (dec : Declines (copy_call mid.contents k q) error mid new) → Reached s top d old new (steps ++ step_on p Copy dec.outcome ∷ [])
    uncopied error dec = declined Copy (copy_call mid.contents k q) error bar (λ o i. logged Copy (key i ∷ place i ∷ []) o) (file, seen) fresh dec

    pub copied_file : Grants (copy_call mid.contents k q) (IsCopiedTo k q) mid new → Reached s top d old new (steps ++ step_on p Copy Granted ∷ [])
    copied_file g = record {
      log = log_grows s d old.log mid.log new.log steps (step_on p Copy Granted ∷ []) _ reached.log g.recorded (λ i. logged Copy (key i ∷ place i ∷ []) Granted ∷ []);
      sound = grow reached.sound new.contents (step_on p Copy Granted) (file, seen) refl (λ i. absurd (no_entry (op_of_seen p p Copy Granted i))) fresh (λ m. (unmade, made)) others g.effect.limit (λ none. absurd (none (inl (inl refl))));
    }
      where
        no_entry : Copy ≡ Entry → ⊥
        no_entry e = cc

        from : standing mid.contents k ≡ standing old.contents (s ++ p)
        from = ap (standing mid.contents) key ∙ source_still room formed reached.sound p (file_there _ file)

        made : standing new.contents (d ++ p) ≡ copied (standing old.contents (s ++ p))
        made =
            let bytes : get mid.contents.tree k ≡ Some (File source_file.0) = source_file.1 in
            let tree : get new.contents.tree q ≡ get mid.contents.tree k = ap (λ t. get t q) g.effect.tree ∙ put_here mid.contents.tree q _ ∙ ap (λ (n : Option Node). Some (File (bytes_at n))) bytes ∙ sym bytes in
            let properties : get new.contents.properties q ≡ get mid.contents.properties k = ap (λ m. get m q) g.effect.properties ∙ put_at_here mid.contents.properties q _ in
            let alike : copied (standing mid.contents k) ≡ standing mid.contents k = ap (λ (n : Option Node). copied (n, get mid.contents.properties k)) bytes ∙ ap (λ (n : Option Node). (n, get mid.contents.properties k)) (sym bytes) in
            ap (standing new.contents) (sym place) ∙ (λ i. (tree i, properties i)) ∙ sym alike ∙ ap copied from

        others : (key : Key) → (IsMade p (step_on p Copy Granted ∷ []) → key ≢ d ++ p) → standing new.contents key ≡ standing mid.contents key
        others j apart =
            let away : j ≢ q = λ e. apart (inl (inl refl)) (e ∙ place) in
            λ i. ((ap (λ t. get t j) g.effect.tree ∙ put_elsewhere mid.contents.tree q j _ away) i, (ap (λ m. get m j) g.effect.properties ∙ put_at_elsewhere mid.contents.properties q j _ away) i)

  module _ (q : Key) (place : q ≡ d ++ p) (directory : HasKind true snap_at) (come : (p ≡ []) ⊎ IsListed p steps) (seen : IsGranted Metadata p steps) (fresh : IsNew p CreateDir steps) (unmade : IsMade p steps → ⊥) where
    free_here : get mid.contents.tree q ≡ None
    free_here = ap (get mid.contents.tree) place ∙ place_free room formed reached.sound p unmade

    pub unplaced : (error : FsError) (dec : Declines (create_dir_call mid.contents q) error mid new) → Reached s top d old new (steps ++ step_on p CreateDir dec.outcome ∷ [])
    unplaced error dec = declined CreateDir (create_dir_call mid.contents q) error (make_free _ _ free_here (ap (λ j. get mid.contents.tree (parent j)) place ∙ place_above room formed reached.sound p come))
        (λ o. ap (λ j. logged CreateDir (j ∷ []) o) place) (directory, seen) fresh dec

    pub placed : Grants (create_dir_call mid.contents q) (IsMadeAt q) mid new → Reached s top d old new (steps ++ step_on p CreateDir Granted ∷ [])
    placed g = record {
      log = log_grows s d old.log mid.log new.log steps (step_on p CreateDir Granted ∷ []) _ reached.log g.recorded (ap (λ j. logged CreateDir (j ∷ []) Granted ∷ []) place);
      sound = grow reached.sound new.contents (step_on p CreateDir Granted) (directory, seen) refl (λ i. absurd (no_entry (op_of_seen p p CreateDir Granted i))) fresh (λ m. (unmade, made)) others g.effect.limit (λ none. absurd (none (inr (inl refl))));
    }
      where
        no_entry : CreateDir ≡ Entry → ⊥
        no_entry e = cc

        -- nothing stood there, so no properties did
        bare : get mid.contents.properties (d ++ p) ≡ None
        bare = (λ i. (reached.sound.others (d ++ p) (λ x m e. unmade (subst (λ y. IsMade y steps) (sym (below_cancel d p x e)) m)) i).1) ∙ formed.properties (d ++ p) (nothing_at_place room formed p)

        made : standing new.contents (d ++ p) ≡ copied (standing old.contents (s ++ p))
        made =
            let tree : get new.contents.tree (d ++ p) ≡ Some Directory = ap (get new.contents.tree) (sym place) ∙ ap (λ t. get t q) g.effect.tree ∙ put_here mid.contents.tree q Directory in
            let properties : get new.contents.properties (d ++ p) ≡ None = ap (λ m. get m (d ++ p)) g.effect.properties ∙ bare in
            let is : get old.contents.tree (s ++ p) ≡ Some Directory = sym (snap_there old.contents.tree s top p (directory_there _ directory)).1 ∙ directory in
            (λ i. (tree i, properties i)) ∙ sym (ap (λ (n : Option Node). copied (n, get old.contents.properties (s ++ p))) is)

        others : (key : Key) → (IsMade p (step_on p CreateDir Granted ∷ []) → key ≢ d ++ p) → standing new.contents key ≡ standing mid.contents key
        others j apart =
            let away : j ≢ q = λ e. apart (inr (inl refl)) (e ∙ place) in
            λ i. ((ap (λ t. get t j) g.effect.tree ∙ put_elsewhere mid.contents.tree q j _ away) i, ap (λ m. get m j) g.effect.properties i)

  module _ (k : Key) (key : k ≡ s ++ p) (directory : HasKind true snap_at) (made : IsGranted CreateDir p steps) (fresh : IsNew p ReadDir steps) where
    pub source_directory : get mid.contents.tree k ≡ Some Directory
    source_directory = ap (get mid.contents.tree) key ∙ snap_still room formed reached.sound p (directory_there _ directory) ∙ directory

    pub unlisted : (error : FsError) (dec : Declines (read_dir_call mid.contents k) error mid new) → Reached s top d old new (steps ++ step_on p ReadDir dec.outcome ∷ [])
    unlisted error dec = declined ReadDir (read_dir_call mid.contents k) error (list_free _ source_directory) (λ o. ap (λ j. logged ReadDir (j ∷ []) o) key) (directory, made) fresh dec

    unseen_logged : (cs : List Child) → filter_map (unseen_record k) cs ≡ map (logged_step s d) (unseen_steps p cs)
    unseen_logged [] = refl
    unseen_logged ((n, Ok entry) ∷ cs) = unseen_logged cs
    unseen_logged ((n, Err error) ∷ cs) = λ i. logged Entry ((ap (λ j. member j n) key ∙ append_assoc s p (n ∷ [])) i ∷ []) (Refused error) ∷ unseen_logged cs i

    -- the members that it did not show are recorded after it
    pub listed : (listing : List (Result DirEntry FsError)) (lists : Lists k mid listing new) → AreDistinct (names_of lists.children) → ((n : List ℕ) → IsNew (member p n) Entry steps)
        → Reached s top d old new (steps ++ step_on p ReadDir Granted ∷ unseen_steps p lists.children)
    listed listing lists once unlisted_yet = record {
      log = log_grows s d old.log mid.log new.log steps (step_on p ReadDir Granted ∷ unseen_steps p lists.children) _ reached.log lists.recorded (λ i. logged ReadDir (key i ∷ []) Granted ∷ unseen_logged lists.children i);
      sound = subst (Sound s top d old.contents new.contents) (append_assoc steps (step_on p ReadDir Granted ∷ []) (unseen_steps p lists.children))
          (grow_unseen (steps ++ step_on p ReadDir Granted ∷ []) first p (IsIn-right _ steps _ (inl refl)) lists.children once next (λ n error i. lists.are.shown (n, Err error) i));
    }
      where
        no_entry : ReadDir ≡ Entry → ⊥
        no_entry e = cc

        first : Sound s top d old.contents new.contents (steps ++ step_on p ReadDir Granted ∷ [])
        first = grow_quiet reached.sound new.contents (step_on p ReadDir Granted) lists.same (directory, made) refl (λ i. no_entry (op_of_seen p p ReadDir Granted i)) fresh
            (λ m. elim (op_of_made p p ReadDir Granted m) [ inl e ↦ absurd (cc) | inr e ↦ absurd (cc) ])

        next : (n : List ℕ) → IsIn n (names_of lists.children) → IsIn (member p n, Entry) (map call_of (steps ++ step_on p ReadDir Granted ∷ [])) → ⊥
        next n i j = elim (IsIn-append _ (map call_of steps) ((p, ReadDir) ∷ []) (subst (IsIn (member p n, Entry)) (map-append call_of steps (step_on p ReadDir Granted ∷ [])) j)) [
          | inl h ↦ unlisted_yet n h
          | inr h ↦ let e : ReadDir ≡ Entry = ap (λ (c : Key × Op). c.1) (only_one _ _ h) in cc
        ]
