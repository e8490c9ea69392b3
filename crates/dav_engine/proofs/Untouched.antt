-- If no granted call of a request may change something, the contents are the same, with all metadata, whatever the method.
use Rattle.std.proofs.Common.{◌≡◌, ◌≢◌, ◌⊎◌, ◌∙◌, Bool, true, false, ◌&&◌, List, [], ◌∷◌, ◌++◌, map, Option, Some, None, is_some, inl, inr, refl, sym, ap, subst, Result, Ok, Err, ℕ}
use Rattle.std.specs.FinMap.{get}
use Rattle.std.specs.List.{list_any}
use Rattle.dav_key.specs.Key.{Key}
use Rattle.dav_resource.specs.PathText.{PathValue}
use Rattle.dav_resource.specs.declared.error.DavError.TheVariants.{Memory}
use Rattle.dav_resource.specs.declared.error.FsError.{FsError}
use Rattle.dav_resource.specs.declared.record.Op.{Op}
use Rattle.dav_resource.specs.declared.record.Op.TheVariants as ops
use Rattle.dav_resource.specs.declared.record.Outcome.{Outcome}
use Rattle.dav_resource.specs.declared.record.Outcome.TheVariants.{Granted, Barred, Refused}
use Rattle.dav_resource.specs.declared.request.DavRequest.{DavRequest}
use Rattle.dav_resource.specs.declared.request.Depth.{Depth}
use Rattle.dav_resource.specs.declared.request.Depth.TheVariants.{Zero, One, Infinity, Default}
use Rattle.dav_store.specs.Calls.{record_of}
use Rattle.dav_store.specs.Logged.{Logged, logged}
use Rattle.dav_store.specs.Members.{IsIn}
use Rattle.dav_store.specs.PropertyCalls.{Patch, patch_record}
use Rattle.dav_store.specs.Store.{Contents, Node, File, Directory}
use Rattle.dav_store.specs.Transfers.{rename_call}
use Rattle.dav_store.specs.declared.lock.DavLock.{DavLock}
use Rattle.dav_messages.specs.Dialogue.{WasGranted}
use Rattle.dav_messages.specs.Multistatus.{Item}
use Rattle.dav_messages.specs.Reply.{Answer}
use Rattle.dav_walks.specs.Copied.{placing_call, EndsAlone, CopiesAlone, CopiesInPart}
use Rattle.dav_walks.specs.Copying.{CopyStep, logged_step, IsMade, NothingMade, IsLawfulCopy}
use Rattle.dav_walks.specs.CopyLaws.{whole_copy_in_part}
use Rattle.dav_walks.specs.Deletion.{NothingRemoved, IsLawfulRemoval, RemovesAlone, RemovesInPart, removal_call}
use Rattle.dav_walks.specs.KeyCall.{KeyCall, logged_call}
use Rattle.dav_walks.specs.RemovalLaws.{whole_in_part}
use Rattle.dav_find.specs.RangeKeys.{in_map}
use Rattle.dav_engine.specs.Bounds.{was_granted, is_change, made_change, IsUntouched}
use Rattle.dav_engine.specs.Copy.{replaced, CopiesSource, CopiesSourceInPart, CopyWork, CopyCut}
use Rattle.dav_engine.specs.Locking.{is_refresh, lock_asked, FileLeaves, GrantsLock, DeniesLock, LockWorkBy, LockCutBy}
use Rattle.dav_engine.specs.Method.{Method, StepBy, Refused, Done, CutShort, CutInWork}
use Rattle.dav_engine.specs.Methods.{mkcol_method, write_method, delete_method, copy_method, move_method, lock_method, unlock_method, proppatch_method, options_method, propfind_method}
use Rattle.dav_engine.specs.Move.{RenamesAlone, MovesSource, MovesInPart, MoveWork, MoveCut}
use Rattle.dav_engine.specs.Proppatch.{MakesChanges, all_made}
use Rattle.dav_engine.specs.Rules.{depth_or_all, fixed_path}
use Rattle.dav_engine.specs.Settings.{Settings}
use Rattle.dav_engine.specs.State.{State, IsLawfulState}
use Rattle.dav_engine.specs.Transferring.{ClearsIf, ClearsInPart, UnlessNamed, Replaces, ReplacesInPart, source_path}
use Rattle.dav_engine.proofs.Recorded.{none_in_both, none_is, granted_in}

-- ---- the statement

abbrev pub Untouched : Method → Type 0
Untouched method =
    (settings : Settings) (request : DavRequest) (old new : State) (records : List Logged) (answer : Answer) → IsLawfulState old → StepBy method settings request old records answer new → IsUntouched records old new

-- no record is of a granted call that may change something
abbrev MadeNone : List Logged → Type 0
MadeNone records = list_any made_change records ≡ false

-- ---- from the work to the whole request

same_contents : (old new : State) → new ≡ old → new.contents ≡ old.contents
same_contents old new same = ap (λ (s : State). s.contents) same

none_in_parts : (head rest records : List Logged) → records ≡ head ++ rest → MadeNone records → MadeNone head × MadeNone rest
none_in_parts head rest records cut none = none_in_both made_change head rest (subst MadeNone cut none)

-- the work, done or broken off, leaves the contents the same if it makes no such call
abbrev LeavesUntouched : Method → Type 0
LeavesUntouched method =
    (settings : Settings) (request : DavRequest) (found : method.Found) (old new : State) (records : List Logged) (answer : Answer)
    → method.Work settings request found old records answer new ⊎ ((answer ≡ Err Memory) × method.Cut settings request found old records new) → IsUntouched records old new

-- so the whole request does
step_untouched : (method : Method) → LeavesUntouched method → Untouched method
step_untouched method leaves settings request old new records answer lawful (Refused h) none = same_contents old new h.same
step_untouched method leaves settings request old new records answer lawful (CutShort h) none = same_contents old new h.same
step_untouched method leaves settings request old new records answer lawful (Done h) none = leaves settings request h.found old new h.rest answer (inl h.work) (none_in_parts h.head h.rest records h.cut none).1
step_untouched method leaves settings request old new records answer lawful (CutInWork h) none =
    leaves settings request h.found old new h.rest answer (inr (h.answered, h.work)) (none_in_parts h.head h.rest records h.cut none).1

-- ---- one call

module _ (records : List Logged) (none : MadeNone records) where
  -- each call that may change something was not granted
  unmade : (r : Logged) → IsIn r records → is_change r.op ≡ true → r.outcome ≢ Granted
  unmade r i change granted = let no : true ≡ false = sym (λ j. was_granted (granted j) && change j) ∙ none_is made_change records none r i in cc

  ungranted : (op : Op) (key : Key) → is_change op ≡ true → WasGranted op key records → ⊥
  ungranted op key change granted = unmade (logged op (key ∷ []) Granted) (granted_in op key records granted) change refl

  -- a call whose record is the last of these
  unmade_last : (head : List Logged) (r : Logged) → records ≡ head ++ r ∷ [] → is_change r.op ≡ true → r.outcome ≢ Granted
  unmade_last head r called = unmade r (subst (IsIn r) (sym called) (is_last head))
    where
      is_last : (head : List Logged) → IsIn r (head ++ r ∷ [])
      is_last [] = inl refl
      is_last (first ∷ head) = inr (is_last head)

-- ---- methods that change nothing

pub untouched_options : Untouched options_method
untouched_options = step_untouched options_method leaves
  where
    leaves : LeavesUntouched options_method
    leaves settings request found old new records answer (inl work) none = same_contents old new work.same
    leaves settings request found old new records answer (inr cut) none = same_contents old new cut.1.same

pub untouched_propfind : Untouched propfind_method
untouched_propfind = step_untouched propfind_method leaves
  where
    leaves : LeavesUntouched propfind_method
    leaves settings request found old new records answer (inl work) none = same_contents old new work.same
    leaves settings request found old new records answer (inr cut) none = same_contents old new cut.1.same

pub untouched_unlock : Untouched unlock_method
untouched_unlock = step_untouched unlock_method leaves
  where
    leaves : LeavesUntouched unlock_method
    leaves settings request found old new records answer (inl work) none = work.same
    leaves settings request found old new records answer (inr cut) none = same_contents old new cut.1.same

-- ---- methods that change something at their path alone

pub untouched_mkcol : Untouched mkcol_method
untouched_mkcol = step_untouched mkcol_method leaves
  where
    leaves : LeavesUntouched mkcol_method
    leaves settings request found old new records answer (inl work) none = work.0.leaves.untouched (ungranted records none ops.CreateDir request.path.key refl)
    leaves settings request found old new records answer (inr cut) none = cut.1.0.same

pub untouched_write : (partial : Bool) → Untouched (write_method partial)
untouched_write partial = step_untouched (write_method partial) leaves
  where
    leaves : LeavesUntouched (write_method partial)
    leaves settings request found old new records answer (inl work) none = work.0.leaves.untouched (ungranted records none ops.OpenFile request.path.key refl)
    leaves settings request found old new records answer (inr cut) none = cut.1.0.leaves.untouched (ungranted records none ops.OpenFile request.path.key refl)

file_untouched : (request : DavRequest) (records : List Logged) (old new : Contents) → MadeNone records → FileLeaves request records old new → new ≡ old
file_untouched request records old new none (inl (opened, has)) = absurd (ungranted records none ops.OpenFile request.path.key refl opened)
file_untouched request records old new none (inr unopened) = unopened.1

pub untouched_lock : Untouched lock_method
untouched_lock = step_untouched lock_method leaves
  where
    leaves : LeavesUntouched lock_method
    leaves settings request found old new records answer done none = by_end (is_refresh settings.facts.bodies request.body) done
      where
        asks : (asked : DavLock) → GrantsLock settings.profile request found asked old records answer new ⊎ DeniesLock asked old records answer new → new.contents ≡ old.contents
        asks asked (inl granted) = file_untouched request records old.contents new.contents none granted.answers.leaves
        asks asked (inr denied) = same_contents old new denied.same

        by_end : (refresh : Bool) → LockWorkBy settings.profile refresh request found old records answer new ⊎ ((answer ≡ Err Memory) × LockCutBy refresh request found old records new) → new.contents ≡ old.contents
        by_end true (inl work) = work.same
        by_end true (inr cut) = cut.1.same
        by_end false (inl work) = asks (lock_asked request found work.info) work.done
        by_end false (inr cut) = cut.1.same

patch_untouched : (keeps : Bool) (key : Key) (patches : List Patch) (old new : Contents) (records : List Logged) (recorded : Result (List ℕ) FsError) → MadeNone records → MakesChanges keeps key patches old records recorded new → new ≡ old
patch_untouched keeps key [] old new records recorded none asks = asks.same
patch_untouched keeps key (patch ∷ patches) old new records recorded none (inl all) = absurd (unmade_last records none [] (patch_record key Granted (all_made (patch ∷ patches))) all.called refl refl)
patch_untouched keeps key (patch ∷ patches) old new records recorded none (inr (inl dropped)) = dropped.same
patch_untouched keeps key (patch ∷ patches) old new records recorded none (inr (inr refused)) = refused.same

pub untouched_proppatch : Untouched proppatch_method
untouched_proppatch = step_untouched proppatch_method leaves
  where
    leaves : LeavesUntouched proppatch_method
    leaves settings request found old new records answer (inl work) none = patch_untouched settings.facts.keeps_properties request.path.key _ old.contents new.contents records work.0.store_answer none work.0.stored
    leaves settings request found old new records answer (inr (recorded, (inl unbegun, locks))) none = unbegun.same
    leaves settings request found old new records answer (inr (recorded, (inr made, locks))) none = patch_untouched settings.facts.keeps_properties request.path.key _ old.contents new.contents records (Ok made.0) none made.1

-- ---- a removal

removal_may_change : (old : Contents) (key : Key) → is_change (removal_call old key).op ≡ true
removal_may_change old key = by_node (get old.tree key) refl
  where
    by_node : (node : Option Node) → get old.tree key ≡ node → is_change (removal_call old key).op ≡ true
    by_node None is = rw is refl
    by_node (Some Directory) is = rw is refl
    by_node (Some (File bytes)) is = rw is refl

nothing_removed : (calls : List KeyCall) → MadeNone (map logged_call calls) → NothingRemoved calls
nothing_removed calls none call i (inl is) = unmade (map logged_call calls) none (logged_call call) (in_map logged_call call calls i) (ap is_change is)
nothing_removed calls none call i (inr is) = unmade (map logged_call calls) none (logged_call call) (in_map logged_call call calls i) (ap is_change is)

module _ (path : PathValue) (old new : Contents) (records : List Logged) (none : MadeNone records) where
  removed_alone_untouched : (names : List Item) → RemovesAlone path old new records names → new ≡ old
  removed_alone_untouched names alone = by_outcome alone.outcome refl
    where
      by_outcome : (outcome : Outcome) → alone.outcome ≡ outcome → new ≡ old
      by_outcome Granted is = absurd (unmade_last records none [] (record_of (removal_call old path.key) alone.outcome) alone.called (removal_may_change old path.key) is)
      by_outcome (Barred e) is = (alone.refused e (rw is refl)).0
      by_outcome (Refused e) is = (alone.refused e (rw is refl)).0

  all_removed_untouched : (calls : List KeyCall) → records ≡ map logged_call calls → IsLawfulRemoval path.key old new calls → new ≡ old
  all_removed_untouched calls called lawful = lawful.untouched (nothing_removed calls (subst MadeNone called none))

  removal_untouched : (depth : Depth) → RemovesInPart depth path old new records → new ≡ old
  removal_untouched Zero (inl nothing) = nothing.1
  removal_untouched Zero (inr alone) = removed_alone_untouched alone.0 alone.1
  removal_untouched One r = all_removed_untouched r.0 r.1 r.2
  removal_untouched Infinity r = all_removed_untouched r.0 r.1 r.2
  removal_untouched Default r = all_removed_untouched r.0 r.1 r.2

pub untouched_delete : Untouched delete_method
untouched_delete = step_untouched delete_method leaves
  where
    leaves : LeavesUntouched delete_method
    leaves settings request found old new records answer (inl work) none =
        removal_untouched (fixed_path request.path (Some found)) old.contents new.contents records none (depth_or_all request) (whole_in_part _ _ _ _ _ work.names work.removed)
    leaves settings request found old new records answer (inr cut) none =
        removal_untouched (fixed_path request.path (Some found)) old.contents new.contents records none (depth_or_all request) cut.1.removed

-- ---- a copy, and a renaming

placing_may_change : (old : Contents) (source dest : Key) → is_change (placing_call old source dest).op ≡ true
placing_may_change old source dest = by_node (get old.tree source) refl
  where
    by_node : (node : Option Node) → get old.tree source ≡ node → is_change (placing_call old source dest).op ≡ true
    by_node None is = rw is refl
    by_node (Some Directory) is = rw is refl
    by_node (Some (File bytes)) is = rw is refl

nothing_made : (source dest : Key) (steps : List CopyStep) → MadeNone (map (logged_step source dest) steps) → NothingMade steps
nothing_made source dest steps none x made = by_call made
  where
    unmade_step : (op : Op) → is_change op ≡ true → IsIn (record { at = x; op = op; outcome = Granted }) steps → ⊥
    unmade_step op change i =
        let step : CopyStep = record { at = x; op = op; outcome = Granted } in
        unmade (map (logged_step source dest) steps) none (logged_step source dest step) (in_map (logged_step source dest) step steps i) change refl

    by_call : IsMade x steps → ⊥
    by_call (inl i) = unmade_step ops.Copy refl i
    by_call (inr i) = unmade_step ops.CreateDir refl i

module _ (source dest : PathValue) (old new : Contents) (records : List Logged) (none : MadeNone records) where
  copied_alone_untouched : (names : List Item) → CopiesAlone source dest old new records names → new ≡ old
  copied_alone_untouched names (inl unlooked) = unlooked.same
  copied_alone_untouched names (inr places) = by_outcome places.outcome refl places.ended
    where
      by_outcome : (outcome : Outcome) → places.outcome ≡ outcome → EndsAlone source dest old new names outcome → new ≡ old
      by_outcome Granted is ended =
          absurd (unmade_last records none (_ ∷ []) (record_of (placing_call old source.key dest.key) places.outcome) places.called (placing_may_change old source.key dest.key) is)
      by_outcome (Barred e) is ended = ended.0
      by_outcome (Refused e) is ended = ended.0

  all_copied_untouched : (top : Key) (steps : List CopyStep) → records ≡ map (logged_step source.key dest.key) steps → IsLawfulCopy source.key top dest.key old new steps → new ≡ old
  all_copied_untouched top steps called lawful = lawful.untouched (nothing_made source.key dest.key steps (subst MadeNone called none))

  copy_untouched : (depth : Depth) (top : Key) → CopiesInPart depth source dest top old new records → new ≡ old
  copy_untouched Zero top (inl nothing) = nothing.1
  copy_untouched Zero top (inr alone) = copied_alone_untouched alone.0 alone.1
  copy_untouched One top c = all_copied_untouched top c.0 c.1 c.2
  copy_untouched Infinity top c = all_copied_untouched top c.0 c.1 c.2
  copy_untouched Default top c = all_copied_untouched top c.0 c.1 c.2

  rename_untouched : (names : List Item) → RenamesAlone source dest old new records names → new ≡ old
  rename_untouched names alone = by_outcome alone.outcome refl
    where
      by_outcome : (outcome : Outcome) → alone.outcome ≡ outcome → new ≡ old
      by_outcome Granted is = absurd (unmade_last records none [] (record_of (rename_call old source.key dest.key) alone.outcome) alone.called refl is)
      by_outcome (Barred e) is = (alone.refused e (rw is refl)).0
      by_outcome (Refused e) is = (alone.refused e (rw is refl)).0

-- ---- what is removed first at the destination of a COPY or MOVE

cleared_untouched : (there : Bool) (destination : PathValue) (old mid : State) (records : List Logged) (names : List Item) → MadeNone records → ClearsIf there destination old records names mid → mid.contents ≡ old.contents
cleared_untouched true destination old mid records names none cleared =
    removal_untouched destination old.contents mid.contents records none Infinity (whole_in_part Infinity destination old.contents mid.contents records names cleared.removed)
cleared_untouched false destination old mid records names none cleared = same_contents old mid cleared.2

cleared_part_untouched : (there : Bool) (destination : PathValue) (old new : State) (records : List Logged) → MadeNone records → ClearsInPart there destination old records new → new.contents ≡ old.contents
cleared_part_untouched true destination old new records none part = removal_untouched destination old.contents new.contents records none Infinity part.0
cleared_part_untouched false destination old new records none part = same_contents old new part.1

module _ (there : Bool) (destination : PathValue) (old new : State) (records : List Logged) (none : MadeNone records) where
  replaced_untouched : (Follows : State → List Logged → List Item → State → Type 0) (names : List Item) → ((mid : State) (rest : List Logged) → Follows mid rest names new → IsUntouched rest mid new)
      → Replaces Follows there destination old records names new → new.contents ≡ old.contents
  replaced_untouched Follows names same w = by_left w.left w.follows ∙ cleared_untouched there destination old w.between w.removal w.left (none_in_parts w.removal w.after records w.cut none).0 w.cleared
    where
      by_left : (kept : List Item) → UnlessNamed Follows kept w.between w.after names new → new.contents ≡ w.between.contents
      by_left [] follows = same w.between w.after follows (none_in_parts w.removal w.after records w.cut none).1
      by_left (item ∷ kept) follows = same_contents w.between new follows.2

  replaced_part_untouched : (Part : State → List Logged → State → Type 0) → ((mid : State) (rest : List Logged) → Part mid rest new → IsUntouched rest mid new)
      → ReplacesInPart Part there destination old records new → new.contents ≡ old.contents
  replaced_part_untouched Part same (inl part) = cleared_part_untouched there destination old new records none part
  replaced_part_untouched Part same (inr more) =
      let parts = none_in_parts more.removal more.after records more.cut none in
      same more.between more.after more.part parts.1 ∙ cleared_untouched there destination old more.between more.removal [] parts.0 more.cleared

-- ---- COPY and MOVE

pub untouched_copy : Untouched copy_method
untouched_copy = step_untouched copy_method leaves
  where
    leaves : LeavesUntouched copy_method
    leaves settings request found old new records answer done none = by_end done
      where
        depth : Depth
        depth = depth_or_all request

        source : PathValue
        source = source_path request found

        part : (mid : State) (rest : List Logged) → CopiesSourceInPart depth source found.destination mid rest new → IsUntouched rest mid new
        part mid rest w left = copy_untouched source found.destination mid.contents new.contents rest left depth found.destination.key w.copied

        whole : (names : List Item) (mid : State) (rest : List Logged) → CopiesSource depth source found.destination mid rest names new → IsUntouched rest mid new
        whole names mid rest w left =
            copy_untouched source found.destination mid.contents new.contents rest left depth found.destination.key
            (whole_copy_in_part depth source found.destination found.destination.key mid.contents new.contents rest names w.copied)

        by_end : CopyWork settings.profile request found old records answer new ⊎ ((answer ≡ Err Memory) × CopyCut request found old records new) → new.contents ≡ old.contents
        by_end (inl work) =
            replaced_untouched (is_some (replaced depth found.there)) found.destination old new records none (CopiesSource depth source found.destination) work.names (whole work.names) work.done
        by_end (inr cut) = replaced_part_untouched (is_some (replaced depth found.there)) found.destination old new records none (CopiesSourceInPart depth source found.destination) part cut.1

pub untouched_move : Untouched move_method
untouched_move = step_untouched move_method leaves
  where
    leaves : LeavesUntouched move_method
    leaves settings request found old new records answer done none = by_end done
      where
        source : PathValue
        source = source_path request found

        whole : (names : List Item) (mid : State) (rest : List Logged) → MovesSource source found.destination mid rest names new → IsUntouched rest mid new
        whole names mid rest w left = rename_untouched source found.destination mid.contents new.contents rest left names w.renamed

        part : (mid : State) (rest : List Logged) → MovesInPart source found.destination mid rest new → IsUntouched rest mid new
        part mid rest (inl nothing) left = same_contents mid new nothing.1
        part mid rest (inr (names, w)) left = whole names mid rest w left

        by_end : MoveWork settings.profile request found old records answer new ⊎ ((answer ≡ Err Memory) × MoveCut request found old records new) → new.contents ≡ old.contents
        by_end (inl work) = replaced_untouched (is_some found.there) found.destination old new records none (MovesSource source found.destination) work.names (whole work.names) work.done
        by_end (inr cut) = replaced_part_untouched (is_some found.there) found.destination old new records none (MovesInPart source found.destination) part cut.1
