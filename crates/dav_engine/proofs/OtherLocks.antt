-- Which locks a request leaves as they were, whatever its method and its result.
use Rattle.std.proofs.Common.{◌≡◌, ◌≢◌, ◌⊎◌, ◌∙◌, inl, inr, refl, sym, ap, ap₂, subst, ℕ, Bool, true, false, cond, not, ◌&&◌, if◌then◌else◌, List, [], ◌∷◌, ◌++◌, filter, Option, Some, None, is_some, option_map, Result, Ok, Err}
use Rattle.std.proofs.lemmas.Bool.{and_parts, and_from, or_parts, or_left, or_right}
use Rattle.std.specs.List.{list_all, list_any}
use Rattle.std.specs.Option.{option_map_or}
use Rattle.dav_key.specs.Key.{Key}
use Rattle.dav_resource.specs.PathText.{PathValue}
use Rattle.dav_resource.specs.declared.error.DavError.{DavError}
use Rattle.dav_resource.specs.declared.meta.Meta.{Meta}
use Rattle.dav_resource.specs.declared.method.DavMethod.{DavMethod}
use Rattle.dav_resource.specs.declared.method.DavMethod.TheVariants.{Put, Patch, Options, PropFind, PropPatch, MkCol, Copy, Move, Delete, Lock, Unlock}
use Rattle.dav_resource.specs.declared.request.DavRequest.{DavRequest}
use Rattle.dav_headers.specs.Destination.{destination_of}
use Rattle.dav_store.specs.LockCalls.{is_named, refreshed, with_refreshed}
use Rattle.dav_store.specs.Locks.{is_at_or_below, at_or_below, covering, is_submitted, permits_at, permits}
use Rattle.dav_store.specs.Logged.{Logged}
use Rattle.dav_store.specs.Members.{IsIn}
use Rattle.dav_store.specs.declared.lock.DavLock.{DavLock}
use Rattle.dav_messages.specs.Conditions.{submitted_tokens}
use Rattle.dav_messages.specs.Dialogue.{Passed, LeadsTo}
use Rattle.dav_messages.specs.Multistatus.{Item}
use Rattle.dav_messages.specs.Reply.{Answer}
use Rattle.dav_walks.specs.Deletion.{Removes}
use Rattle.dav_find.specs.RangeKeys.{in_left, in_map}
use Rattle.dav_engine.specs.Bounds.{is_within, is_at_destination, HasLock, may_change_lock, untimed, KeepsOtherLocks}
use Rattle.dav_engine.specs.Copy.{replaced, CopiesSource, CopiesSourceInPart, CopyWork, CopyCut}
use Rattle.dav_engine.specs.Delete.{LeavesLocks, DeleteWork, DeleteCut}
use Rattle.dav_engine.specs.Locking.{is_refresh, lock_asked, refresh_timeout, AddsToLocks, TakesBack, LeavesLock, GrantsLock, DeniesLock, RefreshesAlone, RefreshesNamed, FindsNoLock, LockWorkBy, LockCutBy}
use Rattle.dav_engine.specs.Method.{Method, StepBy, Refused, Done, CutShort, CutInWork}
use Rattle.dav_engine.specs.Methods.{Step, mkcol_method, write_method, delete_method, copy_method, move_method, lock_method, unlock_method, proppatch_method, options_method, propfind_method}
use Rattle.dav_engine.specs.Move.{MovesSource, MovesInPart, MoveWork, MoveCut}
use Rattle.dav_engine.specs.Rules.{permits_by, is_permitted, depth_or_all, fixed_path}
use Rattle.dav_engine.specs.Settings.{Settings}
use Rattle.dav_engine.specs.State.{State, LocksStay, DropsLocks, IsLawfulState}
use Rattle.dav_engine.specs.Transferring.{asked_destination, where_reached, reach_verdict, ClearsIf, ClearsInPart, UnlessNamed, Replaces, ReplacesInPart, source_path}
use Rattle.dav_engine.specs.Unlocking.{Unlocks, UnlocksNothing}
use Rattle.dav_engine.specs.declared.transfer.Transfer.{Transfer}
use Rattle.dav_engine.proofs.Guarding.{delete_passed}
use Rattle.dav_engine.proofs.Passing.{CopyPassed, copy_passed, MovePassed, move_passed}

-- ---- elements of lists

-- an element that passes the test stays
in_filter : {X : Type 0} (test : X → Bool) (x : X) (xs : List X) → IsIn x xs → test x ≡ true → IsIn x (filter test xs)
in_filter test x [] inside e = absurd inside
in_filter test x (y ∷ xs) (inl same) e = subst (λ b. IsIn x (cond b (y ∷ filter test xs) (filter test xs))) (sym (ap test same ∙ e)) (inl same)
in_filter {X} test x (y ∷ xs) (inr inside) e = by_test (test y) (in_filter test x xs inside e)
  where
    by_test : (b : Bool) → IsIn x (filter test xs) → IsIn x (cond b (y ∷ filter test xs) (filter test xs))
    by_test true rest = inr rest
    by_test false rest = rest

-- an element of those that stay is one of all
out_filter : {X : Type 0} (test : X → Bool) (x : X) (xs : List X) → IsIn x (filter test xs) → IsIn x xs
out_filter test x [] inside = absurd inside
out_filter {X} test x (y ∷ xs) inside = by_test (test y) inside (out_filter test x xs)
  where
    by_test : (b : Bool) → IsIn x (cond b (y ∷ filter test xs) (filter test xs)) → (IsIn x (filter test xs) → IsIn x xs) → IsIn x (y ∷ xs)
    by_test true (inl same) further = inl same
    by_test true (inr rest) further = inr (further rest)
    by_test false rest further = inr (further rest)

-- a test that all elements pass, each passes
all_in : {X : Type 0} (test : X → Bool) (x : X) (xs : List X) → list_all test xs ≡ true → IsIn x xs → test x ≡ true
all_in test x [] all inside = absurd inside
all_in test x (y ∷ xs) all (inl same) = ap test (sym same) ∙ (and_parts (test y) (list_all test xs) all).0
all_in test x (y ∷ xs) all (inr inside) = all_in test x xs (and_parts (test y) (list_all test xs) all).1 inside

-- ---- a lock, before and after

has_same : (lock : DavLock) (old new : State) → LocksStay old new → HasLock lock old → HasLock lock new
has_same lock old new same (list, is, inside) = (list, same ∙ is, inside)

-- after a change of the list that keeps it, perhaps in another form
has_changed : (change : List DavLock → List DavLock) (lock now : DavLock) (old new : State) → new.locks ≡ option_map change old.locks → ((list : List DavLock) → IsIn lock list → IsIn now (change list)) → HasLock lock old → HasLock now new
has_changed change lock now old new made keeps (list, is, inside) = (change list, made ∙ ap (option_map change) is, keeps list inside)

-- before a change of the list that adds none
had_before : (change : List DavLock → List DavLock) (lock : DavLock) (old new : State) → new.locks ≡ option_map change old.locks → ((list : List DavLock) → IsIn lock (change list) → IsIn lock list) → HasLock lock new → HasLock lock old
had_before change lock old new made comes (list, is, inside) = by_locks old.locks refl (sym made ∙ is)
  where
    by_locks : (locks : Option (List DavLock)) → old.locks ≡ locks → option_map change locks ≡ Some list → HasLock lock old
    by_locks None had given = absurd cc
    by_locks (Some before) had given = (before, had, comes before (let same : change before ≡ list = cc in subst (IsIn lock) (sym same) inside))

-- ---- only locks that may go are gone, and none is new

pub record LosesOnly (may : DavLock → Bool) (old new : State) : Type 0 where
  pub kept : (lock : DavLock) → HasLock lock old → may lock ≡ false → HasLock lock new
  pub none_new : (lock : DavLock) → HasLock lock new → HasLock lock old

-- no lock that may not go is at or below the key
abbrev pub IsFree : (DavLock → Bool) → Key → State → Type 0
IsFree may key state = (lock : DavLock) → HasLock lock state → may lock ≡ false → is_at_or_below lock.path.key key ≡ false

module _ (may : DavLock → Bool) where
  loses_stay : (old new : State) → LocksStay old new → LosesOnly may old new
  loses_stay old new same = record { kept = λ lock has free. has_same lock old new same has; none_new = λ lock. has_same lock new old (sym same) }

  loses_none : (old new : State) → new ≡ old → LosesOnly may old new
  loses_none old new same = loses_stay old new (ap (λ (s : State). s.locks) same)

  loses_then : (old mid new : State) → LosesOnly may old mid → LosesOnly may mid new → LosesOnly may old new
  loses_then old mid new first second = record { kept = λ lock has free. second.kept lock (first.kept lock has free) free; none_new = λ lock has. first.none_new lock (second.none_new lock has) }

  loses_filtered : (keeps : DavLock → Bool) (old new : State) → new.locks ≡ option_map (filter keeps) old.locks → ((lock : DavLock) → HasLock lock old → may lock ≡ false → keeps lock ≡ true) → LosesOnly may old new
  loses_filtered keeps old new made stays =
      record {
        kept = λ lock has free. has_changed (filter keeps) lock lock old new made (λ list inside. in_filter keeps lock list inside (stays lock has free)) has;
        none_new = λ lock. had_before (filter keeps) lock old new made (out_filter keeps lock);
      }

  free_after : (key : Key) (old mid : State) → LosesOnly may old mid → IsFree may key old → IsFree may key mid
  free_after key old mid loses free lock has = free lock (loses.none_new lock has)

  loses_dropped : (key : Key) (old new : State) → IsFree may key old → DropsLocks key old new → LosesOnly may old new
  loses_dropped key old new free (inl made) = loses_filtered (λ lock. not (is_at_or_below lock.path.key key)) old new made (λ lock has is. ap not (free lock has is))
  loses_dropped key old new free (inr kept) = loses_stay old new kept.1

  loses_by_names : (names : List Item) (path : PathValue) (old new : State) → IsFree may path.key old → LeavesLocks names path old new → LosesOnly may old new
  loses_by_names [] path old new free leaves = loses_dropped path.key old new free leaves
  loses_by_names (item ∷ names) path old new free leaves = loses_stay old new leaves

  loses_cleared : (there : Bool) (destination : PathValue) (old new : State) (records : List Logged) (names : List Item) → IsFree may destination.key old → ClearsIf there destination old records names new → LosesOnly may old new
  loses_cleared true destination old new records names free clears = loses_by_names names destination old new free clears.locks
  loses_cleared false destination old new records names free none = loses_none old new none.2

  loses_cleared_in_part : (there : Bool) (destination : PathValue) (old new : State) (records : List Logged) → ClearsInPart there destination old records new → LosesOnly may old new
  loses_cleared_in_part true destination old new records part = loses_stay old new part.1
  loses_cleared_in_part false destination old new records none = loses_none old new none.1

  -- first the locks at the destination, and then what follows
  loses_replaced : (there : Bool) (destination : PathValue) (old new : State) (records : List Logged) → IsFree may destination.key old
      → (Follows : State → List Logged → List Item → State → Type 0) (names : List Item) → Replaces Follows there destination old records names new
      → ((mid : State) (rest : List Logged) → LosesOnly may old mid → Follows mid rest names new → LosesOnly may mid new) → LosesOnly may old new
  loses_replaced there destination old new records free Follows names w further = loses_then old w.between new first (by_left w.left w.follows)
    where
      first : LosesOnly may old w.between
      first = loses_cleared there destination old w.between w.removal w.left free w.cleared

      by_left : (kept : List Item) → UnlessNamed Follows kept w.between w.after names new → LosesOnly may w.between new
      by_left [] follows = further w.between w.after first follows
      by_left (item ∷ kept) follows = loses_none w.between new follows.2

  loses_replaced_in_part : (there : Bool) (destination : PathValue) (old new : State) (records : List Logged) → IsFree may destination.key old
      → (Part : State → List Logged → State → Type 0) → ReplacesInPart Part there destination old records new
      → ((mid : State) (rest : List Logged) → LosesOnly may old mid → Part mid rest new → LosesOnly may mid new) → LosesOnly may old new
  loses_replaced_in_part there destination old new records free Part (inl part) further = loses_cleared_in_part there destination old new records part
  loses_replaced_in_part there destination old new records free Part (inr more) further = loses_then old more.between new first (further more.between more.after first more.part)
    where
      first : LosesOnly may old more.between
      first = loses_cleared there destination old more.between more.removal [] free more.cleared

-- ---- where the locks permit the request

-- the request submits the lock, as its principal
abbrev submits : DavRequest → DavLock → Bool
submits request lock = is_submitted request.principal false (submitted_tokens request) lock

-- where a deep request is permitted, each lock at or below the key is submitted
submitted_below : (request : DavRequest) (state : State) (key : Key) (lock : DavLock) → is_permitted request state key true ≡ true → HasLock lock state → is_at_or_below lock.path.key key ≡ true → submits request lock ≡ true
submitted_below request state key lock permitted (list, is, inside) below =
    let given : permits list key request.principal false true (submitted_tokens request) ≡ true = sym (ap (λ locks. permits_by locks key request.principal true (submitted_tokens request)) is) ∙ permitted in
    all_in (submits request) lock (at_or_below list key) (and_parts (permits_at (covering list key) (submits request)) (list_all (submits request) (at_or_below list key)) given).1
    (in_filter (λ l. is_at_or_below l.path.key key) lock list inside below)

-- so if those may go, no other is there
free_by : (may : DavLock → Bool) (request : DavRequest) (state : State) (key : Key) → is_permitted request state key true ≡ true
    → ((lock : DavLock) → is_at_or_below lock.path.key key ≡ true → submits request lock ≡ true → may lock ≡ true) → IsFree may key state
free_by may request state key permitted goes lock has free = by_test (is_at_or_below lock.path.key key) refl
  where
    by_test : (b : Bool) → is_at_or_below lock.path.key key ≡ b → is_at_or_below lock.path.key key ≡ false
    by_test false apart = apart
    by_test true below = absurd (let no : true ≡ false = sym (goes lock below (submitted_below request state key lock permitted has below)) ∙ free in cc)

-- the destination that the rules passed is the one in the header
destined : (moving : Bool) (settings : Settings) (request : DavRequest) (to : PathValue) → asked_destination moving settings request ≡ Ok to → destination_of request.headers settings.prefix ≡ Ok to
destined moving settings request to = by_verdict (reach_verdict moving (depth_or_all request))
  where
    by_verdict : (verdict : Result (Unit {0}) DavError) → where_reached verdict settings request ≡ Ok to → destination_of request.headers settings.prefix ≡ Ok to
    by_verdict (Ok reached) is = is
    by_verdict (Err e) is = absurd cc

at_destination : (moving : Bool) (settings : Settings) (request : DavRequest) (to : PathValue) (key : Key) → asked_destination moving settings request ≡ Ok to → is_at_or_below key to.key ≡ true → is_at_destination settings request key ≡ true
at_destination moving settings request to key asked below = ap (λ r. is_within r key) (destined moving settings request to asked) ∙ below

-- ---- by the method

-- whatever a request's method and its result, the locks are as `KeepsOtherLocks` says
abbrev pub OtherLocks : Option DavMethod → Method → Type 0
OtherLocks name method =
    (settings : Settings) (request : DavRequest) (old new : State) (records : List Logged) (answer : Answer)
    → IsLawfulState old → StepBy method settings request old records answer new → KeepsOtherLocks name settings request old new

-- the cases of a step: nothing changes, or the rules are passed and the work is done, perhaps in part
by_step : (method : Method) (settings : Settings) (request : DavRequest) (old new : State) (records : List Logged) (answer : Answer) (Law : Type 0) → (new ≡ old → Law)
    → ((found : method.Found) (head rest : List Logged) → LeadsTo (method.rules settings request old) head (Passed found) → method.Work settings request found old rest answer new ⊎ method.Cut settings request found old rest new → Law)
    → StepBy method settings request old records answer new → Law
by_step method settings request old new records answer Law same further (Refused h) = same h.same
by_step method settings request old new records answer Law same further (Done h) = further h.found h.head h.rest h.passed (inl h.work)
by_step method settings request old new records answer Law same further (CutShort h) = same h.same
by_step method settings request old new records answer Law same further (CutInWork h) = further h.found h.head h.rest h.passed (inr h.work)

-- the locks are as they were
pub other_locks_stay : (name : Option DavMethod) (settings : Settings) (request : DavRequest) (old new : State) → LocksStay old new → KeepsOtherLocks name settings request old new
other_locks_stay name settings request old new same =
    record {
      kept = λ lock has free. has_same lock old new same has;
      none_new = λ other lock. has_same lock new old (sym same);
      none_gone = λ is lock has. (lock, has_same lock old new same has, refl);
    }

-- nothing changes
pub other_locks_same : (name : Option DavMethod) (settings : Settings) (request : DavRequest) (old new : State) → new ≡ old → KeepsOtherLocks name settings request old new
other_locks_same name settings request old new same = other_locks_stay name settings request old new (ap (λ (s : State). s.locks) same)

-- a method that leaves the locks as they were
abbrev Untouching : Method → Type 0
Untouching method =
    (settings : Settings) (request : DavRequest) (found : method.Found) (old new : State) (records : List Logged) (answer : Answer)
    → method.Work settings request found old records answer new ⊎ method.Cut settings request found old records new → LocksStay old new

untouching : (name : Option DavMethod) (method : Method) → Untouching method → OtherLocks name method
untouching name method stays settings request old new records answer lawful step =
    by_step method settings request old new records answer (KeepsOtherLocks name settings request old new) (other_locks_same name settings request old new)
    (λ found head rest passed end. other_locks_stay name settings request old new (stays settings request found old new rest answer end)) step

mkcol_stays : Untouching mkcol_method
mkcol_stays settings request found old new records answer (inl work) = work.1
mkcol_stays settings request found old new records answer (inr cut) = cut.1

write_stays : (partial : Bool) → Untouching (write_method partial)
write_stays partial settings request found old new records answer (inl work) = work.1
write_stays partial settings request found old new records answer (inr cut) = cut.1

proppatch_stays : Untouching proppatch_method
proppatch_stays settings request found old new records answer (inl work) = work.1
proppatch_stays settings request found old new records answer (inr cut) = cut.1

options_stays : Untouching options_method
options_stays settings request found old new records answer (inl work) = ap (λ (s : State). s.locks) work.same
options_stays settings request found old new records answer (inr cut) = ap (λ (s : State). s.locks) cut.same

propfind_stays : Untouching propfind_method
propfind_stays settings request found old new records answer (inl work) = ap (λ (s : State). s.locks) work.same
propfind_stays settings request found old new records answer (inr cut) = ap (λ (s : State). s.locks) cut.same

pub other_locks_mkcol : OtherLocks (Some MkCol) mkcol_method
other_locks_mkcol = untouching (Some MkCol) mkcol_method mkcol_stays

pub other_locks_put : OtherLocks (Some Put) (write_method false)
other_locks_put = untouching (Some Put) (write_method false) (write_stays false)

pub other_locks_patch : OtherLocks (Some Patch) (write_method true)
other_locks_patch = untouching (Some Patch) (write_method true) (write_stays true)

pub other_locks_proppatch : OtherLocks (Some PropPatch) proppatch_method
other_locks_proppatch = untouching (Some PropPatch) proppatch_method proppatch_stays

pub other_locks_options : OtherLocks (Some Options) options_method
other_locks_options = untouching (Some Options) options_method options_stays

pub other_locks_propfind : OtherLocks (Some PropFind) propfind_method
other_locks_propfind = untouching (Some PropFind) propfind_method propfind_stays

-- ---- DELETE, COPY, MOVE and UNLOCK

-- a method other than LOCK adds no lock
unlocking : (name : Option DavMethod) (settings : Settings) (request : DavRequest) (old new : State) → name ≢ Some Lock → LosesOnly (may_change_lock name settings request) old new → KeepsOtherLocks name settings request old new
unlocking name settings request old new other loses = record { kept = loses.kept; none_new = λ not_lock. loses.none_new; none_gone = λ is. absurd (other is) }

pub other_locks_delete : OtherLocks (Some Delete) delete_method
other_locks_delete settings request old new records answer lawful step =
    unlocking (Some Delete) settings request old new (λ e. cc) (by_step delete_method settings request old new records answer (LosesOnly may old new) (loses_none may old new) passed step)
  where
    may : DavLock → Bool
    may = may_change_lock (Some Delete) settings request

    passed : (found : Meta) (head rest : List Logged) → LeadsTo (delete_method.rules settings request old) head (Passed found) → DeleteWork settings.profile request found old rest answer new ⊎ DeleteCut request found old rest new → LosesOnly may old new
    passed found head rest rules end = by_end end
      where
        free : IsFree may request.path.key old
        free = free_by may request old request.path.key (delete_passed request old head found rules) (λ lock below submitted. and_from _ _ below submitted)

        by_locks : LocksStay old new ⊎ (Removes (depth_or_all request) (fixed_path request.path (Some found)) old.contents new.contents rest [] × DropsLocks request.path.key old new) → LosesOnly may old new
        by_locks (inl same) = loses_stay may old new same
        by_locks (inr gone) = loses_dropped may request.path.key old new free gone.1

        by_end : DeleteWork settings.profile request found old rest answer new ⊎ DeleteCut request found old rest new → LosesOnly may old new
        by_end (inl work) = loses_by_names may work.names request.path old new free work.locks
        by_end (inr cut) = by_locks cut.locks

pub other_locks_copy : OtherLocks (Some Copy) copy_method
other_locks_copy settings request old new records answer lawful step =
    unlocking (Some Copy) settings request old new (λ e. cc) (by_step copy_method settings request old new records answer (LosesOnly may old new) (loses_none may old new) passed step)
  where
    may : DavLock → Bool
    may = may_change_lock (Some Copy) settings request

    passed : (found : Transfer) (head rest : List Logged) → LeadsTo (copy_method.rules settings request old) head (Passed found) → CopyWork settings.profile request found old rest answer new ⊎ CopyCut request found old rest new → LosesOnly may old new
    passed found head rest rules end = by_end end
      where
        seen : CopyPassed settings request old found
        seen = copy_passed settings request old head found rules

        free : IsFree may found.destination.key old
        free =
            free_by may request old found.destination.key seen.permitted
            (λ lock below submitted. and_from _ _ (at_destination false settings request found.destination lock.path.key seen.asked below) submitted)

        there : Bool
        there = is_some (replaced (depth_or_all request) found.there)

        by_end : CopyWork settings.profile request found old rest answer new ⊎ CopyCut request found old rest new → LosesOnly may old new
        by_end (inl work) =
            loses_replaced may there found.destination old new rest free (CopiesSource (depth_or_all request) (source_path request found) found.destination) work.names work.done
            (λ mid more loses follows. loses_stay may mid new follows.locks)
        by_end (inr cut) =
            loses_replaced_in_part may there found.destination old new rest free (CopiesSourceInPart (depth_or_all request) (source_path request found) found.destination) cut
            (λ mid more loses part. loses_stay may mid new part.locks)

pub other_locks_move : OtherLocks (Some Move) move_method
other_locks_move settings request old new records answer lawful step =
    unlocking (Some Move) settings request old new (λ e. cc) (by_step move_method settings request old new records answer (LosesOnly may old new) (loses_none may old new) passed step)
  where
    may : DavLock → Bool
    may = may_change_lock (Some Move) settings request

    passed : (found : Transfer) (head rest : List Logged) → LeadsTo (move_method.rules settings request old) head (Passed found) → MoveWork settings.profile request found old rest answer new ⊎ MoveCut request found old rest new → LosesOnly may old new
    passed found head rest rules end = by_end end
      where
        seen : MovePassed settings request old found
        seen = move_passed settings request old head found rules

        free_source : IsFree may request.path.key old
        free_source =
            free_by may request old request.path.key seen.permitted.source
            (λ lock below submitted. and_from _ _ (or_left (is_at_or_below lock.path.key request.path.key) (is_at_destination settings request lock.path.key) below) submitted)

        free : IsFree may found.destination.key old
        free =
            free_by may request old found.destination.key seen.permitted.destination
            (λ lock below submitted. and_from _ _ (or_right (is_at_or_below lock.path.key request.path.key) (is_at_destination settings request lock.path.key) (at_destination true settings request found.destination lock.path.key seen.asked below)) submitted)

        by_moves : (mid : State) (more : List Logged) (names : List Item) → LosesOnly may old mid → MovesSource (source_path request found) found.destination mid more names new → LosesOnly may mid new
        by_moves mid more names loses moves = loses_by_names may names (source_path request found) mid new (free_after may request.path.key old mid loses free_source) moves.locks

        by_part : (mid : State) (more : List Logged) → LosesOnly may old mid → MovesInPart (source_path request found) found.destination mid more new → LosesOnly may mid new
        by_part mid more loses (inl none) = loses_none may mid new none.1
        by_part mid more loses (inr (names, moves)) = by_moves mid more names loses moves

        by_end : MoveWork settings.profile request found old rest answer new ⊎ MoveCut request found old rest new → LosesOnly may old new
        by_end (inl work) =
            loses_replaced may (is_some found.there) found.destination old new rest free (MovesSource (source_path request found) found.destination) work.names work.done
            (λ mid more loses follows. by_moves mid more work.names loses follows)
        by_end (inr cut) = loses_replaced_in_part may (is_some found.there) found.destination old new rest free (MovesInPart (source_path request found) found.destination) cut by_part

pub other_locks_unlock : OtherLocks (Some Unlock) unlock_method
other_locks_unlock settings request old new records answer lawful step =
    unlocking (Some Unlock) settings request old new (λ e. cc) (by_step unlock_method settings request old new records answer (LosesOnly may old new) (loses_none may old new) passed step)
  where
    may : DavLock → Bool
    may = may_change_lock (Some Unlock) settings request

    passed : (found : Option Meta) (head rest : List Logged) → LeadsTo (unlock_method.rules settings request old) head (Passed found) → unlock_method.Work settings request found old rest answer new ⊎ unlock_method.Cut settings request found old rest new → LosesOnly may old new
    passed found head rest rules (inr cut) = loses_none may old new cut.same
    passed found head rest rules (inl work) = by_end work.done
      where
        unnamed : (lock : DavLock) → may lock ≡ false → is_named request.path.key work.token lock ≡ false
        unnamed lock is = sym (ap (λ given. option_map_or (λ token. is_named request.path.key token lock) given false) work.named) ∙ is

        by_end : Unlocks request found work.token old answer new ⊎ UnlocksNothing request work.token old answer new → LosesOnly may old new
        by_end (inl gone) = loses_filtered may (λ lock. not (is_named request.path.key work.token lock)) old new gone.locks (λ lock has is. ap not (unnamed lock is))
        by_end (inr none) = loses_stay may old new none.locks

-- ---- LOCK

module _ (settings : Settings) (request : DavRequest) (old new : State) where
  abbrev Law : Type 0
  Law = KeepsOtherLocks (Some Lock) settings request old new

  locks_added : (asked : DavLock) → AddsToLocks asked old new → Law
  locks_added asked adds =
      record { kept = λ lock has free. stays lock has; none_new = λ other. absurd (other refl); none_gone = λ is lock has. (lock, stays lock has, refl) }
    where
      stays : (lock : DavLock) → HasLock lock old → HasLock lock new
      stays lock = has_changed (λ list. list ++ asked ∷ []) lock lock old new adds.added (λ list. in_left lock list (asked ∷ []))

  locks_taken_back : (asked : DavLock) → TakesBack asked old new → Law
  locks_taken_back asked (inl same) = other_locks_stay (Some Lock) settings request old new same
  locks_taken_back asked (inr kept) = locks_added asked kept.1

  locks_left : (asked : DavLock) (answer : Answer) → LeavesLock asked answer old new → Law
  locks_left asked (Ok reply) adds = locks_added asked adds
  locks_left asked (Err e) taken = locks_taken_back asked taken

  locks_refreshed : (token : List ℕ) → is_refresh settings.facts.bodies request.body ≡ true → submitted_tokens request ≡ token ∷ [] → RefreshesAlone request token old new → Law
  locks_refreshed token refresh one made =
      record {
        kept = λ lock has free. subst (λ l. HasLock l new) (ap (by_name lock) (unnamed lock free)) (becomes lock has);
        none_new = λ other. absurd (other refl);
        none_gone = λ is lock has. (turned lock, becomes lock has, untimed_alike lock (is_named request.path.key token lock));
      }
    where
      by_name : DavLock → Bool → DavLock
      by_name lock named = if named then refreshed (refresh_timeout request) request.now lock else lock

      turned : DavLock → DavLock
      turned lock = if is_named request.path.key token lock then refreshed (refresh_timeout request) request.now lock else lock

      becomes : (lock : DavLock) → HasLock lock old → HasLock (turned lock) new
      becomes lock = has_changed (with_refreshed request.path.key token (refresh_timeout request) request.now) lock (turned lock) old new made (in_map turned lock)

      unnamed : (lock : DavLock) → may_change_lock (Some Lock) settings request lock ≡ false → is_named request.path.key token lock ≡ false
      unnamed lock free = (or_parts (is_named request.path.key token lock) false (sym (ap₂ (λ b tokens. b && list_any (λ t. is_named request.path.key t lock) tokens) refresh one) ∙ free)).0

      untimed_alike : (lock : DavLock) (named : Bool) → untimed (by_name lock named) ≡ untimed lock
      untimed_alike lock true = refl
      untimed_alike lock false = refl

  locks_by_work : (found : Option Meta) (records : List Logged) (answer : Answer) (refresh : Bool) → is_refresh settings.facts.bodies request.body ≡ refresh → LockWorkBy settings.profile refresh request found old records answer new → Law
  locks_by_work found records answer true is work = by_end work.done
    where
      by_end : RefreshesNamed settings.profile request found work.token old answer new ⊎ FindsNoLock request work.token old answer new → Law
      by_end (inl recorded) = locks_refreshed work.token is work.one recorded.locks
      by_end (inr none) = other_locks_stay (Some Lock) settings request old new none.locks
  locks_by_work found records answer false is work = by_end work.done
    where
      asked : DavLock
      asked = lock_asked request found work.info

      by_end : GrantsLock settings.profile request found asked old records answer new ⊎ DeniesLock asked old records answer new → Law
      by_end (inl granted) = locks_left asked answer granted.locks
      by_end (inr denied) = other_locks_same (Some Lock) settings request old new denied.same

  locks_by_cut : (found : Option Meta) (records : List Logged) (refresh : Bool) → is_refresh settings.facts.bodies request.body ≡ refresh → LockCutBy refresh request found old records new → Law
  locks_by_cut found records true is cut = by_end cut.locks
    where
      by_end : LocksStay old new ⊎ RefreshesAlone request cut.token old new → Law
      by_end (inl same) = other_locks_stay (Some Lock) settings request old new same
      by_end (inr made) = locks_refreshed cut.token is cut.one made
  locks_by_cut found records false is cut = locks_taken_back (lock_asked request found cut.info) cut.locks

pub other_locks_lock : OtherLocks (Some Lock) lock_method
other_locks_lock settings request old new records answer lawful step =
    by_step lock_method settings request old new records answer (KeepsOtherLocks (Some Lock) settings request old new) (other_locks_same (Some Lock) settings request old new) passed step
  where
    passed : (found : Option Meta) (head rest : List Logged) → LeadsTo (lock_method.rules settings request old) head (Passed found) → lock_method.Work settings request found old rest answer new ⊎ lock_method.Cut settings request found old rest new → KeepsOtherLocks (Some Lock) settings request old new
    passed found head rest rules (inl work) = locks_by_work settings request old new found rest answer (is_refresh settings.facts.bodies request.body) refl work
    passed found head rest rules (inr cut) = locks_by_cut settings request old new found rest (is_refresh settings.facts.bodies request.body) refl cut

-- ---- any method

pub other_locks : (method : Option DavMethod) (settings : Settings) (request : DavRequest) (old new : State) (records : List Logged) (answer : Answer) → IsLawfulState old → Step method settings request old records answer new → KeepsOtherLocks method settings request old new
other_locks (Some MkCol) settings request old new records answer = other_locks_mkcol settings request old new records answer
other_locks (Some Put) settings request old new records answer = other_locks_put settings request old new records answer
other_locks (Some Patch) settings request old new records answer = other_locks_patch settings request old new records answer
other_locks (Some Delete) settings request old new records answer = other_locks_delete settings request old new records answer
other_locks (Some Copy) settings request old new records answer = other_locks_copy settings request old new records answer
other_locks (Some Move) settings request old new records answer = other_locks_move settings request old new records answer
other_locks (Some Lock) settings request old new records answer = other_locks_lock settings request old new records answer
other_locks (Some Unlock) settings request old new records answer = other_locks_unlock settings request old new records answer
other_locks (Some PropPatch) settings request old new records answer = other_locks_proppatch settings request old new records answer
other_locks (Some Options) settings request old new records answer = other_locks_options settings request old new records answer
other_locks (Some PropFind) settings request old new records answer = other_locks_propfind settings request old new records answer
other_locks method settings request old new records answer = λ lawful unserved. other_locks_same method settings request old new unserved.same
