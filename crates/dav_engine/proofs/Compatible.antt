-- Locks that stand together do so after each work.
use Rattle.std.proofs.Common.{◌≡◌, Bool, true, false, List, ◌∷◌, [], ◌++◌, Option, Some, None, is_some, Err, ◌⊎◌, inl, inr, sym, subst, option_map, refl, ℕ, Ok}
use Rattle.std.specs.Option.{ForSome, option_map_or}
use Rattle.dav_resource.specs.declared.error.DavError.TheVariants.{Memory}
use Rattle.dav_resource.specs.declared.meta.Meta.{Meta}
use Rattle.dav_resource.specs.declared.request.DavRequest.{DavRequest}
use Rattle.dav_resource.specs.PathText.{PathValue}
use Rattle.dav_store.specs.Logged.{Logged}
use Rattle.dav_store.specs.Locks.{grants, AreCompatible}
use Rattle.dav_store.specs.LockLaws.{compatible_granted, compatible_without, compatible_with_refreshed, compatible_elsewhere}
use Rattle.dav_store.specs.declared.lock.DavLock.{DavLock}
use Rattle.dav_messages.specs.Multistatus.{Item}
use Rattle.dav_messages.specs.Reply.{Answer}
use Rattle.dav_engine.specs.State.{State, LocksStay, DropsLocks, IsCompatible}
use Rattle.dav_engine.specs.Delete.{LeavesLocks}
use Rattle.dav_engine.specs.Transferring.{ClearsIf, ClearsInPart, UnlessNamed, Replaces, ReplacesInPart, source_path}
use Rattle.dav_resource.specs.declared.request.Depth.{Depth}
use Rattle.dav_resource.specs.declared.profile.Profile.{Profile}
use Rattle.dav_engine.specs.Copy.{replaced, CopiesSource, CopiesSourceInPart, CopyWork, CopyCut}
use Rattle.dav_engine.specs.Move.{MovesSource, MovesInPart, MoveWork, MoveCut}
use Rattle.dav_engine.specs.declared.transfer.Transfer.{Transfer}
use Rattle.dav_engine.specs.Locking.{is_refresh, lock_asked, AddsToLocks, TakesBack, LeavesLock, GrantsLock, DeniesLock, RefreshesAlone, RefreshesNamed, FindsNoLock, LockWorkBy, LockCutBy}
use Rattle.dav_engine.specs.Unlocking.{Unlocks, UnlocksNothing}
use Rattle.dav_engine.specs.Rules.{depth_or_all, fixed_path}
use Rattle.dav_walks.specs.Deletion.{Removes}
use Rattle.dav_engine.specs.Settings.{Settings}
use Rattle.dav_engine.specs.Method.{Method}
use Rattle.dav_engine.specs.Methods.{mkcol_method, write_method, delete_method, copy_method, move_method, lock_method, unlock_method, proppatch_method, options_method, propfind_method}

-- ---- by what becomes of the locks

stay : (old new : State) → LocksStay old new → IsCompatible old → IsCompatible new
stay old new same h = subst (λ l. ForSome l AreCompatible) (sym same) h

pub compatible_same : (old new : State) → new ≡ old → IsCompatible old → IsCompatible new
compatible_same old new same h = subst IsCompatible (sym same) h

mapped : (change : List DavLock → List DavLock) → ((list : List DavLock) → AreCompatible list → AreCompatible (change list)) → (locks : Option (List DavLock)) → ForSome locks AreCompatible → ForSome (option_map change locks) AreCompatible
mapped change keeps None h = λ list e. absurd cc
mapped change keeps (Some locks) h = λ list e. let is : change locks ≡ list = cc in subst AreCompatible is (keeps locks (h locks refl))

changed : (change : List DavLock → List DavLock) → ((list : List DavLock) → AreCompatible list → AreCompatible (change list)) → (old new : State) → new.locks ≡ option_map change old.locks → IsCompatible old → IsCompatible new
changed change keeps old new is h = subst (λ l. ForSome l AreCompatible) (sym is) (mapped change keeps old.locks h)

with_lock : (lock : DavLock) (locks : Option (List DavLock)) → option_map_or (λ list. grants list lock) locks false ≡ true → ForSome locks AreCompatible → ForSome (option_map (λ list. list ++ lock ∷ []) locks) AreCompatible
with_lock lock None granted h = λ list e. absurd cc
with_lock lock (Some locks) granted h = λ list e. let is : locks ++ lock ∷ [] ≡ list = cc in subst AreCompatible is (compatible_granted lock locks granted (h locks refl))

added : (lock : DavLock) (old new : State) → AddsToLocks lock old new → IsCompatible old → IsCompatible new
added lock old new adds h = subst (λ l. ForSome l AreCompatible) (sym adds.added) (with_lock lock old.locks adds.granted h)

taken_back : (lock : DavLock) (old new : State) → TakesBack lock old new → IsCompatible old → IsCompatible new
taken_back lock old new (inl same) h = stay old new same h
taken_back lock old new (inr kept) h = added lock old new kept.1 h

left : (lock : DavLock) (answer : Answer) (old new : State) → LeavesLock lock answer old new → IsCompatible old → IsCompatible new
left lock (Ok reply) old new adds h = added lock old new adds h
left lock (Err e) old new taken h = taken_back lock old new taken h

dropped : (path : PathValue) (old new : State) → DropsLocks path.key old new → IsCompatible old → IsCompatible new
dropped path old new (inl is) h = changed _ (λ list. compatible_elsewhere list path.key) old new is h
dropped path old new (inr kept) h = stay old new kept.1 h

by_names : (names : List Item) (path : PathValue) (old new : State) → LeavesLocks names path old new → IsCompatible old → IsCompatible new
by_names [] path old new leaves h = dropped path old new leaves h
by_names (item ∷ names) path old new leaves h = stay old new leaves h

refreshed : (request : DavRequest) (token : List ℕ) (old new : State) → RefreshesAlone request token old new → IsCompatible old → IsCompatible new
refreshed request token old new is h = changed _ (λ list. compatible_with_refreshed request.path.key token _ request.now list) old new is h

-- ---- by the work

module _ (profile : Profile) (request : DavRequest) (found : Option Meta) (old new : State) (records : List Logged) (answer : Answer) where
  locked : (refresh : Bool) → LockWorkBy profile refresh request found old records answer new → IsCompatible old → IsCompatible new
  locked true work h = by_end work.done
    where
      by_end : RefreshesNamed profile request found work.token old answer new ⊎ FindsNoLock request work.token old answer new → IsCompatible new
      by_end (inl recorded) = refreshed request work.token old new recorded.locks h
      by_end (inr none) = stay old new none.locks h
  locked false work h = by_end work.done
    where
      asked : DavLock
      asked = lock_asked request found work.info

      by_end : GrantsLock profile request found asked old records answer new ⊎ DeniesLock asked old records answer new → IsCompatible new
      by_end (inl granted) = left asked answer old new granted.locks h
      by_end (inr denied) = compatible_same old new denied.same h

  lock_cut : (refresh : Bool) → LockCutBy refresh request found old records new → IsCompatible old → IsCompatible new
  lock_cut true cut h = by_end cut.locks
    where
      by_end : LocksStay old new ⊎ RefreshesAlone request cut.token old new → IsCompatible new
      by_end (inl same) = stay old new same h
      by_end (inr is) = refreshed request cut.token old new is h
  lock_cut false cut h = taken_back (lock_asked request found cut.info) old new cut.locks h

-- locks that stand together before a method's work do so after it
abbrev pub Keeps : Method → Type 0
Keeps method =
    (settings : Settings) (request : DavRequest) (found : method.Found) (old new : State) (records : List Logged) (answer : Answer)
    → method.Work settings request found old records answer new ⊎ ((answer ≡ Err Memory) × method.Cut settings request found old records new) → IsCompatible old → IsCompatible new

pub keeps_mkcol : Keeps mkcol_method
keeps_mkcol settings request found old new records answer (inl work) h = stay old new work.1 h
keeps_mkcol settings request found old new records answer (inr cut) h = stay old new cut.1.1 h

pub keeps_put : (partial : Bool) → Keeps (write_method partial)
keeps_put partial settings request found old new records answer (inl work) h = stay old new work.1 h
keeps_put partial settings request found old new records answer (inr cut) h = stay old new cut.1.1 h

pub keeps_delete : Keeps delete_method
keeps_delete settings request found old new records answer (inl work) h = by_names work.names request.path old new work.locks h
keeps_delete settings request found old new records answer (inr cut) h = by_end cut.1.locks
  where
    by_end : LocksStay old new ⊎ (Removes (depth_or_all request) (fixed_path request.path (Some found)) old.contents new.contents records [] × DropsLocks request.path.key old new) → IsCompatible new
    by_end (inl same) = stay old new same h
    by_end (inr gone) = dropped request.path old new gone.1 h

cleared : (there : Bool) (destination : PathValue) (old new : State) (records : List Logged) (names : List Item) → ClearsIf there destination old records names new → IsCompatible old → IsCompatible new
cleared true destination old new records names clears h = by_names names destination old new clears.locks h
cleared false destination old new records names none h = compatible_same old new none.2 h

cleared_in_part : (there : Bool) (destination : PathValue) (old new : State) (records : List Logged) → ClearsInPart there destination old records new → IsCompatible old → IsCompatible new
cleared_in_part true destination old new records part h = stay old new part.1 h
cleared_in_part false destination old new records none h = compatible_same old new none.1 h

module _ (there : Bool) (destination : PathValue) (old new : State) (records : List Logged) where
  replaces : (Follows : State → List Logged → List Item → State → Type 0) (names : List Item) → Replaces Follows there destination old records names new
      → ((mid : State) (rest : List Logged) → Follows mid rest names new → IsCompatible mid → IsCompatible new) → IsCompatible old → IsCompatible new
  replaces Follows names w further h = by_left w.left w.follows (cleared there destination old w.between w.removal w.left w.cleared h)
    where
      by_left : (kept : List Item) → UnlessNamed Follows kept w.between w.after names new → IsCompatible w.between → IsCompatible new
      by_left [] follows mid = further w.between w.after follows mid
      by_left (item ∷ kept) follows mid = compatible_same w.between new follows.2 mid

  replaces_in_part : (Part : State → List Logged → State → Type 0) → ReplacesInPart Part there destination old records new
      → ((mid : State) (rest : List Logged) → Part mid rest new → IsCompatible mid → IsCompatible new) → IsCompatible old → IsCompatible new
  replaces_in_part Part (inl part) further h = cleared_in_part there destination old new records part h
  replaces_in_part Part (inr more) further h = further more.between more.after more.part (cleared there destination old more.between more.removal [] more.cleared h)

module _ (profile : Profile) (request : DavRequest) (found : Transfer) (old new : State) (records : List Logged) where
  abbrev source : PathValue
  source = source_path request found

  abbrev depth : Depth
  depth = depth_or_all request

  copied : (answer : Answer) → CopyWork profile request found old records answer new ⊎ ((answer ≡ Err Memory) × CopyCut request found old records new) → IsCompatible old → IsCompatible new
  copied answer (inl work) = replaces (is_some (replaced depth found.there)) found.destination old new records (CopiesSource depth source found.destination) work.names work.done (λ mid rest follows. stay mid new follows.locks)
  copied answer (inr cut) = replaces_in_part (is_some (replaced depth found.there)) found.destination old new records (CopiesSourceInPart depth source found.destination) cut.1 (λ mid rest part. stay mid new part.locks)

  moved : (answer : Answer) → MoveWork profile request found old records answer new ⊎ ((answer ≡ Err Memory) × MoveCut request found old records new) → IsCompatible old → IsCompatible new
  moved answer (inl work) = replaces (is_some found.there) found.destination old new records (MovesSource source found.destination) work.names work.done (λ mid rest follows. by_names work.names source mid new follows.locks)
  moved answer (inr cut) = replaces_in_part (is_some found.there) found.destination old new records (MovesInPart source found.destination) cut.1 by_part
    where
      by_part : (mid : State) (rest : List Logged) → MovesInPart source found.destination mid rest new → IsCompatible mid → IsCompatible new
      by_part mid rest (inl none) = compatible_same mid new none.1
      by_part mid rest (inr (names, moves)) = by_names names source mid new moves.locks

pub keeps_copy : Keeps copy_method
keeps_copy settings request found old new records answer = copied settings.profile request found old new records answer

pub keeps_move : Keeps move_method
keeps_move settings request found old new records answer = moved settings.profile request found old new records answer

pub keeps_lock : Keeps lock_method
keeps_lock settings request found old new records answer (inl work) h = locked settings.profile request found old new records answer (is_refresh settings.facts.bodies request.body) work h
keeps_lock settings request found old new records answer (inr cut) h = lock_cut settings.profile request found old new records answer (is_refresh settings.facts.bodies request.body) cut.1 h

pub keeps_unlock : Keeps unlock_method
keeps_unlock settings request found old new records answer (inl work) h = by_end work.done
  where
    by_end : Unlocks request found work.token old answer new ⊎ UnlocksNothing request work.token old answer new → IsCompatible new
    by_end (inl gone) = changed _ (λ list. compatible_without request.path.key work.token list) old new gone.locks h
    by_end (inr none) = stay old new none.locks h
keeps_unlock settings request found old new records answer (inr cut) h = compatible_same old new cut.1.same h

pub keeps_proppatch : Keeps proppatch_method
keeps_proppatch settings request found old new records answer (inl work) h = stay old new work.1 h
keeps_proppatch settings request found old new records answer (inr cut) h = stay old new cut.1.1 h

pub keeps_options : Keeps options_method
keeps_options settings request found old new records answer (inl work) h = compatible_same old new work.same h
keeps_options settings request found old new records answer (inr cut) h = compatible_same old new cut.1.same h

pub keeps_propfind : Keeps propfind_method
keeps_propfind settings request found old new records answer (inl work) h = compatible_same old new work.same h
keeps_propfind settings request found old new records answer (inr cut) h = compatible_same old new cut.1.same h
