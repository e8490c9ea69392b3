-- What a host asks for its operator: the replies, and what such a frame leaves as it is.
use Rattle.std.proofs.Common.{◌≡◌, ℕ, List, None, is_some, Result, Ok, Err, refl, sym, ◌∙◌, ap, inl, inr, ◌⊎◌}
use Rattle.std.specs.FinMap.{get}
use Rattle.dav_key.specs.Key.{Key}
use Rattle.dav_resource.specs.Errors.{dav_status, fs_status}
use Rattle.dav_resource.specs.PathText.{PathValue}
use Rattle.dav_resource.specs.declared.error.DavError.{DavError}
use Rattle.dav_resource.specs.declared.error.DavError.TheVariants.{Memory}
use Rattle.dav_resource.specs.declared.error.FsError.{FsError}
use Rattle.dav_resource.specs.declared.error.FsError.TheVariants as fs_errors
use Rattle.dav_store.specs.Store.{Store}
use Rattle.dav_store.specs.declared.lock.LockError.{LockError}
use Rattle.dav_tree.specs.Modified.{SetsModified}
use Rattle.dav_wire.specs.Frames.{UnlockValue, ModifiedValue}
use Rattle.dav_wire.specs.Replies.{ReplyValue, Done, Failed}
use Rattle.dav_server.specs.Operating.{RemovesAt, RemovesAsked, ChangesAt, ChangesAsked, Unlocks, lock_status_of}
use Rattle.dav_server.specs.State.{ServerState, at_rest, with_store}

-- ---- replies

-- the path of the lock is none of this server, or memory runs out
pub removes_nothing : (read : Result PathValue DavError) (asked : UnlockValue) (state : ServerState) (e : DavError)
    → (read ≡ Err e) ⊎ (e ≡ Memory) → RemovesAsked read asked state (Failed (dav_status e)) state
removes_nothing (Ok path) asked state e (inl h) = cc
removes_nothing (Ok path) asked state e (inr h) = inr (refl, ap (λ (d : DavError). Failed (dav_status d)) h)
removes_nothing (Err d) asked state e (inl h) = let is : e ≡ d = cc in (refl, inl (ap (λ (d' : DavError). Failed (dav_status d')) is))
removes_nothing (Err d) asked state e (inr h) = (refl, inr (ap (λ (d' : DavError). Failed (dav_status d')) h))

-- the lock is removed
pub removes_lock : (read : Result PathValue DavError) (asked : UnlockValue) (path : PathValue) (old new : ServerState) (done : Unit {0})
    → read ≡ Ok path → Unlocks path.key asked.token (Ok done) old new → RemovesAsked read asked old Done new
removes_lock read asked path old new done is removed = rw is (inl removed)

-- it is not removed
pub keeps_lock : (read : Result PathValue DavError) (asked : UnlockValue) (path : PathValue) (old new : ServerState) (e : LockError)
    → read ≡ Ok path → Unlocks path.key asked.token (Err e) old new → RemovesAsked read asked old (Failed (lock_status_of e)) new
keeps_lock read asked path old new e is kept = rw is (inl kept)

-- the path of the resource is none of this server, or memory runs out
pub changes_nothing : (read : Result PathValue DavError) (asked : ModifiedValue) (state : ServerState) (e : DavError)
    → (read ≡ Err e) ⊎ (e ≡ Memory) → ChangesAsked read asked state (Failed (dav_status e)) state
changes_nothing (Ok path) asked state e (inl h) = cc
changes_nothing (Ok path) asked state e (inr h) = (refl, inr (ap dav_status h))
changes_nothing (Err d) asked state e (inl h) = let is : e ≡ d = cc in (refl, inl (ap (λ (d' : DavError). Failed (dav_status d')) is))
changes_nothing (Err d) asked state e (inr h) = (refl, inr (ap (λ (d' : DavError). Failed (dav_status d')) h))

-- the resource gets the time
pub changes_time : (read : Result PathValue DavError) (asked : ModifiedValue) (path : PathValue) (state : ServerState) (old new : Store)
    → read ≡ Ok path → SetsModified path.key asked.time old new → ChangesAsked read asked (with_store state (at_rest old)) Done (with_store state (at_rest new))
changes_time read asked path state old new is sets =
    rw is (record { sets = record { there = sets.there; changed = ap at_rest sets.changed }; same = refl })

-- there is no resource, or memory runs out
pub keeps_time : (read : Result PathValue DavError) (asked : ModifiedValue) (path : PathValue) (state : ServerState) (old new : Store) (e : FsError)
    → read ≡ Ok path → new ≡ old → (e ≡ fs_errors.Memory) ⊎ ((e ≡ fs_errors.NotFound) × (get old.contents.tree path.key ≡ None))
    → ChangesAsked read asked (with_store state (at_rest old)) (Failed (fs_status e)) (with_store state (at_rest new))
keeps_time read asked path state old new e is same (inl memory) = rw (is, memory) (ap (λ s. with_store state (at_rest s)) same, inr refl)
keeps_time read asked path state old new e is same (inr (missing, none)) = rw (is, missing) (ap (λ s. with_store state (at_rest s)) same, inl (refl, none))

-- ---- what stays

-- the store stays, and the lock system is there or not as before
pub record KeepsStore (old new : ServerState) : Type 0 where
  pub store : new.seen.store ≡ old.seen.store
  pub there : is_some new.seen.locks ≡ is_some old.seen.locks

same_keeps : (old new : ServerState) → new ≡ old → KeepsStore old new
same_keeps old new same = record { store = ap (λ (s : ServerState). s.seen.store) same; there = ap (λ (s : ServerState). is_some s.seen.locks) same }

removal_keeps : (key : Key) (token : List ℕ) (old new : ServerState) (reply : ReplyValue) → RemovesAt key token old reply new → KeepsStore old new
removal_keeps key token old new Done removed = record {
  store = ap (λ (s : ServerState). s.seen.store) removed.same;
  there = ap (λ (s : ServerState). is_some s.seen.locks) removed.same ∙ sym (ap is_some removed.there);
}
removal_keeps key token old new (Failed status) (same, why) = same_keeps old new same
removal_keeps key token old new _ none = absurd none

pub removes_keep : (read : Result PathValue DavError) (asked : UnlockValue) (old new : ServerState) (reply : ReplyValue) → RemovesAsked read asked old reply new → KeepsStore old new
removes_keep (Ok path) asked old new reply (inl h) = removal_keeps path.key asked.token old new reply h
removes_keep (Ok path) asked old new reply (inr (same, none)) = same_keeps old new same
removes_keep (Err e) asked old new reply (same, none) = same_keeps old new same

-- what is where stays, and the locks
pub record KeepsTree (old new : ServerState) : Type 0 where
  pub tree : new.seen.store.contents.tree ≡ old.seen.store.contents.tree
  pub facts : new.seen.store.facts ≡ old.seen.store.facts
  pub locks : new.seen.locks ≡ old.seen.locks

same_tree : (old new : ServerState) → new ≡ old → KeepsTree old new
same_tree old new same = record {
  tree = ap (λ (s : ServerState). s.seen.store.contents.tree) same;
  facts = ap (λ (s : ServerState). s.seen.store.facts) same;
  locks = ap (λ (s : ServerState). s.seen.locks) same;
}

change_keeps : (key : Key) (time : ℕ) (old new : ServerState) (reply : ReplyValue) → ChangesAt key time old reply new → KeepsTree old new
change_keeps key time old new Done changed = record {
  tree = ap (λ (s : Store). s.contents.tree) changed.sets.changed;
  facts = ap (λ (s : Store). s.facts) changed.sets.changed;
  locks = ap (λ (s : ServerState). s.seen.locks) changed.same;
}
change_keeps key time old new (Failed status) (same, why) = same_tree old new same
change_keeps key time old new _ none = absurd none

pub changes_keep : (read : Result PathValue DavError) (asked : ModifiedValue) (old new : ServerState) (reply : ReplyValue) → ChangesAsked read asked old reply new → KeepsTree old new
changes_keep (Ok path) asked old new reply h = change_keeps path.key asked.time old new reply h
changes_keep (Err e) asked old new reply (same, none) = same_tree old new same
