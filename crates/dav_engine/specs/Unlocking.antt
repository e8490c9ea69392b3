-- UNLOCK (RFC 4918, section 9.11): removes the lock with a given token.
use Rattle.std.specs.Prelude.{◌≡◌, ℕ, Bool, true, false, ◌&&◌, List, [], Option, Some, option_map, Result, Ok, Err, ◌⊎◌}
use Rattle.std.specs.Option.{option_map_or, ok_or}
use Rattle.dav_resource.specs.declared.meta.Meta.{Meta}
use Rattle.dav_resource.specs.declared.error.DavError.{DavError}
use Rattle.dav_resource.specs.declared.error.DavError.TheVariants.{Status}
use Rattle.dav_resource.specs.declared.request.DavRequest.{DavRequest}
use Rattle.dav_headers.specs.LockToken.{lock_token_of}
use Rattle.dav_store.specs.Logged.{Logged}
use Rattle.dav_store.specs.LockCalls.{has_named, without_named}
use Rattle.dav_messages.specs.Dialogue.{Dialogue, look_up, ◌>>=◌}
use Rattle.dav_messages.specs.Reply.{Answer}
use Rattle.dav_engine.specs.LockReply.{unlocked_reply}
use Rattle.dav_engine.specs.Locking.{locks_verdict}
use Rattle.dav_engine.specs.Rules.{judged}
use Rattle.dav_engine.specs.State.{State, LocksStay}

-- the token in the `Lock-Token` header; without one: 400
abbrev pub token_verdict : DavRequest → Result (List ℕ) DavError
token_verdict request = ok_or (lock_token_of request.headers) (Status 400)

-- in order: whether there is a lock system, the token, and a lookup of the path, whose failure is ignored; no condition and no lock is checked
abbrev pub unlock_rules : DavRequest → State → Dialogue (Option Meta)
unlock_rules request state =
    judged (locks_verdict state) >>= λ _.
    judged (token_verdict request) >>= λ _.
    look_up state.contents request.path.key

-- a lock with this token is at the path or above it
abbrev pub has_lock : DavRequest → List ℕ → State → Bool
has_lock request token state = option_map_or (has_named request.path.key token) state.locks false

-- there is such a lock, and it is removed: 204
pub record Unlocks (request : DavRequest) (found : Option Meta) (token : List ℕ) (old : State) (answer : Answer) (new : State) : Type 0 where
  pub there : has_lock request token old ≡ true
  pub answered : answer ≡ Ok (unlocked_reply request.path found)
  pub locks : new.locks ≡ option_map (without_named request.path.key token) old.locks

-- there is no such lock, or the lock system's `unlock` is not reliable: 409, and the locks are unchanged
pub record UnlocksNothing (request : DavRequest) (token : List ℕ) (old : State) (answer : Answer) (new : State) : Type 0 where
  pub none : (old.reliable.unlock && has_lock request token old) ≡ false
  pub answered : answer ≡ Err (Status 409)
  pub locks : LocksStay old new

pub record UnlockWork (request : DavRequest) (found : Option Meta) (old : State) (records : List Logged) (answer : Answer) (new : State) : Type 0 where
  pub token : List ℕ
  pub named : lock_token_of request.headers ≡ Some token
  pub none : records ≡ []
  pub same : new.contents ≡ old.contents
  pub done : Unlocks request found token old answer new ⊎ UnlocksNothing request token old answer new
