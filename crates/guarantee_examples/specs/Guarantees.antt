-- Two guarantees that a caller of `run` can give its own users.
use Rattle.std.specs.Prelude.{◌≡◌, ◌||◌, ℕ, Bool, true, false, List, [], ◌∷◌, Some, None, Ok}
use Rattle.std.specs.FinMap.{get}
use Rattle.std.specs.List.{list_any}
use Rattle.std.specs.Option.{option_map_or}
use Rattle.std.specs.Str.{bytes_eq}
use Rattle.dav_key.specs.Key.{Key}
use Rattle.dav_resource.specs.Methods.{method_of}
use Rattle.dav_resource.specs.declared.method.DavMethod.TheVariants.{Put}
use Rattle.dav_resource.specs.declared.request.DavRequest.{DavRequest}
use Rattle.dav_headers.specs.LockToken.{lock_token_of}
use Rattle.dav_headers.specs.Range.{content_range_of}
use Rattle.dav_store.specs.Locks.{is_at_or_below, covers}
use Rattle.dav_store.specs.Store.{File}
use Rattle.dav_store.specs.declared.lock.DavLock.{DavLock}
use Rattle.dav_messages.specs.Conditions.{submitted_tokens}
use Rattle.dav_messages.specs.Reply.{Answer}
use Rattle.dav_walks.specs.KeyCall.{standing}
use Rattle.dav_engine.specs.Bounds.{HasLock, is_at_destination}
use Rattle.dav_engine.specs.Laws.{is_transferred}
use Rattle.dav_engine.specs.Put.{new_bytes}
use Rattle.dav_engine.specs.Settings.{Settings}
use Rattle.dav_engine.specs.State.{State}

-- ---- what requests do not reach

-- no request has a path or a `Destination` at the key or above it
abbrev pub AreElsewhere : Settings → List DavRequest → Key → Type 0
AreElsewhere settings [] key = Unit {0}
AreElsewhere settings (request ∷ requests) key =
    ((is_at_or_below key request.path.key || is_at_destination settings request key) ≡ false) × AreElsewhere settings requests key

-- each such key has the same file, with the same bytes, or the same directory as before, and the same dead properties
abbrev pub KeepsUnreached : Settings → List DavRequest → State → State → Type 0
KeepsUnreached settings requests old new = (key : Key) → AreElsewhere settings requests key → standing new.contents key ≡ standing old.contents key

-- ---- a file that a lock protects

-- the request names the token in `If` or in `Lock-Token`
abbrev pub carries : List ℕ → DavRequest → Bool
carries token request = list_any (bytes_eq token) (submitted_tokens request) || option_map_or (bytes_eq token) (lock_token_of request.headers) false

-- none of the requests does
abbrev pub AreWithout : List ℕ → List DavRequest → Type 0
AreWithout token [] = Unit {0}
AreWithout token (request ∷ requests) = (carries token request ≡ false) × AreWithout token requests

-- an exclusive lock covers the key
pub record IsProtected (key : Key) (lock : DavLock) (state : State) : Type 0 where
  pub there : HasLock lock state
  pub exclusive : lock.shared ≡ false
  pub covers : covers lock key ≡ true

-- a PUT of a whole file
pub record IsWholePut (request : DavRequest) : Type 0 where
  pub put : method_of request.method ≡ Some Put
  pub no_range : content_range_of request.headers ≡ Ok None

-- The first request is a PUT of a whole file that an exclusive lock covers, and it succeeded. Then, if no later request names the token of the lock,
-- the file has exactly the body of the PUT at the end.
abbrev pub KeepsFirstPut : Settings → List DavRequest → List Answer → State → State → Type 0
KeepsFirstPut settings (put ∷ requests) (answer ∷ answers) old new =
    (lock : DavLock) → IsProtected put.path.key lock old → IsWholePut put → is_transferred answer ≡ true → AreWithout lock.token requests
    → get new.contents.tree put.path.key ≡ Some (File (new_bytes settings.facts.bodies put.body))
KeepsFirstPut settings _ _ old new = Unit {0}
