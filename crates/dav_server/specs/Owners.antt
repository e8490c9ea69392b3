-- Which requests about locks a server forbids: this project's own choice.
use Rattle.std.specs.Prelude.{◌&&◌, ◌||◌, ℕ, Bool, false, not, bytes_eq, if◌then◌else◌, List, [], Option, Some, None}
use Rattle.std.specs.List.{find, list_any}
use Rattle.std.specs.Option.{option_eq, option_map_or, option_to_list}
use Rattle.dav_resource.specs.Methods.{method_of}
use Rattle.dav_resource.specs.declared.method.DavMethod.{DavMethod}
use Rattle.dav_resource.specs.declared.method.DavMethod.TheVariants.{Lock, Unlock}
use Rattle.dav_resource.specs.declared.request.DavRequest.{DavRequest}
use Rattle.dav_headers.specs.LockToken.{lock_token_of}
use Rattle.dav_store.specs.Locks.{has_token}
use Rattle.dav_store.specs.Store.{Bodies}
use Rattle.dav_store.specs.declared.lock.DavLock.{DavLock}
use Rattle.dav_messages.specs.Conditions.{submitted_tokens}
use Rattle.dav_engine.specs.Locking.{is_refresh}
use Rattle.dav_engine.specs.Rules.{depth_or_all, is_deep}
use Rattle.dav_rights.specs.Access.{may_lock_by, rights_under}
use Rattle.dav_rights.specs.declared.rule.Rule.{Rule}
use Rattle.dav_server.specs.State.{Rules, ServerState, locks_at}

-- the tokens of the locks that a request would remove or refresh: that in Lock-Token of an UNLOCK, those in If of a refresh
abbrev pub named_tokens : Option DavMethod → Bodies → DavRequest → List (List ℕ)
named_tokens (Some Unlock) held request = option_to_list (lock_token_of request.headers)
named_tokens (Some Lock) held request = if is_refresh held request.body then submitted_tokens request else []
named_tokens _ held request = []

-- the lock of this token is that of another principal
abbrev pub is_of_another : List DavLock → Option (List ℕ) → List ℕ → Bool
is_of_another locks principal token =
    option_map_or (λ (lock : DavLock). not (option_eq bytes_eq lock.principal principal)) (find (has_token token) locks) false

-- the lock of one of these tokens is that of another principal
abbrev pub names_any : List DavLock → Option (List ℕ) → List (List ℕ) → Bool
names_any locks principal tokens = list_any (is_of_another locks principal) tokens

-- the request would remove or refresh a lock of another principal
abbrev pub meddles : Option (List DavLock) → Bodies → DavRequest → Bool
meddles None held request = false
meddles (Some locks) held request = names_any locks request.principal (named_tokens (method_of request.method) held request)

-- so it would, and not anyone may
abbrev pub meddles_under : Rules → ServerState → DavRequest → Bool
meddles_under rules state request = not rules.anyone_unlocks && meddles (locks_at state) state.seen.store.facts.bodies request

-- the request is for a new lock that these rights do not allow: where one may not write, or above such a place
abbrev pub locks_unwritable : Option DavMethod → Option (List Rule) → Bodies → DavRequest → Bool
locks_unwritable (Some Lock) rights held request =
    not (is_refresh held request.body) && not (may_lock_by rights request.path.key (is_deep (depth_or_all request)))
locks_unwritable _ rights held request = false

-- the request is answered 403 before the engine
abbrev pub is_forbidden : Rules → ServerState → DavRequest → Bool
is_forbidden rules state request =
    meddles_under rules state request
    || locks_unwritable (method_of request.method) (rights_under state.rights request.principal) state.seen.store.facts.bodies request
