-- The XML of locks: what a lock is, which locks a resource has, and which it supports (RFC 4918, sections 14.1 to 14.13, 15.8 and 15.10).
use Rattle.std.specs.Prelude.{ℕ, Bool, true, false, if◌then◌else◌, List, [], ◌∷◌, ◌++◌, map, codes, Option, Some, None}
use Rattle.std.specs.Option.{option_map_or}
use Rattle.std.specs.Fmt.{decimal}
use Rattle.dav_key.specs.Key.{Key}
use Rattle.dav_resource.specs.PathText.{PathValue}
use Rattle.dav_resource.specs.Profile.{depth_word}
use Rattle.dav_resource.specs.Tree.{Tree, prefixed_element}
use Rattle.dav_resource.specs.declared.profile.Profile.{Profile}
use Rattle.dav_store.specs.Locks.{covering}
use Rattle.dav_store.specs.declared.lock.DavLock.{DavLock}
use Rattle.dav_messages.specs.DavElement.{with_elements, declaring_element, text_element, href_element}

-- ---- one lock

-- shared, so that others may hold shared locks too, or exclusive
abbrev pub lock_scope : Bool → Tree
lock_scope shared =
    with_elements (prefixed_element (codes "D:lockscope")) (prefixed_element (if shared then codes "D:shared" else codes "D:exclusive") ∷ [])

-- each lock is a write lock
abbrev pub lock_type : Tree
lock_type = with_elements (prefixed_element (codes "D:locktype")) (prefixed_element (codes "D:write") ∷ [])

abbrev pub depth_text : Profile → Bool → List ℕ
depth_text profile deep = if deep then depth_word profile else codes "0"

-- a number of seconds, or infinite (RFC 4918, section 10.7)
abbrev pub timeout_text : Option ℕ → List ℕ
timeout_text None = codes "Infinite"
timeout_text (Some seconds) = codes "Second-" ++ decimal seconds

-- the token as it is
abbrev pub token_element : List ℕ → Tree
token_element token = with_elements (prefixed_element (codes "D:locktoken")) (text_element (codes "D:href") token ∷ [])

-- the path that was locked
abbrev pub lock_root : Profile → PathValue → Tree
lock_root profile path = with_elements (prefixed_element (codes "D:lockroot")) (href_element profile path ∷ [])

-- the owner last, as the lock has it, if it has one
abbrev pub active_lock : Profile → DavLock → Tree
active_lock profile lock =
    with_elements (prefixed_element (codes "D:activelock"))
    (lock_scope lock.shared
    ∷ lock_type
    ∷ text_element (codes "D:depth") (depth_text profile lock.deep)
    ∷ text_element (codes "D:timeout") (timeout_text lock.timeout)
    ∷ token_element lock.token
    ∷ lock_root profile lock.path
    ∷ option_map_or (λ owner. owner ∷ []) lock.owner [])

-- ---- the locks that cover a path

-- each lock, in order
abbrev pub lock_discovery : Profile → List DavLock → Tree
lock_discovery profile locks = with_elements (prefixed_element (codes "D:lockdiscovery")) (map (active_lock profile) locks)

-- the locks that cover a key, none without a lock system
abbrev pub covering_in : Option (List DavLock) → Key → List DavLock
covering_in locks key = option_map_or (λ list. covering list key) locks []

-- one lock: in full as the property `D:lockdiscovery` in a `D:prop`, else only its `D:activelock`
abbrev pub lock_prop : Profile → DavLock → Bool → Tree
lock_prop profile lock full =
    if full then with_elements (declaring_element (codes "D:prop")) (lock_discovery profile (lock ∷ []) ∷ []) else active_lock profile lock

-- ---- the supported locks

abbrev pub lock_entry : Bool → Tree
lock_entry shared = with_elements (prefixed_element (codes "D:lockentry")) (lock_scope shared ∷ lock_type ∷ [])

-- exclusive and shared locks, if there is a lock system
abbrev pub supported_lock : Bool → Tree
supported_lock present =
    with_elements (prefixed_element (codes "D:supportedlock")) (if present then lock_entry false ∷ lock_entry true ∷ [] else [])
