-- The lock that the body of a LOCK requests (RFC 4918, sections 14.11, 14.13, 14.15 and 14.17). Only the local names of its elements are compared.
use Rattle.std.specs.Prelude.{ℕ, Bool, false, ◌&&◌, ◌||◌, if◌then◌else◌, List, [], ◌∷◌, codes, Option, Some, None, option_map, Result}
use Rattle.std.specs.Option.{option_map_or, ok_or}
use Rattle.std.specs.List.{filter, last_or, list_all, list_any}
use Rattle.dav_resource.specs.Tree.{Tree, elements_of}
use Rattle.dav_resource.specs.declared.error.DavError.{DavError}
use Rattle.dav_resource.specs.declared.error.DavError.TheVariants.{XmlParseError}
use Rattle.dav_resource.specs.declared.request.ReqBody.{ReqBody}
use Rattle.dav_resource.specs.declared.request.ReqBody.TheVariants as bodies
use Rattle.dav_messages.specs.DavElement.{is_named}
use Rattle.dav_engine.specs.declared.lock_info.LockInfo.{LockInfo}

-- the first of these elements has this name
abbrev pub first_is_named : List ℕ → List Tree → Bool
first_is_named name [] = false
first_is_named name (tree ∷ trees) = is_named name tree

-- the first child element has this name
abbrev pub begins_with : List ℕ → Tree → Bool
begins_with name tree = first_is_named name (elements_of tree.children)

-- ---- the elements of a lockinfo

abbrev pub is_scope : Tree → Bool
is_scope tree = is_named (codes "lockscope") tree && (begins_with (codes "exclusive") tree || begins_with (codes "shared") tree)

abbrev pub is_write : Tree → Bool
is_write tree = is_named (codes "locktype") tree && begins_with (codes "write") tree

abbrev pub is_part : Tree → Bool
is_part tree = is_scope tree || is_write tree || is_named (codes "owner") tree

-- a `lockinfo` with at least one scope and at least one type, whose child elements are all scopes, types or owners
abbrev pub is_lock_info : Tree → Bool
is_lock_info tree =
    is_named (codes "lockinfo") tree && list_all is_part (elements_of tree.children) && list_any is_scope (elements_of tree.children) && list_any is_write (elements_of tree.children)

-- ---- what the elements request

-- the last child element of this name, if there is one
abbrev pub last_named : List ℕ → Tree → Option Tree
last_named name tree = last_or None (filter (is_named name) (elements_of tree.children))

-- the requested lock is shared: the last `lockscope` begins with `shared`
abbrev pub asks_shared : Tree → Bool
asks_shared tree = option_map_or (begins_with (codes "shared")) (last_named (codes "lockscope") tree) false

-- the element with the prefix `D`, which responses declare
abbrev pub under_dav : Tree → Tree
under_dav tree = record tree { tag = record tree.tag { prefix = Some (codes "D") } }

-- the owner that the client states: the last `owner` element, with that prefix
abbrev pub owner_in : Tree → Option Tree
owner_in tree = option_map under_dav (last_named (codes "owner") tree)

abbrev pub lock_info_in : Tree → Option LockInfo
lock_info_in tree = if is_lock_info tree then Some (record { shared = asks_shared tree; owner = owner_in tree }) else None

abbrev pub lock_info_of : ReqBody → Option LockInfo
lock_info_of (bodies.Tree tree) = lock_info_in tree
lock_info_of _ = None

-- any other body is rejected: 400
abbrev pub lock_info_verdict : ReqBody → Result LockInfo DavError
lock_info_verdict body = ok_or (lock_info_of body) XmlParseError
