-- The body of a request, whose bytes the request or the store holds: this project's own choice.
use Rattle.std.specs.Prelude.{ℕ, nat_eq, Bool, false, List, [], length, Option, Some, None}
use Rattle.std.specs.Option.{option_map_or}
use Rattle.dav_resource.specs.declared.request.ReqBody.{ReqBody}
use Rattle.dav_resource.specs.declared.request.ReqBody.TheVariants as bodies
use Rattle.dav_store.specs.Store.{Bodies}

-- the bytes of a body, none for no body; a tree, a malformed body, and a number that the store does not know have no bytes (`None`)
abbrev pub body_bytes : Bodies → ReqBody → Option (List ℕ)
body_bytes held bodies.None = Some []
body_bytes held (bodies.Bytes bytes) = Some bytes
body_bytes held (bodies.Stored number) = held number
body_bytes held (bodies.Tree tree) = None
body_bytes held bodies.Malformed = None

-- no body, or one of no bytes
abbrev pub is_empty_body : Bodies → ReqBody → Bool
is_empty_body held body = option_map_or (λ (bytes : List ℕ). nat_eq (length bytes) 0) (body_bytes held body) false
