-- What the list of requested properties holds: each property that the request names or the server adds, once, and no others (RFC 4918, section 9.1).
use Rattle.std.specs.Prelude.{ℕ, if◌then◌else◌, List, [], ◌++◌, codes, map, Option}
use Rattle.std.specs.List.{find}
use Rattle.std.specs.Option.{option_map_or}
use Rattle.dav_key.specs.Key.{Key}
use Rattle.dav_resource.specs.Tree.{Tree, elements_of}
use Rattle.dav_resource.specs.declared.request.ReqBody.{ReqBody}
use Rattle.dav_resource.specs.declared.request.ReqBody.TheVariants as bodies
use Rattle.dav_store.specs.Members.{IsIn, AreDistinct}
use Rattle.dav_store.specs.Store.{Bodies, element_key}
use Rattle.dav_messages.specs.DavElement.{is_named}
use Rattle.dav_messages.specs.RequestBody.{is_empty_body}
use Rattle.dav_find.specs.Asked.{Asking, says_kind, named_in, include_in, server_properties}
use Rattle.dav_find.specs.Names.{elements_in}

-- the elements that the body names: with `prop` its children, with `allprop` those of the first `include`, with `propname` none
abbrev pub named_by : Tree → Tree → List Tree
named_by root said =
    if is_named (codes "propname") said then []
    else (if is_named (codes "prop") said then elements_of said.children else named_in (include_in root))

abbrev pub named_by_body : ReqBody → List Tree
named_by_body (bodies.Tree root) = option_map_or (named_by root) (find says_kind (elements_of root.children)) []
named_by_body _ = []

-- an empty body names nothing
abbrev pub requested_in : Bodies → ReqBody → List Tree
requested_in held body = if is_empty_body held body then [] else named_by_body body

-- the names of these properties, as keys
abbrev pub keys_in : List Tree → List Key
keys_in elements = map element_key elements

-- the properties that are asked for: those that the request names, and those that the server adds
abbrev pub wanted_by : Bodies → ReqBody → Option (List ℕ) → Asking → List Tree
wanted_by held body user_agent asking = requested_in held body ++ server_properties asking.kind user_agent

-- the list has each property that the request names or the server adds, by its name, no name twice, and no others
pub record AsksEachOnce (held : Bodies) (body : ReqBody) (user_agent : Option (List ℕ)) (asking : Asking) : Type 0 where
  pub once : AreDistinct (keys_in (elements_in asking.asked))
  pub each : (e : Tree) → IsIn e (wanted_by held body user_agent asking) → IsIn (element_key e) (keys_in (elements_in asking.asked))
  pub no_others : (e : Tree) → IsIn e (elements_in asking.asked) → IsIn e (wanted_by held body user_agent asking)
