-- The bodies of requests.
use Rattle.std.specs.Prelude.{◌≡◌, ℕ, List, [], ◌∷◌, Option, Some, None, refl}
use Rattle.dav_resource.specs.Tree.{Tree}
use Rattle.dav_resource.specs.declared.request.ReqBody.{ReqBody}
use Rattle.dav_resource.specs.declared.request.ReqBody.TheVariants as body
use Rattle.dav_wire.specs.Codec.{Codec}
use Rattle.dav_wire.specs.Combine.{nothing, variant}
use Rattle.dav_wire.specs.Numbers.{number}
use Rattle.dav_wire.specs.Values.{text, one_of}
use Rattle.dav_wire.specs.Trees.{tree}

-- how many levels of elements the body of a request may have
abbrev pub request_levels : ℕ
request_levels = 256

abbrev pub body_position : ReqBody → ℕ
body_position body.None = 0
body_position (body.Bytes bytes) = 1
body_position (body.Stored n) = 2
body_position (body.Tree t) = 3
body_position body.Malformed = 4

abbrev pub from_no_body : ReqBody → Option (Unit {0})
from_no_body body.None = Some tt
from_no_body x = None

abbrev pub from_bytes : ReqBody → Option (List ℕ)
from_bytes (body.Bytes bytes) = Some bytes
from_bytes x = None

abbrev pub from_stored : ReqBody → Option ℕ
from_stored (body.Stored n) = Some n
from_stored x = None

abbrev pub from_tree : ReqBody → Option Tree
from_tree (body.Tree t) = Some t
from_tree x = None

abbrev pub from_malformed : ReqBody → Option (Unit {0})
from_malformed body.Malformed = Some tt
from_malformed x = None

pub no_body_exact : (x : ReqBody) (u : Unit {0}) → from_no_body x ≡ Some u → body.None ≡ x
no_body_exact body.None u e = refl
no_body_exact x u e = cc

pub bytes_exact : (x : ReqBody) (bytes : List ℕ) → from_bytes x ≡ Some bytes → body.Bytes bytes ≡ x
bytes_exact (body.Bytes bs) bytes e = cc
bytes_exact x bytes e = cc

pub stored_exact : (x : ReqBody) (n : ℕ) → from_stored x ≡ Some n → body.Stored n ≡ x
stored_exact (body.Stored m) n e = cc
stored_exact x n e = cc

pub tree_exact : (x : ReqBody) (t : Tree) → from_tree x ≡ Some t → body.Tree t ≡ x
tree_exact (body.Tree u) t e = cc
tree_exact x t e = cc

pub malformed_exact : (x : ReqBody) (u : Unit {0}) → from_malformed x ≡ Some u → body.Malformed ≡ x
malformed_exact body.Malformed u e = refl
malformed_exact x u e = cc

abbrev pub no_body : Codec ReqBody
no_body = variant nothing (λ u. body.None) from_no_body (λ u. refl) (λ x u e. no_body_exact x u e)

abbrev pub bytes_body : Codec ReqBody
bytes_body = variant text body.Bytes from_bytes (λ bytes. refl) (λ x bytes e. bytes_exact x bytes e)

abbrev pub stored_body : Codec ReqBody
stored_body = variant number body.Stored from_stored (λ n. refl) (λ x n e. stored_exact x n e)

abbrev pub tree_body : Codec ReqBody
tree_body = variant (tree request_levels) body.Tree from_tree (λ t. refl) (λ x t e. tree_exact x t e)

abbrev pub malformed_body : Codec ReqBody
malformed_body = variant nothing (λ u. body.Malformed) from_malformed (λ u. refl) (λ x u e. malformed_exact x u e)

-- none, bytes, the number of a stored body, an element, or malformed
abbrev pub body_variants : List (Codec ReqBody)
body_variants = no_body ∷ bytes_body ∷ stored_body ∷ tree_body ∷ malformed_body ∷ []

-- the byte of the variant, then its content
unfoldable pub request_body : Codec ReqBody
request_body = one_of body_position body_variants
