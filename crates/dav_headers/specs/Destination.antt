-- The header Destination (RFC 4918, section 10.3): where a resource is copied or moved to.
use Rattle.std.specs.Prelude.{ℕ, List, codes, Option, Some, None, option_and_then, Result, Err}
use Rattle.http_header.specs.HeaderMap.{Entries}
use Rattle.http_header.specs.FieldValue.{FieldValue}
use Rattle.dav_resource.specs.PathText.{PathValue, read_path}
use Rattle.dav_resource.specs.declared.error.DavError.{DavError}
use Rattle.dav_resource.specs.declared.error.DavError.TheVariants.{Status}
use Rattle.dav_headers.specs.Values.{first_text}
use Rattle.dav_headers.specs.Place.{place_path}

-- the path of this string below this prefix; without a string, the error `Status` 400
abbrev pub path_at : Option (List ℕ) → List ℕ → Result PathValue DavError
path_at None prefix = Err (Status 400)
path_at (Some text) prefix = read_path text prefix

-- the path in the header's first value, as a string
abbrev pub destination_place : Entries FieldValue → Option (List ℕ)
destination_place headers = option_and_then place_path (first_text headers (codes "destination"))

-- the path of the destination, below this prefix
abbrev pub destination_of : Entries FieldValue → List ℕ → Result PathValue DavError
destination_of headers prefix = path_at (destination_place headers) prefix
