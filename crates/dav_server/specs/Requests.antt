-- The request that a frame carries.
use Rattle.std.specs.Prelude.{◌≡◌, ◌≤◌, ◌⊎◌, ℕ, true, List, [], map, length, Ok, Err, All}
use Rattle.http_header.specs.FieldName.{IsFieldName}
use Rattle.http_header.specs.FieldValue.{FieldValue, IsFieldValue, plain_value}
use Rattle.http_header.specs.HeaderMap.{Entries, append_all}
use Rattle.http_header.specs.Token.{IsToken, lowercase}
use Rattle.dav_resource.specs.LockToken.{is_lock_token}
use Rattle.dav_resource.specs.PathText.{read_path}
use Rattle.dav_resource.specs.declared.error.DavError.{DavError}
use Rattle.dav_resource.specs.declared.error.DavError.TheVariants.{Status}
use Rattle.dav_resource.specs.declared.request.DavRequest.{DavRequest}
use Rattle.dav_wire.specs.Frames.{RequestValue}

-- a name and a value that a header field may have (RFC 9110, section 5)
abbrev pub IsField : List ℕ × List ℕ → Type 0
IsField field = IsFieldName field.0 × IsFieldValue field.1

-- a header field as the engine gets it, with its name in lower case
abbrev pub header_of : List ℕ × List ℕ → List ℕ × FieldValue
header_of field = (lowercase field.0, plain_value field.1)

-- the header fields in order
abbrev pub headers_of : List (List ℕ × List ℕ) → Entries FieldValue
headers_of fields = append_all [] (map header_of fields)

-- the method and the names of the header fields are tokens, the values of the header fields are valid, and the lock token is one
pub record IsFit (frame : RequestValue) : Type 0 where
  pub method : IsToken frame.method
  pub fields : All IsField frame.fields
  pub token : is_lock_token frame.token ≡ true

-- the request that the frame carries, at this time
pub record IsRequest (prefix : List ℕ) (now : ℕ) (frame : RequestValue) (request : DavRequest) : Type 0 where
  pub method : request.method ≡ frame.method
  pub path : read_path frame.path prefix ≡ Ok request.path
  pub headers : request.headers ≡ headers_of frame.fields
  pub body : request.body ≡ frame.body
  pub principal : request.principal ≡ frame.principal
  pub token : request.token ≡ frame.token
  pub time : request.now ≡ now

-- how many names of header fields a request may have
abbrev pub most_names : ℕ
most_names = 24576

-- why a frame carries no request: a part is not fit (400), its path is not one of this server, or it has too many header fields (431, RFC 6585)
abbrev pub IsUnfit : List ℕ → RequestValue → DavError → Type 0
IsUnfit prefix frame e =
    ((e ≡ Status 400) × ¬ (IsFit frame)) ⊎ (read_path frame.path prefix ≡ Err e) ⊎ ((e ≡ Status 431) × (most_names ≤ length frame.fields))
