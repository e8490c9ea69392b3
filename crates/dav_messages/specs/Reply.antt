-- Responses (RFC 9110, section 6): a status, header fields and a body.
use Rattle.std.specs.Prelude.{ℕ, List, [], ◌∷◌, Result, Ok, Err}
use Rattle.http.specs.declared.version.Version.{Version}
use Rattle.http.specs.declared.version.TheConstants.Version.{HTTP_11}
use Rattle.http.specs.declared.response.Response.{Response}
use Rattle.http.specs.Response.{head_of, body_of}
use Rattle.http_header.specs.HeaderMap.{Entry, Entries}
use Rattle.http_header.specs.FieldValue.{FieldValue, plain_value}
use Rattle.dav_resource.specs.declared.error.DavError.{DavError}
use Rattle.dav_resource.specs.declared.request.Body.{Body}

-- the header fields are in the order in which they were set, each with its values
pub record Reply : Type 0 where
  pub status : ℕ
  pub version : Version
  pub headers : Entries FieldValue
  pub body : Body

abbrev pub reply_of : Response Body → Reply
reply_of response =
    record {
      status = (head_of response).status;
      version = (head_of response).version;
      headers = (head_of response).headers;
      body = body_of response;
    }

-- the result of a request: a response or an error
abbrev pub Answer : Type 0
Answer = Result Reply DavError

abbrev pub answer_of : Result (Response Body) DavError → Answer
answer_of (Ok response) = Ok (reply_of response)
answer_of (Err e) = Err e

-- a response with these header fields, and no body
abbrev pub bare_reply : ℕ → Entries FieldValue → Reply
bare_reply status headers = record { status = status; version = HTTP_11; headers = headers; body = Body.Empty }

-- a header field with one value
abbrev pub field : List ℕ → List ℕ → Entry FieldValue
field name value = (name, plain_value value ∷ [])
