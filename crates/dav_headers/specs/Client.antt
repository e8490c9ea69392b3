-- The headers that identify the client: its name (RFC 9110, section 10.1.5), and the request of the test suite litmus that it sends.
use Rattle.std.specs.Prelude.{ℕ, List, Option, codes}
use Rattle.http_header.specs.HeaderMap.{Entries}
use Rattle.http_header.specs.FieldValue.{FieldValue}
use Rattle.dav_headers.specs.Values.{first_text}

-- the value of User-Agent
abbrev pub user_agent_of : Entries FieldValue → Option (List ℕ)
user_agent_of headers = first_text headers (codes "user-agent")

-- the value of X-Litmus
abbrev pub litmus_of : Entries FieldValue → Option (List ℕ)
litmus_of headers = first_text headers (codes "x-litmus")
