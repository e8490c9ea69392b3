-- The header Lock-Token (RFC 4918, section 10.5): the token of the lock that a request is about.
use Rattle.std.specs.Prelude.{ℕ, Bool, ◌||◌, ◌==◌, List, [], ◌∷◌, reverse, codes, Option, option_map, if◌then◌else◌}
use Rattle.http_header.specs.HeaderMap.{Entries}
use Rattle.http_header.specs.FieldValue.{FieldValue}
use Rattle.dav_headers.specs.Values.{first_text}

-- `<` and `>`
abbrev pub is_angle : ℕ → Bool
is_angle b = b == 60 || b == 62

-- without the angle brackets at the front
abbrev pub drop_angles : List ℕ → List ℕ
drop_angles [] = []
drop_angles (b ∷ bs) = if is_angle b then drop_angles bs else b ∷ bs

-- without the angle brackets at both ends
abbrev pub trim_angles : List ℕ → List ℕ
trim_angles bs = reverse (drop_angles (reverse (drop_angles bs)))

-- the value of the header without the angle brackets at its ends
abbrev pub lock_token_of : Entries FieldValue → Option (List ℕ)
lock_token_of headers = option_map trim_angles (first_text headers (codes "lock-token"))
