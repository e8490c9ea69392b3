-- Lock tokens (RFC 4918, section 6.5), as a header field carries them (section 10.1).
use Rattle.std.specs.Prelude.{ℕ, Bool, ◌&&◌, nat_lt, List, ◌++◌, length, codes, Option, Some, None, if◌then◌else◌}
use Rattle.std.specs.Char.{is_ascii_graphic}
use Rattle.std.specs.List.{list_all}

-- one or more bytes of visible ASCII: 0x21 to 0x7E
abbrev pub is_lock_token : List ℕ → Bool
is_lock_token text = nat_lt 0 (length text) && list_all is_ascii_graphic text

-- the string as a lock token, if it is one
abbrev pub lock_token : List ℕ → Option (List ℕ)
lock_token text = if is_lock_token text then Some text else None

-- the token in angle brackets
abbrev pub coded : List ℕ → List ℕ
coded token = codes "<" ++ token ++ codes ">"
