-- Decimal numbers: one or more digits, without a sign, as in Content-Length (RFC 7230, section 3.3.2). The bound is this project's own choice.
use Rattle.std.specs.Prelude.{ℕ, ◌^◌, Bool, ◌&&◌, List, length, nat_lt, Option, Some, None, if◌then◌else◌}
use Rattle.std.specs.List.{list_all}
use Rattle.std.specs.Char.{is_ascii_digit}
use Rattle.std.specs.Str.Parse.{digits_value}

-- one or more digits, for a number below 2 ^ 64
abbrev pub is_number : List ℕ → Bool
is_number text = nat_lt 0 (length text) && (list_all is_ascii_digit text && nat_lt (digits_value 10 text) (2 ^ 64))

-- the value of the string, if it is a number
abbrev pub number_in : List ℕ → Option ℕ
number_in text = if is_number text then Some (digits_value 10 text) else None
