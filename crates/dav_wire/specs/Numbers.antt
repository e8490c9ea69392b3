-- Bytes and numbers.
use Rattle.std.specs.Prelude.{ℕ, ◌^◌, [], ◌∷◌, nat_lt}
use Rattle.byteorder.specs.Endian.{big_bytes}
use Rattle.dav_wire.specs.Codec.{Codec}
use Rattle.dav_wire.specs.Parts.{is_byte, parse_byte, parse_digits}
use Rattle.dav_wire.specs.NumberLaws.{byte-reads_back, byte-exact, digits-reads_back, digits-exact}

-- a number below 256, as one byte
abbrev pub byte : Codec ℕ
byte =
    record {
      encode = λ x. x ∷ [];
      parse = parse_byte;
      is_valid = is_byte;
      reads_back = byte-reads_back;
      is_exact = byte-exact;
    }

-- a number below 256 ^ n, as n bytes, the highest first
abbrev pub digits : ℕ → Codec ℕ
digits n =
    record {
      encode = big_bytes n;
      parse = parse_digits n;
      is_valid = λ x. nat_lt x (256 ^ n);
      reads_back = digits-reads_back n;
      is_exact = digits-exact n;
    }

-- a number below 2 ^ 64, as 8 bytes, the highest first
unfoldable pub number : Codec ℕ
number = digits 8
