-- Codecs made of others. The laws of the parts are the laws of the whole.
use Rattle.std.specs.Prelude.{◌≡◌, ℕ, Bool, true, false, List, [], Option, Some, None}
use Rattle.dav_wire.specs.Codec.{Codec}
use Rattle.dav_wire.specs.Parts.{encode_pair, parse_pair, is_valid_pair, encode_prefixed, parse_prefixed, is_valid_prefixed, HasHeader, parse_as, encode_some, is_valid_some, parse_only, is_valid_only, encode_all, parse_times, is_valid_times, NeverZero, encode_terminated, parse_terminated}
use Rattle.std.specs.List.{list_all}
use Rattle.dav_wire.specs.TerminatedLaws.{terminated-reads_back, terminated-exact}
use Rattle.dav_wire.specs.PartLaws.{never-reads_back, never-exact, nothing-reads_back, nothing-exact, pair-reads_back, pair-exact, prefixed-reads_back, prefixed-exact, as_type-reads_back, as_type-exact, variant-reads_back, variant-exact, only-reads_back, only-exact, repeated-reads_back, repeated-exact}

-- no value at all
abbrev pub never : {A : Type 0} → Codec A
never =
    record {
      encode = λ x. [];
      parse = λ bytes. None;
      is_valid = λ x. false;
      reads_back = never-reads_back;
      is_exact = never-exact;
    }

-- the only value of the unit type, as no bytes
abbrev pub nothing : Codec (Unit {0})
nothing =
    record {
      encode = λ x. [];
      parse = λ bytes. Some (tt, bytes);
      is_valid = λ x. true;
      reads_back = nothing-reads_back;
      is_exact = nothing-exact;
    }

-- two values, one after the other
abbrev pub pair : {A B : Type 0} → Codec A → Codec B → Codec (A × B)
pair a b =
    record {
      encode = encode_pair a b;
      parse = parse_pair a b;
      is_valid = is_valid_pair a b;
      reads_back = pair-reads_back a b;
      is_exact = pair-exact a b;
    }

-- the header of the value x first, `header x`, and then x as `value (header x)` writes it
abbrev pub prefixed : {H A : Type 0} → Codec H → (header : A → H) (value : H → Codec A) → HasHeader header value → Codec A
prefixed h header value has_header =
    record {
      encode = encode_prefixed h header value;
      parse = parse_prefixed h value;
      is_valid = is_valid_prefixed h header value;
      reads_back = prefixed-reads_back h header value;
      is_exact = prefixed-exact h header value has_header;
    }

-- the same bytes as values of another type: `to` and `from` are inverse
abbrev pub as_type :
    {A B : Type 0} → Codec A → (to : A → B) (from : B → A) → ((x : A) → from (to x) ≡ x) → ((y : B) → to (from y) ≡ y) → Codec B
as_type a to from from_to to_from =
    record {
      encode = λ y. a.encode (from y);
      parse = parse_as a to;
      is_valid = λ y. a.is_valid (from y);
      reads_back = as_type-reads_back a to from to_from;
      is_exact = as_type-exact a to from from_to;
    }

-- one variant of an enum, the values `to x`: `from` gives x back, and `None` for each other value
abbrev pub variant :
    {A B : Type 0} → Codec A → (to : A → B) (from : B → Option A) → ((x : A) → from (to x) ≡ Some x)
    → ((y : B) (x : A) → from y ≡ Some x → to x ≡ y) → Codec B
variant a to from from_to from_exact =
    record {
      encode = λ y. encode_some a (from y);
      parse = parse_as a to;
      is_valid = λ y. is_valid_some a (from y);
      reads_back = variant-reads_back a to from from_exact;
      is_exact = variant-exact a to from from_to;
    }

-- only the values that pass a test
abbrev pub only : {A : Type 0} → (A → Bool) → Codec A → Codec A
only test a =
    record {
      encode = a.encode;
      parse = parse_only a test;
      is_valid = is_valid_only a test;
      reads_back = only-reads_back a test;
      is_exact = only-exact a test;
    }

-- n values, one after the other
abbrev pub repeated : {A : Type 0} → Codec A → ℕ → Codec (List A)
repeated a n =
    record {
      encode = encode_all a;
      parse = parse_times a n;
      is_valid = is_valid_times a n;
      reads_back = repeated-reads_back a n;
      is_exact = repeated-exact a n;
    }

-- any number of values, and the byte 0, with which no value begins
abbrev pub terminated : {A : Type 0} → (a : Codec A) → NeverZero a → Codec (List A)
terminated a no_zero =
    record {
      encode = encode_terminated a;
      parse = parse_terminated a;
      is_valid = list_all a.is_valid;
      reads_back = terminated-reads_back a no_zero;
      is_exact = terminated-exact a;
    }
