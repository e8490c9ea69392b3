-- How the header fields of a response are added (RFC 9110, section 6.3): one after the other, each name once.
use Rattle.std.specs.Prelude.{◌≡◌, ℕ, ◌≤◌, List, [], ◌∷◌, length, Option, None}
use Rattle.std.specs.Option.{option_map_or}
use Rattle.http_header.specs.HeaderMap.{Entries, index_of, value_count}
use Rattle.http_header.specs.FieldValue.{FieldValue}

-- the field with one value, if there is one
abbrev pub optional_field : List ℕ → Option FieldValue → Entries FieldValue
optional_field name value = option_map_or (λ v. (name, v ∷ []) ∷ []) value []

-- at most 100 names and 100 values are set, and this name is not among them
pub record HasRoomFor (headers : Entries FieldValue) (name : List ℕ) : Type 0 where
  pub few_names : length headers ≤ 100
  pub few_values : value_count headers ≤ 100
  pub is_new : index_of headers name ≡ None
