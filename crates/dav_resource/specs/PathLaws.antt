-- The string `/` is parsed as the root.
use Rattle.std.specs.Prelude.{◌≡◌, [], ◌∷◌, Ok}
use Rattle.std.proofs.lemmas.Str.{is_utf8-from_IsUtf8, IsUtf8-nil}
use Rattle.percent_encoding.proofs.PercentLemmas.{percent_decode-nil}
use Rattle.dav_resource.specs.PathText.{read_part, read_key}

-- the empty part between two slashes is parsed as the empty string
pub read_part_nil : read_part [] ≡ Ok []
read_part_nil = rw (percent_decode-nil, is_utf8-from_IsUtf8 [] IsUtf8-nil)

pub read_key_root : read_key (47 ∷ []) ≡ Ok []
read_key_root = rw read_part_nil
