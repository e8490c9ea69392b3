-- Paths as strings whose segments have the bytes of a set percent-encoded.
use Rattle.std.specs.Prelude.{◌≡◌, ℕ, Bool, not, codes, List, [], ◌∷◌, ◌++◌, if◌then◌else◌}
use Rattle.std.specs.List.{flat_map}
use Rattle.percent_encoding.specs.AsciiSet.{should_percent_encode}
use Rattle.percent_encoding.specs.Percent.{percent_encode}
use Rattle.percent_encoding.specs.declared.ascii_set.AsciiSet.{AsciiSet}
use Rattle.dav_key.specs.Key.{Key}
use Rattle.dav_resource.specs.PathText.{PathValue, last_slash}

-- the set has exactly the bytes that are not kept
abbrev pub IsSetBut : AsciiSet → (ℕ → Bool) → Type 0
IsSetBut set keeps = (b : ℕ) → should_percent_encode set b ≡ not (keeps b)

-- `/` and the segment with the bytes of the set percent-encoded, for each segment
abbrev pub key_text_with : AsciiSet → Key → List ℕ
key_text_with set key = flat_map (λ segment. 47 ∷ percent_encode set segment) key

-- the path as a string with these bytes of its segments percent-encoded, without its prefix
abbrev pub url_text_with : AsciiSet → PathValue → List ℕ
url_text_with set path = if path.star then codes "*" else key_text_with set path.key ++ last_slash path.slash path.key
