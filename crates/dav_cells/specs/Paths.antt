-- Keys and paths as bytes: this project's own choice.
use Rattle.std.specs.Prelude.{◌≡◌, ℕ, Bool, false, not, ◌&&◌, ◌||◌, ◌==◌, List, length, refl}
use Rattle.dav_key.specs.Key.{Key}
use Rattle.dav_resource.specs.PathText.{PathValue, is_segment}
use Rattle.dav_resource.specs.PathForms.{is_collection}
use Rattle.dav_wire.specs.Codec.{Codec}
use Rattle.dav_wire.specs.Combine.{pair, as_type, only}
use Rattle.dav_wire.specs.Values.{utf8_text, flag, list}
use Rattle.dav_wire.specs.declared.error.WireError.{WireError}
use Rattle.dav_wire.specs.declared.error.WireError.TheVariants.{Malformed, Memory}

-- ---- keys

-- a segment as a string
unfoldable pub segment_codec : Codec (List ℕ)
segment_codec = only is_segment utf8_text

-- how many segments, and then each
unfoldable pub key_codec : Codec Key
key_codec = list segment_codec

-- ---- paths

abbrev pub path_of_parts : Bool × (Bool × (Key × Key)) → PathValue
path_of_parts p = record { star = p.0; slash = p.1.0; prefix = p.1.1.0; key = p.1.1.1 }

abbrev pub parts_of_path : PathValue → Bool × (Bool × (Key × Key))
parts_of_path path = (path.star, (path.slash, (path.prefix, path.key)))

-- the root has its trailing slash, and the star path has no segments
abbrev pub is_whole_path : PathValue → Bool
is_whole_path path =
    (path.slash || not (length path.key == 0)) && (not path.star || length path.prefix == 0 && length path.key == 0)

-- why no path is made of these parts: they are not those of a path, or memory runs out
abbrev pub NotPath : PathValue → WireError → Type 0
NotPath path Malformed = is_whole_path path ≡ false
NotPath path Memory = Unit {0}

-- whether it is the star path, whether it has a trailing slash, its prefix and its key
unfoldable pub path_codec : Codec PathValue
path_codec =
    only is_whole_path (as_type (pair flag (pair flag (pair key_codec key_codec))) path_of_parts parts_of_path (λ p. refl) (λ path. refl))

-- the path, where the root has its trailing slash
abbrev pub kept_path : PathValue → PathValue
kept_path path = record path { slash = is_collection path }
