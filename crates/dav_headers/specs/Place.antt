-- The path of a string that is a path, or an http or https URL (RFC 4918, sections 8.3 and 10.3; the URL Standard).
use Rattle.std.specs.Prelude.{ℕ, Bool, ◌==◌, ◌||◌, List, Option, Some, None, Ok, Err, slice_index, if◌then◌else◌, bytes_eq, codes, option_and_then}
use Rattle.std.specs.Result.{result_ok}
use Rattle.url.specs.Parts.{Parts}
use Rattle.url.specs.Parser.{Parsed, parse_url}
use Rattle.dav_key.specs.Key.{Key}
use Rattle.dav_resource.specs.PathText.{PathValue, read_path_below}

-- the scheme is http or https
abbrev pub is_web : Parts → Bool
is_web url = bytes_eq url.scheme (codes "http") || bytes_eq url.scheme (codes "https")

-- the path of a parsed URL, if its scheme is http or https
abbrev pub web_path : Parsed Parts → Option (List ℕ)
web_path (Ok url) = if is_web url then Some url.path else None
web_path (Err e) = None

-- a string that begins with `/` is the path itself, any other is parsed as a URL
abbrev pub place_path : List ℕ → Option (List ℕ)
place_path text = if slice_index text 0 == 47 then Some text else web_path (parse_url None text)

-- the path of a resource tag, below this prefix, if it can be parsed
abbrev pub tagged_path : List ℕ → Key → Option PathValue
tagged_path tag prefix = option_and_then (λ path. result_ok (read_path_below path prefix)) (place_path tag)
