-- The `content-location` of a directory whose path in the request has no trailing slash (RFC 4918, section 5.2; RFC 9110, section 8.7).
use Rattle.std.specs.Prelude.{◌&&◌, not, if◌then◌else◌, codes, Option, Some, None}
use Rattle.http_header.specs.HeaderMap.{Entries}
use Rattle.http_header.specs.FieldValue.{FieldValue, plain_value}
use Rattle.dav_resource.specs.PathText.{PathValue, url_text}
use Rattle.dav_resource.specs.PathForms.{is_collection, prefixed}
use Rattle.dav_resource.specs.declared.meta.Meta.{Meta}
use Rattle.dav_messages.specs.ReplyHeader.{optional_field}
use Rattle.dav_engine.specs.Rules.{is_directory, fixed_path}

-- the path with the prefix and a trailing slash, if a directory was found and the request's path has no trailing slash and is not the root
abbrev pub fixed_location : PathValue → Option Meta → Option FieldValue
fixed_location path found =
    if is_directory found && not (is_collection path) then Some (plain_value (url_text (prefixed (fixed_path path found)))) else None

abbrev pub location_fields : PathValue → Option Meta → Entries FieldValue
location_fields path found = optional_field (codes "content-location") (fixed_location path found)
