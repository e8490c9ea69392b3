-- The date and time of the property DAV:creationdate for a second since 1970 (RFC 4918, section 15.1; RFC 3339, section 5.6).
use Rattle.std.specs.Prelude.{ℕ, List, ◌++◌, codes}
use Rattle.httpdate.specs.declared.parts.Parts.{Parts}
use Rattle.httpdate.specs.Text.{two_digits, four_digits}
use Rattle.dav_dates.specs.Moment.{parts_of}

-- these numbers, as `1994-11-06T08:49:37Z`
abbrev pub utc_text : Parts → List ℕ
utc_text p =
    four_digits p.year ++ codes "-" ++ two_digits p.mon ++ codes "-" ++ two_digits p.day
    ++ codes "T" ++ two_digits p.hour ++ codes ":" ++ two_digits p.min ++ codes ":" ++ two_digits p.sec ++ codes "Z"

-- the date and time of a second
unfoldable pub creation_date_text : ℕ → List ℕ
creation_date_text secs = utc_text (parts_of secs)
