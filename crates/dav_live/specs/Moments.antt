-- When a resource was created, if known (RFC 4918, section 15.1). That the last change of its metadata can stand in for this is this project's own
-- choice.
use Rattle.std.specs.Prelude.{ℕ, min, Option, Some, None}
use Rattle.dav_resource.specs.declared.meta.Meta.{Meta}
use Rattle.dav_dates.specs.Moment.{shown_moment}

-- the first time, or the second if both are known and it is earlier
abbrev pub earlier : Option ℕ → Option ℕ → Option ℕ
earlier (Some secs) (Some other) = Some (min secs other)
earlier moment _ = moment

-- the first time if it is known, otherwise the second
abbrev pub or_else : Option ℕ → Option ℕ → Option ℕ
or_else (Some secs) other = Some secs
or_else None other = other

-- the creation time, otherwise the time of the last metadata change, or of the last modification if that is earlier
abbrev pub creation_moment : Meta → Option ℕ
creation_moment meta = or_else (shown_moment meta.created) (earlier (shown_moment meta.status_changed) (shown_moment meta.modified))
