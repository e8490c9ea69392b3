-- The numbers of the date and the time of day of a second since 1970, in UTC and the Gregorian calendar (ISO 8601; POSIX.1-2017, section 4.16).
use Rattle.std.specs.Prelude.{ℕ, zero, suc, ◌+◌, ◌-◌, ◌/◌, ◌%◌, nat_le, if◌then◌else◌, Option, Some, None}
use Rattle.std.specs.Option.{option_and_then}
use Rattle.httpdate.specs.declared.parts.Parts.{Parts}
use Rattle.httpdate.specs.Calendar.{days_of_years, days_of_months, weekday}

-- the latest time that is written as a date: 9998-12-31T23:59:59Z
abbrev pub last_shown : ℕ
last_shown = 253370764799

-- the time, if it is known and not later than that
abbrev pub shown_moment : Option ℕ → Option ℕ
shown_moment moment = option_and_then (λ secs. if nat_le secs last_shown then Some secs else None) moment

-- how many of the first n periods have ended by day x, where the first k periods together last `lengths k` days
unfoldable pub ended : (ℕ → ℕ) → ℕ → ℕ → ℕ
ended lengths zero x = 0
ended lengths (suc n) x = ended lengths n x + (if nat_le (lengths (suc n)) x then 1 else 0)

-- how many of the 8030 years from 1970 to 9999 have ended by this day since 1970
abbrev pub ended_years : ℕ → ℕ
ended_years day = ended days_of_years 8030 day

-- how many of the twelve months of the year have ended by this day of it, counted from 0
abbrev pub ended_months : ℕ → ℕ → ℕ
ended_months year day = ended (days_of_months year) 12 day

-- the numbers of a date, from the year, the day of it counted from 0, and the second since 1970
abbrev pub parts_from : ℕ → ℕ → ℕ → Parts
parts_from year day secs =
    record {
      year = year;
      mon = 1 + ended_months year day;
      day = 1 + (day - days_of_months year (ended_months year day));
      hour = secs % 86400 / 3600;
      min = secs % 3600 / 60;
      sec = secs % 60;
      wday = weekday (secs / 86400);
    }

-- the numbers of the date of a second since 1970
abbrev pub parts_of : ℕ → Parts
parts_of secs =
    let years = ended_years (secs / 86400) in
    parts_from (1970 + years) (secs / 86400 - days_of_years years) secs
