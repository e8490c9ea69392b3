-- What a clock in UTC shows at a second is the date and time of it.
use Rattle.std.proofs.Common.{◌≡◌, ℕ, ◌+◌, ◌*◌, ◌/◌, ◌%◌, ◌++◌, ◌≤◌, List, codes, refl, sym, ap, ◌∙◌, arith, ℤ, pos, negsuc, ◌≤ℤ◌}
use Rattle.httpdate.specs.declared.parts.Parts.{Parts}
use Rattle.httpdate.specs.Calendar.{IsCivilDate, days_from_civil, seconds_from_civil, weekday}
use Rattle.jiff_core.specs.declared.civil.datetime.DateTime.{DateTime}
use Rattle.jiff_core.specs.DateTime.{civil_nanos}
use Rattle.jiff_core.specs.Date.{epoch_day}
use Rattle.jiff_core.proofs.SignedLemmas.{signed_arith}
use Rattle.jiff_core.proofs.DateLemmas.{civil}
use Rattle.jiff_core.proofs.DateTimeLemmas.{civil_nanos-parts, time_nanos_bound}
use Rattle.jiff.specs.Words.{iso_datetime_text}
use Rattle.dav_dates.specs.Moment.{parts_of}
use Rattle.dav_dates.specs.CreationDate.{creation_date_text, utc_text}
use Rattle.dav_dates.proofs.Calendars.{days_agree, since_1970}
use Rattle.dav_dates.proofs.Moment.{parts_are}

module _ (dt : DateTime) (secs : ℕ) (same : civil_nanos dt ≡ pos (secs * 1000000000)) where
  whole : (epoch_day dt.date ≡ pos (secs / 86400)) × (dt.time.subsec_nanosecond ≡ 0) × (dt.time.hour * 3600 + dt.time.minute * 60 + dt.time.second ≡ secs % 86400)
  whole = omega (arith, signed_arith, same, civil_nanos-parts dt, time_nanos_bound dt.time)

  -- the numbers that the clock shows in this year
  abbrev shown_in : ℕ → Parts
  shown_in y =
      let date = dt.date in
      let time = dt.time in
      record { year = y; mon = date.month; day = date.day; hour = time.hour; min = time.minute; sec = time.second; wday = weekday (days_from_civil y date.month date.day) }

  text_in : (y : ℕ) → dt.date.year ≡ pos y → iso_datetime_text dt ++ codes "Z" ≡ utc_text (shown_in y)
  text_in y year = rw (year, whole.1) refl

  civil_in : (y : ℕ) → dt.date.year ≡ pos y → 1970 ≤ y → IsCivilDate y dt.date.month dt.date.day
  civil_in y year from = let known = rw year at (civil dt.date) in ((from, omega (arith, signed_arith, known.0)), known.1, known.2)

  seconds_in : (y : ℕ) → dt.date.year ≡ pos y → 1970 ≤ y → seconds_from_civil y dt.date.month dt.date.day dt.time.hour dt.time.minute dt.time.second ≡ secs
  seconds_in y year from =
      let today = rw year at whole.0 in
      let agree = days_agree y dt.date.month dt.date.day from dt.date.day_in.0 in
      let days : days_from_civil y dt.date.month dt.date.day ≡ secs / 86400 = cc in
      rw days (omega (arith, whole.2))

  shown_by : (year : ℤ) → dt.date.year ≡ year → pos 1970 ≤ℤ year → iso_datetime_text dt ++ codes "Z" ≡ utc_text (parts_of secs)
  shown_by (negsuc n) is from = absurd (omega (arith, signed_arith))
  shown_by (pos y) is from =
      let low : 1970 ≤ y = omega (arith, signed_arith) in
      let date = dt.date in
      let time = dt.time in
      let parts = parts_are y date.month date.day time.hour time.minute time.second secs (civil_in y is low) (time.hour_in, time.minute_in, time.second_in) (seconds_in y is low) in
      text_in y is ∙ ap utc_text (sym parts)

  pub creation_date_text_is : (text : List ℕ) → text ≡ iso_datetime_text dt ++ codes "Z" → text ≡ creation_date_text secs
  unfolding creation_date_text
  creation_date_text_is text shown =
      shown ∙ shown_by dt.date.year refl (since_1970 dt.date.year dt.date.month dt.date.day (secs / 86400) (civil dt.date) whole.0)
