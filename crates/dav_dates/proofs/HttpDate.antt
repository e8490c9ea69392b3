-- The date of a second is the one that the function gives.
use Rattle.std.proofs.Common.{◌≡◌, ℕ, List, refl, sym, ap, ◌∙◌}
use Rattle.httpdate.specs.declared.date.HttpDate.{HttpDate}
use Rattle.httpdate.specs.Date.{unix_secs}
use Rattle.httpdate.specs.Text.{imf_fixdate}
use Rattle.dav_dates.specs.Moment.{parts_of}
use Rattle.dav_dates.specs.HttpDate.{IsHttpDate, http_date_text}
use Rattle.dav_dates.proofs.Moment.{parts_are}

-- the numbers of a date are those of its second
parts_of_date : (date : HttpDate) → parts_of (unix_secs date) ≡ date.parts
parts_of_date date =
    let p = date.parts in
    let right_day = sym date.right_day in
    parts_are p.year p.mon p.day p.hour p.min p.sec (unix_secs date) date.civil date.time refl
    ∙ (λ i. record { year = p.year; mon = p.mon; day = p.day; hour = p.hour; min = p.min; sec = p.sec; wday = right_day i })

-- so a text that is the date of a second is the one
pub http_date_text_is : (secs : ℕ) (text : List ℕ) → IsHttpDate secs text → text ≡ http_date_text secs
unfolding http_date_text
http_date_text_is secs text (date, same, shown) = shown ∙ ap imf_fixdate (sym (parts_of_date date)) ∙ ap (λ s. imf_fixdate (parts_of s)) same
