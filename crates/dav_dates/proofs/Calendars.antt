-- The calendars of the two crates agree from 1970 on.
use Rattle.std.proofs.Common.{◌≡◌, ℕ, zero, suc, ◌+◌, ◌-◌, ◌≤◌, refl, ap, arith, ℤ, pos, ◌≤ℤ◌}
use Rattle.std.proofs.lemmas.Int.{by_lt_z}
use Rattle.jiff_core.specs.Calendar as jiff
use Rattle.jiff_core.specs.Calendar.{day_count}
use Rattle.jiff_core.proofs.SignedLemmas.{signed_arith}
use Rattle.jiff_core.proofs.CalendarLemmas.{day_count-epoch, day_count-next_year, day_count-day_of_year, day_count-lt_year, days_from_civil-day_count}
use Rattle.httpdate.specs.Calendar.{days_of_years, days_of_months, days_from_civil}

-- the first days of the years
years_agree : (n : ℕ) → day_count (pos (1970 + n)) 1 1 ≡ 4371953 + days_of_years n
unfolding days_of_years
years_agree zero = day_count-epoch
years_agree (suc n) =
    let next = day_count-next_year (pos (1970 + n)) (pos (1970 + suc n)) (omega (arith, signed_arith)) (omega (arith, signed_arith)) in
    omega (arith, next, years_agree n)

-- the first days of the months
months_agree : (y n : ℕ) → jiff.days_of_months (pos y) n ≡ days_of_months y n
unfolding days_of_months jiff.days_of_months
months_agree y zero = refl
months_agree y (suc n) = ap (λ days. days + jiff.days_in_month (pos y) (suc n)) (months_agree y n)

-- each day
pub days_agree : (y m d : ℕ) → 1970 ≤ y → 1 ≤ d → jiff.days_from_civil (pos y) m d ≡ pos (days_from_civil y m d)
days_agree y m d from first =
    let n = y - 1970 in
    let year : 1970 + n ≡ y = omega arith in
    let begins : day_count (pos y) 1 1 ≡ 4371953 + days_of_years n = rw year at (years_agree n) in
    let months = months_agree y (m - 1) in
    let within = day_count-day_of_year (pos y) m d first in
    omega (arith, signed_arith, begins, months, within, days_from_civil-day_count (pos y) m d)

-- no day before 1970 has a number of its own that counts from there
pub since_1970 : (y : ℤ) (m d day : ℕ) → jiff.IsCivilDate y m d → jiff.days_from_civil y m d ≡ pos day → pos 1970 ≤ℤ y
since_1970 y m d day civil is =
    by_lt_z y (pos 1970)
    (λ early.
    let before = day_count-lt_year y m d (pos 1970) 1 1 civil (omega arith) early in
    absurd (omega (arith, signed_arith, before, day_count-epoch, days_from_civil-day_count y m d)))
    (λ late. late)
