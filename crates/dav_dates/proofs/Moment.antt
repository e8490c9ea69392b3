-- The numbers of a date and a time of day are those that the second of them has.
use Rattle.std.proofs.Common.{◌≡◌, ℕ, zero, suc, ◌+◌, ◌-◌, ◌*◌, ◌/◌, ◌%◌, ◌<◌, ◌≤◌, inl, inr, ap, ◌∙◌, arith}
use Rattle.std.proofs.lemmas.Bool.{cases_eq}
use Rattle.std.proofs.lemmas.Bool.Decides.{nat_tests}
use Rattle.httpdate.specs.Calendar.{IsCivilDate, IsTimeOfDay, seconds_from_civil, days_in_month, days_of_years, days_of_months, days_from_civil, weekday}
use Rattle.httpdate.proofs.CalendarLemmas.{days_from_civil_year, days_from_civil_month}
use Rattle.dav_dates.specs.Moment.{ended, ended_years, ended_months, parts_from, parts_of}

-- k periods have ended where the first k have, and none of the others
ended_is : (lengths : ℕ → ℕ) (n x k : ℕ) → k ≤ n → ((j : ℕ) → j < k → lengths (suc j) ≤ x) → ((j : ℕ) → k ≤ j → j < n → x < lengths (suc j))
    → ended lengths n x ≡ k
unfolding ended
ended_is lengths zero x k h low high = omega arith
ended_is lengths (suc n) x k h low high =
    elim (cases_eq k (suc n)) [
      | inl all ↦
          let before = ended_is lengths n x n (omega arith) (λ j l. low j (omega arith)) (λ j a b. absurd (omega arith)) in
          let last = low n (omega arith) in
          grind (arith, nat_tests)
      | inr fewer ↦
          let before = ended_is lengths n x k (omega arith) low (λ j a b. high j a (omega arith)) in
          let last = high n (omega arith) (omega arith) in
          grind (arith, nat_tests)
    ]

first_of_year : (n : ℕ) → days_from_civil (1970 + n) 1 1 ≡ days_of_years n
unfolding days_of_months
first_of_year n = let same : 1970 + n - 1970 ≡ n = omega arith in rw same (omega arith)

first_of_month : (y n : ℕ) → days_from_civil y (n + 1) 1 ≡ days_of_years (y - 1970) + days_of_months y n
first_of_month y n = let same : n + 1 - 1 ≡ n = omega arith in rw same (omega arith)

some_day : (y m : ℕ) → 1 ≤ days_in_month y m
some_day y m = grind (arith, nat_tests)

module _ (y m d : ℕ) (civil : IsCivilDate y m d) where
  years_of : ended_years (days_from_civil y m d) ≡ y - 1970
  years_of =
      ended_is days_of_years 8030 (days_from_civil y m d) (y - 1970) (omega arith)
      (λ j h. elim (cases_eq (suc j) (y - 1970)) [
        | inl last ↦ rw last (omega arith)
        | inr earlier ↦
            let less = days_from_civil_year (1970 + suc j) 1 1 y m d ((omega arith, omega arith), (omega arith, omega arith), (omega arith, some_day (1970 + suc j) 1)) (omega arith) in
            omega (arith, rw (first_of_year (suc j)) at less)
      ])
      (λ j h within.
      let less = days_from_civil_year y m d (1970 + suc j) 1 1 civil (omega arith) in
      rw (first_of_year (suc j)) at less)

  months_of : ended_months y (days_of_months y (m - 1) + (d - 1)) ≡ m - 1
  months_of =
      ended_is (days_of_months y) 12 (days_of_months y (m - 1) + (d - 1)) (m - 1) (omega arith)
      (λ j h. elim (cases_eq (suc j) (m - 1)) [
        | inl last ↦ rw last (omega arith)
        | inr earlier ↦
            let less = days_from_civil_month y (suc j + 1) 1 m d (civil.0, (omega arith, omega arith), (omega arith, some_day y (suc j + 1))) (omega arith) in
            omega (arith, rw (first_of_month y (suc j)) at less)
      ])
      (λ j h within.
      let less = days_from_civil_month y m d (suc j + 1) 1 civil (omega arith) in
      omega (arith, rw (first_of_month y (suc j)) at less))

clock : (days hour min sec secs : ℕ) → hour < 24 → min < 60 → sec < 60 → days * 86400 + hour * 3600 + min * 60 + sec ≡ secs
    → (secs / 86400 ≡ days) × (secs % 86400 / 3600 ≡ hour) × (secs % 3600 / 60 ≡ min) × (secs % 60 ≡ sec)
clock days hour min sec secs a b c e = (omega arith, omega arith, omega arith, omega arith)

parts_by_year : (secs day y rest : ℕ) → 1970 ≤ y → secs / 86400 ≡ day → ended_years day ≡ y - 1970 → day - days_of_years (y - 1970) ≡ rest
    → parts_of secs ≡ parts_from y rest secs
parts_by_year secs day y rest from today years left =
    let year : 1970 + ended_years (secs / 86400) ≡ y = rw (today, years) (omega arith) in
    let of_year : secs / 86400 - days_of_years (ended_years (secs / 86400)) ≡ rest = rw (today, years) left in
    λ i. parts_from (year i) (of_year i) secs

-- the numbers of a second are those of the date and the time of day that it is
pub parts_are : (y m d hour min sec secs : ℕ) → IsCivilDate y m d → IsTimeOfDay hour min sec → seconds_from_civil y m d hour min sec ≡ secs
    → parts_of secs ≡ record { year = y; mon = m; day = d; hour = hour; min = min; sec = sec; wday = weekday (days_from_civil y m d) }
parts_are y m d hour min sec secs civil time same =
    let day = days_from_civil y m d in
    let of_year = days_of_months y (m - 1) + (d - 1) in
    let at = clock day hour min sec secs time.0 time.1 time.2 same in
    let months = months_of y m d civil in
    let month : 1 + ended_months y of_year ≡ m = rw months (omega (arith, civil.1)) in
    let of_month : 1 + (of_year - days_of_months y (ended_months y of_year)) ≡ d = rw months (omega (arith, civil.2)) in
    let named : weekday (secs / 86400) ≡ weekday day = ap weekday at.0 in
    parts_by_year secs day y of_year civil.0.0 at.0 (years_of y m d civil) (omega arith)
    ∙ (λ i. record { year = y; mon = month i; day = of_month i; hour = at.1 i; min = at.2 i; sec = at.3 i; wday = named i })
