-- Texts that a header field may show.
use Rattle.std.proofs.Common.{◌≡◌, ℕ, zero, suc, ◌+◌, ◌/◌, ◌%◌, ◌<◌, ◌≤◌, true, List, ◌++◌, arith, refl}
use Rattle.std.specs.List.{list_all}
use Rattle.std.specs.Int.{IsInRange}
use Rattle.std.proofs.lemmas.Bool.Decides.{nat_tests}
use Rattle.std.proofs.lemmas.List.Folds.{list_all-append}
use Rattle.std.proofs.lemmas.List.Sums.{AllPass-from_list_all}
use Rattle.http_header.specs.FieldValue.{IsFieldValue}
use Rattle.http_header.specs.Token.{is_value_byte}
use Rattle.httpdate.specs.Text.{day_name, month_name, two_digits}
use Rattle.httpdate.specs.declared.date.HttpDate.{HttpDate}
use Rattle.httpdate.specs.Date.{date_text}

-- the bytes of a field value, as a test
abbrev IsShown : List ℕ → Type 0
IsShown text = list_all is_value_byte text ≡ true

join : (a b : List ℕ) → IsShown a → IsShown b → IsShown (a ++ b)
join a b first second = rw (list_all-append is_value_byte a b, first, second)

byte : (b : ℕ) → 32 ≤ b → b < 127 → is_value_byte b ≡ true
byte b low high = grind (arith, nat_tests)

digits : (n : ℕ) → n < 100 → IsShown (two_digits n)
digits n h = rw (byte (48 + n / 10) (omega arith) (omega arith), byte (48 + n % 10) (omega arith) (omega arith))

day : (n : ℕ) → IsInRange 1 7 n → IsShown (day_name n)
day (suc zero) h = refl
day (suc (suc zero)) h = refl
day (suc (suc (suc zero))) h = refl
day (suc (suc (suc (suc zero)))) h = refl
day (suc (suc (suc (suc (suc zero))))) h = refl
day (suc (suc (suc (suc (suc (suc zero)))))) h = refl
day (suc (suc (suc (suc (suc (suc (suc zero))))))) h = refl
day zero h = absurd (omega arith)
day (suc (suc (suc (suc (suc (suc (suc (suc k)))))))) h = absurd (omega arith)

month : (n : ℕ) → IsInRange 1 12 n → IsShown (month_name n)
month (suc zero) h = refl
month (suc (suc zero)) h = refl
month (suc (suc (suc zero))) h = refl
month (suc (suc (suc (suc zero)))) h = refl
month (suc (suc (suc (suc (suc zero))))) h = refl
month (suc (suc (suc (suc (suc (suc zero)))))) h = refl
month (suc (suc (suc (suc (suc (suc (suc zero))))))) h = refl
month (suc (suc (suc (suc (suc (suc (suc (suc zero)))))))) h = refl
month (suc (suc (suc (suc (suc (suc (suc (suc (suc zero))))))))) h = refl
month (suc (suc (suc (suc (suc (suc (suc (suc (suc (suc zero)))))))))) h = refl
month (suc (suc (suc (suc (suc (suc (suc (suc (suc (suc (suc zero))))))))))) h = refl
month (suc (suc (suc (suc (suc (suc (suc (suc (suc (suc (suc (suc zero)))))))))))) h = refl
month zero h = absurd (omega arith)
month (suc (suc (suc (suc (suc (suc (suc (suc (suc (suc (suc (suc (suc k))))))))))))) h = absurd (omega arith)

-- the date of a second
pub IsFieldValue-date_text : (date : HttpDate) → IsFieldValue (date_text date)
IsFieldValue-date_text date =
    let p = date.parts in
    let name : IsShown (day_name p.wday) = day p.wday (omega (arith, date.right_day)) in
    let day_number : IsShown (two_digits p.day) = digits p.day (grind (arith, date.civil.2.1)) in
    let month_letters : IsShown (month_name p.mon) = month p.mon date.civil.1 in
    let century : IsShown (two_digits (p.year / 100)) = digits (p.year / 100) (omega (arith, date.civil.0)) in
    let year : IsShown (two_digits (p.year % 100)) = digits (p.year % 100) (omega arith) in
    let hour : IsShown (two_digits p.hour) = digits p.hour (omega (arith, date.time)) in
    let minute : IsShown (two_digits p.min) = digits p.min (omega (arith, date.time)) in
    let second : IsShown (two_digits p.sec) = digits p.sec (omega (arith, date.time)) in
    AllPass-from_list_all is_value_byte (date_text date) (simp (list_all-append, name, day_number, month_letters, century, year, hour, minute, second))
