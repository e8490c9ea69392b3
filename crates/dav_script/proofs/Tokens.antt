-- The token that is made of a block's number.
use Rattle.std.proofs.Common.{◌≡◌, ℕ, ◌<◌, ◌^◌, true, List, [], ◌∷◌, arith, refl, nat_lt, length}
use Rattle.std.proofs.lemmas.List.{length-append}
use Rattle.std.specs.List.{list_all}
use Rattle.std.specs.Char.{is_ascii_graphic}
use Rattle.std.specs.Fmt.{decimal}
use Rattle.std.specs.Str.Parse.{AllDigits}
use Rattle.std.proofs.lemmas.Bool.Decides.{nat_tests}
use Rattle.std.proofs.lemmas.Fmt.{decimal_is_IsNumeral}
use Rattle.std.proofs.lemmas.List.Folds.{list_all-append}
use Rattle.std.proofs.lemmas.Str.Parse.{digit_at}
use Rattle.dav_resource.specs.LockToken.{is_lock_token}
use Rattle.dav_script.specs.Requests.{numbered_token}

digits_show : (digits : List ℕ) → AllDigits 10 digits → list_all is_ascii_graphic digits ≡ true
digits_show [] h = refl
digits_show (d ∷ digits) h =
    let first = digit_at (d ∷ digits) 0 h (omega arith) in
    let rest = digits_show digits h.1 in
    grind (arith, nat_tests)

-- it is one
pub is_lock_token-numbered : (number : ℕ) → number < 2 ^ 64 → is_lock_token (numbered_token number) ≡ true
is_lock_token-numbered number small =
    let digits = digits_show (decimal number) (decimal_is_IsNumeral number small).0.1 in
    let some : nat_lt 0 (length (numbered_token number)) ≡ true = grind (arith, nat_tests, length-append) in
    rw (some, list_all-append, digits) refl
