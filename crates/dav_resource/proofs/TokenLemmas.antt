-- Lock tokens as field values.
use Rattle.std.proofs.Common.{◌≡◌, ℕ, true, List, [], ◌∷◌, arith, refl}
use Rattle.std.specs.Char.{is_ascii_graphic}
use Rattle.std.specs.List.{list_all}
use Rattle.std.proofs.lemmas.Bool.Decides.{nat_tests}
use Rattle.std.proofs.lemmas.List.Folds.{list_all-append}
use Rattle.std.proofs.lemmas.List.Sums.{AllPass-from_list_all}
use Rattle.http_header.specs.FieldValue.{IsFieldValue}
use Rattle.http_header.specs.Token.{is_value_byte}
use Rattle.dav_resource.specs.LockToken.{is_lock_token, coded}

value_bytes : (text : List ℕ) → list_all is_ascii_graphic text ≡ true → list_all is_value_byte text ≡ true
value_bytes [] h = refl
value_bytes (b ∷ text) h = grind (arith, nat_tests, value_bytes text)

-- a token in its brackets
pub IsFieldValue-coded : (token : List ℕ) → is_lock_token token ≡ true → IsFieldValue (coded token)
IsFieldValue-coded token h =
    let shown : list_all is_ascii_graphic token ≡ true = grind (arith, nat_tests) in
    AllPass-from_list_all is_value_byte (coded token) (rw (list_all-append, list_all-append, value_bytes token shown) refl)
