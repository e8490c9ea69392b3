use Rattle.std.proofs.Common.{◌≡◌, ℕ, ◌^◌, ◌<◌, Bool, true, false, ◌&&◌, if◌then◌else◌, List, length, Some, None, Result, Ok, Err, refl, sym, ap, ◌∙◌, ltb-true, rules}
use Rattle.std.specs.List.{list_all}
use Rattle.std.specs.Char.{is_ascii_digit}
use Rattle.std.specs.Result.{OkIff, result_ok}
use Rattle.std.specs.Str.Parse.{digits_value}
use Rattle.std.proofs.lemmas.Bool.{and_from, lt-ltb, cond-true, cond-false}
use Rattle.std.proofs.lemmas.Str.Parse.{IsNumeralModel, numerals_by_value, parse_digits}
use Rattle.davd.specs.Options.{is_tag_part}
use Rattle.davd.proofs.options.read_tag_part.Goals as goal

own : IsNumeralModel (λ ds. list_all is_ascii_digit ds ≡ true) (digits_value 10)
own = numerals_by_value _ (search rules)

fails : (a b c : Bool) → b ≡ true → (a ≡ true → c ≡ true → ⊥) → (a && (b && c)) ≡ false
fails true true true e h = absurd (h refl refl)
fails true true false e h = refl
fails true false c e h = refl
fails false b c e h = refl

-- what is read of a text of digits alone
part_read : {E : Type 0} (text : List ℕ) (r : Result ℕ E) → list_all is_ascii_digit text ≡ true → OkIff r ((0 < length text) × (digits_value 10 text < 2 ^ 128)) (digits_value 10 text)
    → result_ok r ≡ (if is_tag_part text then Some (digits_value 10 text) else None)
part_read text (Ok n) digits h = ap Some h.1 ∙ sym (cond-true _ _ _ (and_from _ _ (lt-ltb _ _ h.0.0) (and_from _ _ digits (lt-ltb (digits_value 10 text) (2 ^ 128) h.0.1))))
part_read text (Err e) digits h = sym (cond-false _ _ _ (fails _ _ _ digits (λ p q. h (ltb-true 0 (length text) p, ltb-true (digits_value 10 text) (2 ^ 128) q))))

pub returns : goal.returns
returns c =
    let digits : list_all is_ascii_digit c.args.value.now ≡ true = search rules in
    c.ok.ensures.value ∙ part_read c.args.value.now c.parse.result digits (parse_digits own 128 c.args.value.now c.parse.result c.parse.ensures.value.0 digits)
