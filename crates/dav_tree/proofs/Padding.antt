-- What the entity tag is made of.
use Rattle.std.proofs.Common.{◌≡◌, ◌∙◌, ℕ, ◌-◌, ◌/◌, ◌%◌, ◌^◌, false, List, [], length, replicate, ◌++◌, codes, Option, Some, Result, Ok, Err, IfOk, sym, ap, append-nil, append_assoc, arith}
use Rattle.std.specs.Fmt.{padded_integral, format_spec, char_count, digits}
use Rattle.dav_tree.specs.Memory.{sixteen_digits, hexadecimal, tag_text}

-- what a hole with a width of 16 and `0` writes of a number
abbrev pub in_hole : ℕ → List ℕ
in_hole number = padded_integral (format_spec 32 0 4 16 (2 ^ 64 - 1)) false [] (digits 16 false number)

zeros_before : (number : ℕ) → in_hole number ≡ sixteen_digits number
unfolding padded_integral char_count
zeros_before number =
    let ds : List ℕ = digits 16 false number in
    let short : 16 - length ds - 0 - 0 ≡ 16 - length ds = omega arith in
    rw (append-nil ds) (ap (λ n. replicate n 48 ++ ds) short)

-- two holes, a hyphen and a version
pub tag_joined : (given : Option ℕ) (part version : ℕ) → given ≡ Some part
    → in_hole (part / 2 ^ 64) ++ (in_hole (part % 2 ^ 64) ++ (codes "-" ++ hexadecimal version)) ≡ tag_text given version
tag_joined given part version is =
    (λ i. zeros_before (part / 2 ^ 64) i ++ (zeros_before (part % 2 ^ 64) i ++ (codes "-" ++ hexadecimal version)))
    ∙ ap (λ l. sixteen_digits (part / 2 ^ 64) ++ l) (sym (append_assoc (sixteen_digits (part % 2 ^ 64)) (codes "-") (hexadecimal version)))
    ∙ sym (append_assoc (sixteen_digits (part / 2 ^ 64)) (sixteen_digits (part % 2 ^ 64) ++ codes "-") (hexadecimal version))
    ∙ ap (λ given. tag_text given version) (sym is)

pub then_ok : {A E : Type 0} {P Q : A → Type 0} (answer : Result A E) → ((a : A) → P a → Q a) → IfOk answer P → IfOk answer Q
then_ok (Ok a) f h = f a h
then_ok (Err e) f h = tt
