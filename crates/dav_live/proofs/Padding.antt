-- What a hole with a width and `0` writes of a number.
use Rattle.std.proofs.Common.{◌≡◌, ℕ, ◌-◌, ◌^◌, false, List, [], length, replicate, ◌++◌, ap, append-nil, arith}
use Rattle.std.specs.Fmt.{padded_integral, format_spec, char_count}
use Rattle.dav_live.specs.Texts.{zero_padded}

pub zeros_before : (width : ℕ) (digits : List ℕ) → padded_integral (format_spec 32 0 4 width (2 ^ 64 - 1)) false [] digits ≡ zero_padded width digits
unfolding padded_integral char_count
zeros_before width digits =
    let short : width - length digits - 0 - 0 ≡ width - length digits = omega arith in
    rw (append-nil digits) (ap (λ n. replicate n 48 ++ digits) short)
