use Rattle.std.proofs.Common.{◌≡◌, ◌^◌, ◌≤◌, nat_lt, true, false, refl, arith}
use Rattle.std.proofs.lemmas.Bool.{lt-ltb, le-ltb}
use Rattle.dav_wire.specs.Numbers.{number}
use Rattle.dav_wire.proofs.ReadLemmas.{stops}
use Rattle.dav_cells.specs.Pieces.{small_number}
use Rattle.dav_cells.proofs.pieces.read_small_number.Goals as goal

pub returns-in_err-read_number : goal.returns-in_err-read_number
unfolding small_number
returns-in_err-read_number c =
    stops number small_number (λ n. n) c.args.reader.now c.args.reader.now _ c.from_residual.result c.in_err-read_number.field-0.0 c.from_residual.ensures.1
    (λ none. rw none refl) c.in_err-read_number.ensures

pub returns-in-Ok : goal.returns-in-Ok
unfolding small_number
returns-in-Ok c =
    let small : nat_lt c.in_ok-read_number.field-0 (2 ^ 32) ≡ true = lt-ltb c.in_ok-read_number.field-0 (2 ^ 32) (omega (arith, c.in-Ok.ensures)) in
    rw (c.in_ok-read_number.ensures, small, c.in-Ok.ensures.1) refl

pub returns-in-Err : goal.returns-in-Err
unfolding small_number
returns-in-Err c =
    let large : 2 ^ 32 ≤ c.in_ok-read_number.field-0 = omega (arith, c.in-Err.ensures) in
    let not_small : nat_lt c.in_ok-read_number.field-0 (2 ^ 32) ≡ false = le-ltb c.in_ok-read_number.field-0 (2 ^ 32) large in
    rw (c.in_ok-read_number.ensures, not_small) refl
