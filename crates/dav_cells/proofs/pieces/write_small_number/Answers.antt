use Rattle.std.proofs.Common.{◌^◌, nat_lt, refl, arith}
use Rattle.std.proofs.lemmas.Bool.{and_from, lt-ltb}
use Rattle.dav_wire.specs.Numbers.{number}
use Rattle.dav_wire.proofs.WriteLemmas.{writes_as}
use Rattle.dav_cells.specs.Pieces.{small_number}
use Rattle.dav_cells.proofs.pieces.write_small_number.Goals as goal

pub returns : goal.returns
unfolding small_number
returns c =
    let n = c.args.value in
    writes_as number small_number n n c.args.writer.now c.write_number.new.self c.write_number.result
    (λ ok. and_from (number.is_valid n) (nat_lt n (2 ^ 32)) ok (lt-ltb n (2 ^ 32) (omega arith))) refl (rw c.from.ensures at c.write_number.ensures)
