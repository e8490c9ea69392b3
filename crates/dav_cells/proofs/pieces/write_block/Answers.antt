use Rattle.std.proofs.Common.{refl}
use Rattle.dav_wire.specs.Combine.{pair}
use Rattle.dav_wire.specs.Numbers.{number}
use Rattle.dav_wire.proofs.WriteLemmas.{writes_as, writes_pair}
use Rattle.dav_cells.specs.Pieces.{small_number, block_codec, parts_of_block}
use Rattle.dav_cells.proofs.pieces.write_block.Goals as goal

pub returns : goal.returns
unfolding block_codec
returns c =
    let b = c.args.block in
    let r = c.write_number-2.result in
    let new = c.write_number-2.new.self in
    let rest = writes_pair small_number number b.size b.digest c.write_number.new.self c.write_small_number.new.writer new r
    c.in_ok-write_small_number.ensures c.write_number-2.ensures in
    let whole = writes_pair number (pair small_number number) b.at (b.size, b.digest) c.args.writer.now c.write_number.new.self new r
    c.in_ok-write_number.ensures rest in
    writes_as (pair number (pair small_number number)) block_codec (parts_of_block b) b c.args.writer.now new r (λ ok. ok) refl whole
