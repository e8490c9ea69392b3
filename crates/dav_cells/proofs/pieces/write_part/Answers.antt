use Rattle.std.proofs.Common.{refl, ℕ}
use Rattle.dav_pieces.specs.declared.piece.Block.{Block}
use Rattle.dav_wire.specs.Combine.{pair}
use Rattle.dav_wire.proofs.WriteLemmas.{writes_as, writes_pair}
use Rattle.dav_cells.specs.Pieces.{small_number, block_codec, part_codec}
use Rattle.dav_cells.proofs.pieces.write_part.Goals as goal

pub returns : goal.returns
unfolding part_codec
returns c =
    let part : Block × (ℕ × ℕ) = (c.args.block, (c.args.from, c.args.len)) in
    let r = c.write_small_number-2.result in
    let new = c.write_small_number-2.new.writer in
    let rest = writes_pair small_number small_number c.args.from c.args.len c.write_block.new.writer c.write_small_number.new.writer new r
    c.in_ok-write_small_number.ensures c.write_small_number-2.ensures in
    let whole = writes_pair block_codec (pair small_number small_number) c.args.block (c.args.from, c.args.len) c.args.writer.now c.write_block.new.writer new r
    c.in_ok-write_block.ensures rest in
    writes_as (pair block_codec (pair small_number small_number)) part_codec part part c.args.writer.now new r (λ ok. ok) refl whole
