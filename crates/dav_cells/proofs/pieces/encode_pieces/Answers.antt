use Rattle.std.proofs.Common.{◌≡◌, ◌∙◌, length, take, [], refl, arith}
use Rattle.std.proofs.lemmas.List.{take_all}
use Rattle.dav_wire.proofs.WriteLemmas.{list_written}
use Rattle.dav_cells.specs.Pieces.{piece_codec, pieces_codec}
use Rattle.dav_cells.proofs.pieces.encode_pieces.Goals as goal

pub returns : goal.returns
unfolding pieces_codec
returns c =
    let xs = c.args.pieces.now in
    let all : take c.loop-piece.piece-index xs ≡ xs = take_all c.loop-piece.piece-index xs (omega arith) in
    let written = list_written piece_codec xs (length xs) [] c.write_number.new.self c.loop-piece.writer refl
    (rw c.new-writer.ensures at c.in_ok-write_number.ensures) (rw all at c.loop-piece.invariant) in
    record { valid = written.valid; is = c.into_bytes.ensures ∙ written.is }
