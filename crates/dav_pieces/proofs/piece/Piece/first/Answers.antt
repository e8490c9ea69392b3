use Rattle.std.proofs.Common.{◌+◌, sym}
use Rattle.std.proofs.lemmas.List.{take-replicate}
use Rattle.dav_pieces.proofs.RunBytes.{take-bytes_at}
use Rattle.dav_pieces.proofs.piece.Piece.first.Goals as goal

pub returns-in-Part-clause-bytes : goal.returns-in-Part-clause-bytes
returns-in-Part-clause-bytes c =
    let fits = rw c.in-Part.is at c.requires in
    λ file. rw c.in-Part.is (sym (take-bytes_at file (c.in-Part.block.at + c.in-Part.from) c.in-Part.len c.args.n fits))

pub returns-in-Zeros-clause-bytes : goal.returns-in-Zeros-clause-bytes
returns-in-Zeros-clause-bytes c =
    let fits = rw c.in-Zeros.is at c.requires in
    λ file. rw c.in-Zeros.is (sym (take-replicate c.args.n c.in-Zeros.field-0 0 fits))
