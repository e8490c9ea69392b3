use Rattle.dav_pieces.proofs.Growing.{grown-part}
use Rattle.dav_pieces.proofs.piece.Piece.grown.Goals as goal

pub returns-in-Part-clause-bytes : goal.returns-in-Part-clause-bytes
returns-in-Part-clause-bytes c =
    let grows = rw c.in-Part.is at c.requires in
    λ file. rw c.in-Part.is (grown-part c.in-Part.block c.args.grown c.in-Part.from c.in-Part.len grows file)
