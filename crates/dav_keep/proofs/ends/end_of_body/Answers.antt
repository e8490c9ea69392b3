use Rattle.std.proofs.Common.{subst, arith}
use Rattle.dav_keep.proofs.Reaches.{body_found}
use Rattle.dav_keep.specs.Ends.{ArePiecesBelow, FindsEnd}
use Rattle.dav_keep.proofs.ends.end_of_body.Goals as goal

pub returns : goal.returns
returns c =
    let short = c.if-len-ge-LIMIT.false in
    body_found c.args.body.now c.end_of_pieces.result (omega (arith, short, c.len.ensures)) (subst (λ pieces. FindsEnd (ArePiecesBelow pieces) c.end_of_pieces.result) c.pieces.ensures c.end_of_pieces.ensures)
