use Rattle.std.proofs.Common.{◌∙◌, ◌-◌, length, ap, sym, arith}
use Rattle.dav_pieces.specs.Pieces.{block_ended, last_block}
use Rattle.dav_pieces.proofs.Growing.{last-is}
use Rattle.dav_pieces.proofs.body.Body.last_block.Goals as goal

pub returns-in-Some : goal.returns-in-Some
returns-in-Some c =
    let xs = c.deref.result.now in
    let some = c.in-Some.ensures.item.3.0 in
    c.block_ended.ensures ∙ ap block_ended c.in-Some.ensures.item.1
    ∙ sym (last-is xs (length xs - 1) c.in-Some.piece.now (omega arith))
    ∙ ap last_block (c.deref.ensures.value ∙ c.self.view_is)
