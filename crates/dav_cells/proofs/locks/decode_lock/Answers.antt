use Rattle.std.proofs.Common.{◌≡◌, ◌∙◌, [], ap, sym, true, false}
use Rattle.dav_wire.specs.Codec.{whole}
use Rattle.dav_cells.proofs.Exits.{not_whole}
use Rattle.dav_cells.proofs.locks.decode_lock.Goals as goal

pub returns-else-is_at_end : goal.returns-else-is_at_end
returns-else-is_at_end c =
    ap whole (rw c.new-reader.ensures at c.in_ok-lock.ensures)
    ∙ not_whole _ _ (λ none. let at_end : true ≡ false = sym (c.is_at_end.ensures.1 none) ∙ c.if-is_at_end.false in absurd cc)
