use Rattle.std.proofs.Common.{◌∙◌}
use Rattle.dav_cells.proofs.PathCells.{path_written}
use Rattle.dav_cells.proofs.paths.write_path.Goals as goal

pub returns : goal.returns
returns c =
    path_written c.args.path.now c.args.writer.now c.write_flag.new.self c.write_flag-2.new.self c.write_key.new.writer c.write_key-2.new.writer c.write_key-2.result
    (λ star. c.is_star.ensures.star (c.is_star.ensures.value ∙ star))
    (rw c.is_star.ensures.value at c.in_ok-write_flag.ensures)
    (rw c.is_collection.ensures at c.in_ok-write_flag-2.ensures)
    (rw c.prefix.ensures.value at c.in_ok-write_key.ensures)
    (rw c.key.ensures.value at c.write_key-2.ensures)
