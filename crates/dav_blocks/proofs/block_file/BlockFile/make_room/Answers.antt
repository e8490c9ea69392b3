use Rattle.std.proofs.Common.{refl, arith}
use Rattle.dav_blocks.specs.Blocks.{ReservesRoom}
use Rattle.dav_blocks.proofs.Keeping.{in-use-kept}
use Rattle.dav_blocks.proofs.block_file.BlockFile.make_room.Goals as goal

pub returns-clause-kept : goal.returns-clause-kept
returns-clause-kept g c = record {
  used = λ at n used. in-use-kept _ _ _ _ at n (omega arith) c.make_room.ensures.kept used;
  same = λ at n used. refl;
  safe = λ at n safe. safe;
}

pub returns-clause-made : goal.returns-clause-made
unfolding ReservesRoom
returns-clause-made g c = c.make_room.ensures.made
