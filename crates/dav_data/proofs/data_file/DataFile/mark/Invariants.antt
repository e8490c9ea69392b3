use Rattle.std.proofs.Common.{◌≡◌, true, take}
use Rattle.dav_data.specs.Runs.{blocks_pass}
use Rattle.dav_data.specs.Data.{is_held, is_spared, SparesMore, Keeps}
use Rattle.dav_data.proofs.data_file.DataFile.mark.Given as goal

-- the blocks so far are spared
abbrev pub invariant-loop-piece : goal.invariant-loop-piece
invariant-loop-piece g l = record {
  kept : Keeps l.fn.self l.self;
  more : SparesMore l.fn.self l.self;
  spared : is_held l.fn.self l.body ≡ true → blocks_pass (is_spared l.self) (take l.piece-index l.body) ≡ true;
}
