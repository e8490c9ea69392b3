use Rattle.std.proofs.Common.{◌≡◌, ◌++◌, true, length}
use Rattle.std.specs.Prelude.{IfSome}
use Rattle.dav_pieces.specs.Pieces.{bytes_of}
use Rattle.dav_data.specs.Runs.{blocks_pass}
use Rattle.dav_data.specs.Digests.{IsHashed, are_right}
use Rattle.dav_data.specs.Data.{data_of, in_use, Keeps}
use Rattle.dav_data.proofs.data_file.DataFile.add.Given as goal

-- the blocks so far have the bytes before the rest
abbrev pub invariant-rest : goal.invariant-rest
invariant-rest g l = record {
  kept : Keeps l.fn.self l.self;
  same : bytes_of (data_of l.self) l.pieces.items ++ l.rest ≡ l.bytes;
  sound : blocks_pass (in_use l.self) l.pieces.items ≡ true;
  right : are_right l.self.key (data_of l.self) l.pieces.items ≡ true;
  last : IfSome l.last (IsHashed l.self.key (data_of l.self) (in_use l.self));
}

abbrev pub decreases-rest : goal.decreases-rest
decreases-rest g l = length l.rest
