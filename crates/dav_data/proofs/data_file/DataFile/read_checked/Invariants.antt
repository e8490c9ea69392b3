use Rattle.std.proofs.Common.{◌≡◌, true, take, length}
use Rattle.dav_pieces.specs.Pieces.{bytes_of}
use Rattle.dav_data.specs.Digests.{AreChecked}
use Rattle.dav_data.specs.Data.{data_of, is_honest, Keeps}
use Rattle.dav_data.proofs.data_file.DataFile.read_checked.Given as goal

-- what was found are the bytes of the pieces so far
abbrev pub invariant-loop-piece : goal.invariant-loop-piece
invariant-loop-piece g l = record {
  kept : Keeps l.fn.self l.self;
  same : data_of l.self ≡ data_of l.fn.self;
  honest : is_honest l.self ≡ true → is_honest l.fn.self ≡ true;
  bytes : is_honest l.self ≡ true → l.found.items ≡ bytes_of (data_of l.fn.self) (take l.piece-index l.piece-items);
  count : length l.found.items ≡ length (bytes_of (data_of l.fn.self) (take l.piece-index l.piece-items));
  checked : AreChecked l.fn.self.key (take l.piece-index l.piece-items) l.found.items;
}
