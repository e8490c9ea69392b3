use Rattle.std.proofs.Common.{◌≡◌, ◌+◌, take}
use Rattle.dav_pieces.specs.Pieces.{size_of}
use Rattle.dav_store_rows.proofs.saving.groups.first_group.Given as goal

abbrev pub invariant-pieces : goal.invariant-pieces
invariant-pieces l = record {
  count : l.count ≡ l.piece-index;
  end : l.end ≡ l.place + size_of (take l.piece-index l.pieces);
}
