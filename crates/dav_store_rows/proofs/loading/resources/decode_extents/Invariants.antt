use Rattle.std.proofs.Common.{List, map, drop}
use Rattle.dav_pieces.specs.declared.piece.Piece.{Piece}
use Rattle.dav_rows.specs.Changes.{extent_entry}
use Rattle.dav_store_rows.specs.Loads.{HavePieces}
use Rattle.dav_store_rows.proofs.Decoding.{GroupsLeft}
use Rattle.dav_store_rows.proofs.loading.resources.decode_extents.Given as goal

abbrev pub invariant-rows : goal.invariant-rows
invariant-rows l =
    (pieces : List Piece) (have : HavePieces l.number l.rows pieces)
    → GroupsLeft have.0 (map extent_entry (drop l.row-index l.rows)) l.pieces.items pieces
