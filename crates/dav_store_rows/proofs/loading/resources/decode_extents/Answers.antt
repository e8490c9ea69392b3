use Rattle.std.proofs.Common.{◌≡◌, ◌+◌, w64, of_z, Vec, ◌++◌, map, drop, sym, ap, subst, ◌∙◌, arith}
use Rattle.std.specs.declared.alloc.Global.{Global}
use Rattle.std.proofs.lemmas.Option.{same_Some}
use Rattle.dav_pieces.specs.declared.piece.Piece.{Piece}
use Rattle.dav_wire.specs.Codec.{decode}
use Rattle.dav_cells.specs.Pieces.{pieces_codec}
use Rattle.dav_rows.specs.Changes.{extent_entry}
use Rattle.dav_store_rows.specs.LoadErrors.{from_cell}
use Rattle.dav_store_rows.proofs.Decoding.{GroupsLeft, groups-first, groups-at, groups-last, drop-end, passed, stops, only-memory}
use Rattle.dav_store_rows.proofs.loading.resources.decode_extents.Goals as goal

pub rows-init : goal.rows-init
rows-init c pieces (n, number, are) =
    subst (λ done. GroupsLeft n (map extent_entry c.args.rows.now) done pieces) (sym c.new-pieces.ensures.items)
    (groups-first n (map extent_entry c.args.rows.now) pieces are)

pub returns-then-row-number : goal.returns-then-row-number
returns-then-row-number c pieces (n, number, are) =
    let left = c.rows.invariant pieces (n, passed c.args.number n c.ranges.number number, are) in
    let next = groups-at n c.args.rows.now c.rows.row-index c.row-item.result c.rows.pieces.items pieces c.rows-test.true c.row-item.is left in
    absurd (c.if-row-number.true (ap (of_z w64) (next.resource ∙ sym number)))

pub returns-in_err-decode_pieces : goal.returns-in_err-decode_pieces
returns-in_err-decode_pieces c pieces (n, number, are) =
    let left = c.rows.invariant pieces (n, passed c.args.number n c.ranges.number number, are) in
    let next = groups-at n c.args.rows.now c.rows.row-index c.row-item.result c.rows.pieces.items pieces c.rows-test.true c.row-item.is left in
    let error = c.in_err-decode_pieces.field-0.0 in
    stops (λ (all : Vec Piece Global). all.items ≡ pieces) c.from_residual.result (from_cell error) c.from_residual.ensures.1
    (only-memory pieces_codec c.deref.result.now next.group error (ap (decode pieces_codec) c.deref.ensures.value ∙ next.decoded) c.in_err-decode_pieces.ensures.cause)

pub rows-preserved : goal.rows-preserved
rows-preserved c pieces have =
    let next = groups-at have.0 c.args.rows.now c.rows.row-index c.row-item.result c.rows.pieces.items pieces c.rows-test.true c.row-item.is (c.rows.invariant pieces have) in
    let more = c.in_ok-decode_pieces.ensures.ok in
    let same = same_Some more.values next.group (sym more.decoded ∙ ap (decode pieces_codec) c.deref.ensures.value ∙ next.decoded) in
    subst (λ done. GroupsLeft have.0 (map extent_entry (drop (c.rows.row-index + 1) c.args.rows.now)) done pieces)
    (sym (more.is ∙ ap (λ group. c.rows.pieces.items ++ group) same)) next.after

pub returns : goal.returns
returns c pieces (n, number, are) =
    let left = c.rows.invariant pieces (n, passed c.args.number n c.ranges.number number, are) in
    c.shrink_to_fit.ensures.items ∙ groups-last n c.rows.pieces.items pieces
    (subst (λ rs. GroupsLeft n (map extent_entry rs) c.rows.pieces.items pieces) (drop-end c.args.rows.now c.rows.row-index (omega arith)) left)
