use Rattle.std.proofs.Common.{arith}
use Rattle.dav_wire.specs.Numbers.{number}
use Rattle.dav_wire.proofs.ListLemmas.{list_begin-fails, list_fail, list_end}
use Rattle.dav_wire.proofs.ReadLemmas.{may_allocate, stops_allocating}
use Rattle.dav_cells.specs.Paths.{segment_codec, key_codec}
use Rattle.dav_cells.proofs.KeyLemmas.{key_read_begin, key_read_more}
use Rattle.dav_cells.proofs.paths.read_key.Goals as goal

pub returns-in_err-left-clause-read : goal.returns-in_err-left-clause-read
unfolding key_codec
returns-in_err-left-clause-read c =
    stops_allocating number key_codec (λ key. key) c.args.reader.now c.args.reader.now _ c.from_residual.result c.in_err-left.field-0.0 c.from_residual.ensures.1
    (list_begin-fails segment_codec c.args.reader.now) (may_allocate number c.args.reader.now _ c.in_err-left.ensures)

pub returns-in_err-segment-clause-read : goal.returns-in_err-segment-clause-read
unfolding key_codec
returns-in_err-segment-clause-read c =
    stops_allocating segment_codec key_codec (λ key. key) c.args.reader.now c.loop-left.reader _ c.from_residual-in_err-segment.result c.in_err-segment.field-0.0 c.from_residual-in_err-segment.ensures.1
    (list_fail segment_codec _ _ _ _ c.loop-left.invariant.so_far c.loop-left-test.true) (may_allocate segment_codec c.loop-left.reader _ c.in_err-segment.ensures.read)

pub loop-left-init : goal.loop-left-init
loop-left-init c = rw c.new-key.ensures (key_read_begin _ _ _ c.in_ok-left.ensures)

pub loop-left-preserved : goal.loop-left-preserved
loop-left-preserved c =
    rw c.in_ok-push.ensures.ok
    (key_read_more _ _ _ _ _ _ c.loop-left.invariant c.loop-left-test.true c.in_ok-segment.ensures.read c.in_ok-segment.ensures.segment)

pub returns-clause-read : goal.returns-clause-read
unfolding key_codec
returns-clause-read c =
    rw c.in_ok-finish.ensures (list_end segment_codec _ _ _ _ c.loop-left.invariant.so_far (omega arith))
