use Rattle.std.proofs.Common.{map, arith}
use Rattle.std.proofs.lemmas.List.{map-append}
use Rattle.dav_wire.specs.Numbers.{number}
use Rattle.dav_wire.specs.Values.{text}
use Rattle.dav_wire.specs.Batches.{batch}
use Rattle.dav_wire.proofs.ListLemmas.{list_begin-fails, list_more, list_fail, list_end}
use Rattle.dav_wire.proofs.ReadLemmas.{may_allocate, stops_allocating}
use Rattle.dav_wire.proofs.reader.Reader.read_batch.Goals as goal

pub returns-in_err-left : goal.returns-in_err-left
unfolding batch
returns-in_err-left c =
    stops_allocating number batch (λ v. map (λ s. s.now) v.items) c.args.self.now c.args.self.now _ c.from_residual.result c.in_err-left.field-0.0 c.from_residual.ensures.1
    (list_begin-fails text c.args.self.now) (may_allocate number c.args.self.now _ c.in_err-left.ensures)

pub returns-in_err-frame : goal.returns-in_err-frame
unfolding batch
returns-in_err-frame c =
    stops_allocating text batch (λ v. map (λ s. s.now) v.items) c.args.self.now c.loop-left.self _ c.from_residual-in_err-frame.result c.in_err-frame.field-0.0 c.from_residual-in_err-frame.ensures.1
    (list_fail text _ _ _ _ c.loop-left.invariant c.loop-left-test.true) (may_allocate text c.loop-left.self _ c.in_err-frame.ensures)

pub loop-left-preserved : goal.loop-left-preserved
loop-left-preserved c =
    rw (c.in_ok-push.ensures.items, map-append)
    (list_more text _ _ _ _ _ _ c.loop-left.invariant c.loop-left-test.true c.in_ok-frame.ensures)

pub returns : goal.returns
unfolding batch
returns c = list_end text _ _ _ _ c.loop-left.invariant (omega arith)
