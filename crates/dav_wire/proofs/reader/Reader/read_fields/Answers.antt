use Rattle.std.proofs.Common.{map, arith}
use Rattle.std.proofs.lemmas.List.{map-append}
use Rattle.dav_wire.specs.Numbers.{number}
use Rattle.dav_wire.specs.Fields.{field, fields}
use Rattle.dav_wire.specs.Views.{field_of}
use Rattle.dav_wire.proofs.ListLemmas.{list_begin-fails, list_more, list_fail, list_end}
use Rattle.dav_wire.proofs.ReadLemmas.{may_allocate, stops_allocating}
use Rattle.dav_wire.proofs.reader.Reader.read_fields.Goals as goal

pub returns-in_err-left : goal.returns-in_err-left
unfolding fields
returns-in_err-left c =
    stops_allocating number fields (λ v. map field_of v.items) c.args.self.now c.args.self.now _ c.from_residual.result c.in_err-left.field-0.0 c.from_residual.ensures.1
    (list_begin-fails field c.args.self.now) (may_allocate number c.args.self.now _ c.in_err-left.ensures)

pub returns-in_err-field : goal.returns-in_err-field
unfolding fields
returns-in_err-field c =
    stops_allocating field fields (λ v. map field_of v.items) c.args.self.now c.loop-left.self _ c.from_residual-in_err-field.result c.in_err-field.field-0.0 c.from_residual-in_err-field.ensures.1
    (list_fail field _ _ _ _ c.loop-left.invariant c.loop-left-test.true) (may_allocate field c.loop-left.self _ c.in_err-field.ensures)

pub loop-left-preserved : goal.loop-left-preserved
loop-left-preserved c =
    rw (c.in_ok-push.ensures.items, map-append)
    (list_more field _ _ _ _ _ _ c.loop-left.invariant c.loop-left-test.true c.in_ok-field.ensures)

pub returns : goal.returns
unfolding fields
returns c = list_end field _ _ _ _ c.loop-left.invariant (omega arith)
