use Rattle.std.proofs.Common.{refl}
use Rattle.dav_wire.specs.Combine.{pair}
use Rattle.dav_wire.specs.Values.{text}
use Rattle.dav_wire.specs.Fields.{field}
use Rattle.dav_wire.proofs.WriteLemmas.{writes_as, writes_pair}
use Rattle.dav_wire.proofs.writer.Writer.write_field.Goals as goal

pub returns : goal.returns
unfolding field
returns c =
    writes_as (pair text text) field (c.args.name.now, c.args.value.now) (c.args.name.now, c.args.value.now) c.args.self.now c.write_bytes-2.new.self c.write_bytes-2.result
    (λ ok. ok) refl
    (writes_pair text text c.args.name.now c.args.value.now c.args.self.now c.write_bytes.new.self c.write_bytes-2.new.self c.write_bytes-2.result
    c.in_ok-write_bytes.ensures c.write_bytes-2.ensures)
