use Rattle.std.proofs.Common.{refl}
use Rattle.dav_wire.specs.Combine.{pair}
use Rattle.dav_wire.specs.Numbers.{number}
use Rattle.dav_wire.specs.Values.{text}
use Rattle.dav_wire.specs.Frames.{add}
use Rattle.dav_wire.proofs.WriteLemmas.{writes_as, writes_pair}
use Rattle.dav_wire.proofs.writer.Writer.write_addition.Goals as goal

pub returns : goal.returns
unfolding add
returns c =
    writes_as (pair number text) add (c.args.number, c.args.bytes.now) (c.args.number, c.args.bytes.now) c.args.self.now c.write_bytes.new.self c.write_bytes.result (λ ok. ok) refl
    (writes_pair number text c.args.number c.args.bytes.now c.args.self.now c.write_number.new.self c.write_bytes.new.self c.write_bytes.result c.in_ok-write_number.ensures
    c.write_bytes.ensures)
