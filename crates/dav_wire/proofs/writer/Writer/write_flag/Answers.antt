use Rattle.std.proofs.Common.{true, false, refl}
use Rattle.dav_wire.specs.Numbers.{byte}
use Rattle.dav_wire.specs.Values.{flag}
use Rattle.dav_wire.proofs.WriteLemmas.{writes_as}
use Rattle.dav_wire.proofs.writer.Writer.write_flag.Goals as goal

pub returns-then-value : goal.returns-then-value
unfolding flag
returns-then-value c =
    rw c.if-value.true
    (writes_as byte flag 1 true c.args.self.now c.write_u8.new.self c.write_u8.result (λ ok. refl) refl c.write_u8.ensures)

pub returns-else-value : goal.returns-else-value
unfolding flag
returns-else-value c =
    rw c.if-value.false
    (writes_as byte flag 0 false c.args.self.now c.write_u8-else-value.new.self c.write_u8-else-value.result (λ ok. refl) refl c.write_u8-else-value.ensures)
