use Rattle.std.proofs.Common.{sym, ◌^◌, arith}
use Rattle.std.proofs.lemmas.Bool.{lt-ltb}
use Rattle.dav_wire.specs.Numbers.{number}
use Rattle.dav_wire.proofs.WriteLemmas.{writes_plain}
use Rattle.dav_wire.proofs.writer.Writer.write_number.Goals as goal

pub returns : goal.returns
unfolding number
returns c =
    writes_plain number c.args.value c.args.self.now c.append.new.self c.to_be_bytes.result c.append.result
    (lt-ltb c.args.value (256 ^ 8) (omega arith)) (sym c.to_be_bytes.ensures) c.append.ensures.ok c.append.ensures.err
