use Rattle.std.proofs.Common.{refl, length}
use Rattle.dav_wire.specs.Numbers.{number}
use Rattle.dav_wire.specs.Values.{text}
use Rattle.dav_wire.proofs.WriteLemmas.{writes_plain_after, text_valid}
use Rattle.dav_wire.proofs.writer.Writer.write_bytes.Goals as goal

pub returns : goal.returns
unfolding text
returns c =
    writes_plain_after text c.args.bytes.now c.args.self.now c.write_number.new.self c.append.new.self (number.encode (length c.args.bytes.now)) c.args.bytes.now c.append.result
    (text_valid c.args.bytes.now c.in_ok-write_number.ensures.valid) c.in_ok-write_number.ensures.is refl c.append.ensures.ok c.append.ensures.err
