use Rattle.std.proofs.Common.{refl}
use Rattle.std.proofs.lemmas.Bool.{and_from}
use Rattle.dav_wire.specs.Values.{utf8_text}
use Rattle.dav_wire.specs.Trees.{attribute}
use Rattle.dav_wire.proofs.WriteLemmas.{writes_after}
use Rattle.dav_wire.proofs.writer.Writer.write_attribute.Goals as goal

pub returns : goal.returns
unfolding attribute
returns c =
    writes_after utf8_text attribute c.args.value.now (c.args.key.now, c.args.value.now) c.args.self.now c.write_str.new.self c.write_str-2.new.self (utf8_text.encode c.args.key.now) c.write_str-2.result
    c.in_ok-write_str.ensures.is
    (λ ok. and_from (utf8_text.is_valid c.args.key.now) (utf8_text.is_valid c.args.value.now) c.in_ok-write_str.ensures.valid ok)
    refl c.write_str-2.ensures
