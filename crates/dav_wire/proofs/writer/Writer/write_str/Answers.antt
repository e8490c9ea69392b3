use Rattle.std.proofs.Common.{refl}
use Rattle.std.specs.Str.{is_utf8}
use Rattle.std.proofs.lemmas.Str.{is_utf8-from_IsUtf8}
use Rattle.std.proofs.lemmas.Bool.{and_from}
use Rattle.dav_wire.specs.Values.{text, utf8_text}
use Rattle.dav_wire.proofs.WriteLemmas.{writes_as}
use Rattle.dav_wire.proofs.writer.Writer.write_str.Goals as goal

pub returns : goal.returns
unfolding utf8_text
returns c =
    writes_as text utf8_text c.args.text.now c.args.text.now c.args.self.now c.write_bytes.new.self c.write_bytes.result
    (λ ok. and_from (text.is_valid c.args.text.now) (is_utf8 c.args.text.now) ok (is_utf8-from_IsUtf8 c.args.text.now c.utf8.text)) refl (rw c.as_bytes.ensures.value at c.write_bytes.ensures)
