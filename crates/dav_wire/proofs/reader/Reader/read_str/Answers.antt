use Rattle.std.proofs.Common.{refl}
use Rattle.dav_wire.specs.Values.{text, utf8_text}
use Rattle.dav_wire.proofs.ReadLemmas.{fails_because, exit, is_utf8-of_other}
use Rattle.std.proofs.lemmas.Str.{is_utf8-from_IsUtf8}
use Rattle.dav_wire.proofs.reader.Reader.read_str.Goals as goal

pub returns-in_err-bytes : goal.returns-in_err-bytes
unfolding utf8_text
returns-in_err-bytes c =
    exit utf8_text (λ x. x.now) _ _ c.from_residual.result _ c.from_residual.ensures.1
    (fails_because text utf8_text _ _ c.in_err-bytes.field-0.0 (λ none. rw none refl) c.in_err-bytes.ensures)

pub returns-in-Ok : goal.returns-in-Ok
unfolding utf8_text
returns-in-Ok c =
    let is = is_utf8-from_IsUtf8 c.in_ok-bytes.bytes.now c.in-Ok.ensures.cases.1 in
    rw (c.in_ok-bytes.ensures, is, c.in-Ok.ensures.cases.0) refl

pub returns-in-Err : goal.returns-in-Err
unfolding utf8_text
returns-in-Err c =
    let is = is_utf8-of_other c.in_ok-bytes.bytes.now c.in-Err.ensures.cases.0 in
    rw (c.in_ok-bytes.ensures, is) refl
