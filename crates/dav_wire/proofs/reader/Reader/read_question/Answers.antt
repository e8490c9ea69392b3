use Rattle.std.proofs.Common.{refl}
use Rattle.dav_wire.specs.Values.{utf8_text, optional}
use Rattle.dav_wire.specs.Frames.{explain}
use Rattle.dav_wire.specs.Views.{explain_frame_of}
use Rattle.dav_wire.proofs.ReadLemmas.{stops}
use Rattle.dav_wire.proofs.reader.Reader.read_question.Goals as goal

pub returns-in_err-principal : goal.returns-in_err-principal
unfolding explain
returns-in_err-principal c =
    stops (optional utf8_text) explain explain_frame_of c.args.self.now c.args.self.now _ c.from_residual.result c.in_err-principal.field-0.0 c.from_residual.ensures.1
    (λ none. rw none refl) c.in_err-principal.ensures

pub returns-in_err-path : goal.returns-in_err-path
unfolding explain
returns-in_err-path c =
    stops utf8_text explain explain_frame_of c.args.self.now c.read_optional_str.new.self _ c.from_residual-in_err-path.result c.in_err-path.field-0.0 c.from_residual-in_err-path.ensures.1
    (λ none. rw (c.in_ok-principal.ensures, none) refl) c.in_err-path.ensures

pub returns : goal.returns
unfolding explain
returns c = rw (c.in_ok-principal.ensures, c.in_ok-path.ensures) refl
