use Rattle.std.proofs.Common.{refl}
use Rattle.dav_wire.specs.Numbers.{number}
use Rattle.dav_wire.specs.Values.{utf8_text, optional}
use Rattle.dav_wire.specs.Frames.{read}
use Rattle.dav_wire.specs.Views.{read_frame_of}
use Rattle.dav_wire.proofs.ReadLemmas.{stops}
use Rattle.dav_wire.proofs.reader.Reader.read_part.Goals as goal

pub returns-in_err-principal : goal.returns-in_err-principal
unfolding read
returns-in_err-principal c =
    stops (optional utf8_text) read read_frame_of c.args.self.now c.args.self.now _ c.from_residual.result c.in_err-principal.field-0.0 c.from_residual.ensures.1
    (λ none. rw none refl) c.in_err-principal.ensures

pub returns-in_err-path : goal.returns-in_err-path
unfolding read
returns-in_err-path c =
    stops utf8_text read read_frame_of c.args.self.now c.read_optional_str.new.self _ c.from_residual-in_err-path.result c.in_err-path.field-0.0 c.from_residual-in_err-path.ensures.1
    (λ none. rw (c.in_ok-principal.ensures, none) refl) c.in_err-path.ensures

pub returns-in_err-place : goal.returns-in_err-place
unfolding read
returns-in_err-place c =
    stops number read read_frame_of c.args.self.now c.read_str.new.self _ c.from_residual-in_err-place.result c.in_err-place.field-0.0 c.from_residual-in_err-place.ensures.1
    (λ none. rw (c.in_ok-principal.ensures, c.in_ok-path.ensures, none) refl) c.in_err-place.ensures

pub returns-in_err-length : goal.returns-in_err-length
unfolding read
returns-in_err-length c =
    stops number read read_frame_of c.args.self.now c.read_number.new.self _ c.from_residual-in_err-length.result c.in_err-length.field-0.0 c.from_residual-in_err-length.ensures.1
    (λ none. rw (c.in_ok-principal.ensures, c.in_ok-path.ensures, c.in_ok-place.ensures, none) refl) c.in_err-length.ensures

pub returns-in_err-version : goal.returns-in_err-version
unfolding read
returns-in_err-version c =
    stops (optional utf8_text) read read_frame_of c.args.self.now c.read_number-2.new.self _ c.from_residual-in_err-version.result c.in_err-version.field-0.0 c.from_residual-in_err-version.ensures.1
    (λ none. rw (c.in_ok-principal.ensures, c.in_ok-path.ensures, c.in_ok-place.ensures, c.in_ok-length.ensures, none) refl) c.in_err-version.ensures

pub returns : goal.returns
unfolding read
returns c = rw (c.in_ok-principal.ensures, c.in_ok-path.ensures, c.in_ok-place.ensures, c.in_ok-length.ensures, c.in_ok-version.ensures) refl
