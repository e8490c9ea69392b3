use Rattle.std.proofs.Common.{refl}
use Rattle.dav_wire.specs.Numbers.{number}
use Rattle.dav_wire.specs.Values.{utf8_text}
use Rattle.dav_wire.specs.Frames.{modified}
use Rattle.dav_wire.specs.Views.{modified_frame_of}
use Rattle.dav_wire.proofs.ReadLemmas.{stops}
use Rattle.dav_wire.proofs.reader.Reader.read_modified.Goals as goal

pub returns-in_err-path : goal.returns-in_err-path
unfolding modified
returns-in_err-path c =
    stops utf8_text modified modified_frame_of c.args.self.now c.args.self.now _ c.from_residual.result c.in_err-path.field-0.0 c.from_residual.ensures.1
    (λ none. rw none refl) c.in_err-path.ensures

pub returns-in_err-time : goal.returns-in_err-time
unfolding modified
returns-in_err-time c =
    stops number modified modified_frame_of c.args.self.now c.read_str.new.self _ c.from_residual-in_err-time.result c.in_err-time.field-0.0 c.from_residual-in_err-time.ensures.1
    (λ none. rw (c.in_ok-path.ensures, none) refl) c.in_err-time.ensures

pub returns : goal.returns
unfolding modified
returns c = rw (c.in_ok-path.ensures, c.in_ok-time.ensures) refl
