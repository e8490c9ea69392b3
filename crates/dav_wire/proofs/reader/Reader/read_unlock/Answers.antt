use Rattle.std.proofs.Common.{refl}
use Rattle.dav_wire.specs.Values.{utf8_text}
use Rattle.dav_wire.specs.Frames.{unlock}
use Rattle.dav_wire.specs.Views.{unlock_frame_of}
use Rattle.dav_wire.proofs.ReadLemmas.{stops}
use Rattle.dav_wire.proofs.reader.Reader.read_unlock.Goals as goal

pub returns-in_err-path : goal.returns-in_err-path
unfolding unlock
returns-in_err-path c =
    stops utf8_text unlock unlock_frame_of c.args.self.now c.args.self.now _ c.from_residual.result c.in_err-path.field-0.0 c.from_residual.ensures.1
    (λ none. rw none refl) c.in_err-path.ensures

pub returns-in_err-token : goal.returns-in_err-token
unfolding unlock
returns-in_err-token c =
    stops utf8_text unlock unlock_frame_of c.args.self.now c.read_str.new.self _ c.from_residual-in_err-token.result c.in_err-token.field-0.0 c.from_residual-in_err-token.ensures.1
    (λ none. rw (c.in_ok-path.ensures, none) refl) c.in_err-token.ensures

pub returns : goal.returns
unfolding unlock
returns c = rw (c.in_ok-path.ensures, c.in_ok-token.ensures) refl
