use Rattle.std.proofs.Common.{refl}
use Rattle.dav_wire.specs.Numbers.{number}
use Rattle.dav_wire.specs.Values.{text}
use Rattle.dav_wire.specs.Frames.{add}
use Rattle.dav_wire.specs.Views.{addition_of}
use Rattle.dav_wire.proofs.ReadLemmas.{stops}
use Rattle.dav_wire.proofs.reader.Reader.read_addition.Goals as goal

pub returns-in_err-number : goal.returns-in_err-number
unfolding add
returns-in_err-number c =
    stops number add addition_of c.args.self.now c.args.self.now _ c.from_residual.result c.in_err-number.field-0.0 c.from_residual.ensures.1
    (λ none. rw none refl) c.in_err-number.ensures

pub returns-in_err-bytes : goal.returns-in_err-bytes
unfolding add
returns-in_err-bytes c =
    stops text add addition_of c.args.self.now c.read_number.new.self _ c.from_residual-in_err-bytes.result c.in_err-bytes.field-0.0 c.from_residual-in_err-bytes.ensures.1
    (λ none. rw (c.in_ok-number.ensures, none) refl) c.in_err-bytes.ensures

pub returns : goal.returns
unfolding add
returns c = rw (c.in_ok-number.ensures, c.in_ok-bytes.ensures) refl
