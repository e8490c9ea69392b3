use Rattle.std.proofs.Common.{refl}
use Rattle.dav_wire.specs.Values.{text}
use Rattle.dav_wire.specs.Fields.{field}
use Rattle.dav_wire.specs.Views.{field_of}
use Rattle.dav_wire.proofs.ReadLemmas.{stops}
use Rattle.dav_wire.proofs.reader.Reader.read_field.Goals as goal

pub returns-in_err-name : goal.returns-in_err-name
unfolding field
returns-in_err-name c =
    stops text field field_of c.args.self.now c.args.self.now _ c.from_residual.result c.in_err-name.field-0.0 c.from_residual.ensures.1
    (λ none. rw none refl) c.in_err-name.ensures

pub returns-in_err-value : goal.returns-in_err-value
unfolding field
returns-in_err-value c =
    stops text field field_of c.args.self.now c.read_bytes.new.self _ c.from_residual-in_err-value.result c.in_err-value.field-0.0 c.from_residual-in_err-value.ensures.1
    (λ none. rw (c.in_ok-name.ensures, none) refl) c.in_err-value.ensures

pub returns : goal.returns
unfolding field
returns c = rw (c.in_ok-name.ensures, c.in_ok-value.ensures) refl
