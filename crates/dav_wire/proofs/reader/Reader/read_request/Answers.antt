use Rattle.std.proofs.Common.{refl}
use Rattle.dav_wire.specs.Values.{text, utf8_text, optional}
use Rattle.dav_wire.specs.Fields.{fields}
use Rattle.dav_wire.specs.Bodies.{request_body}
use Rattle.dav_wire.specs.Frames.{request}
use Rattle.dav_wire.specs.Views.{request_frame_of}
use Rattle.dav_wire.proofs.ReadLemmas.{may_allocate, stops_allocating}
use Rattle.dav_wire.proofs.reader.Reader.read_request.Goals as goal

pub returns-in_err-method : goal.returns-in_err-method
unfolding request
returns-in_err-method c =
    stops_allocating text request request_frame_of c.args.self.now c.args.self.now _ c.from_residual.result c.in_err-method.field-0.0 c.from_residual.ensures.1
    (λ none. rw none refl) (may_allocate text c.args.self.now _ c.in_err-method.ensures)

pub returns-in_err-path : goal.returns-in_err-path
unfolding request
returns-in_err-path c =
    stops_allocating utf8_text request request_frame_of c.args.self.now c.read_bytes.new.self _ c.from_residual-in_err-path.result c.in_err-path.field-0.0 c.from_residual-in_err-path.ensures.1
    (λ none. rw (c.in_ok-method.ensures, none) refl) (may_allocate utf8_text c.read_bytes.new.self _ c.in_err-path.ensures)

pub returns-in_err-principal : goal.returns-in_err-principal
unfolding request
returns-in_err-principal c =
    stops_allocating (optional utf8_text) request request_frame_of c.args.self.now c.read_str.new.self _ c.from_residual-in_err-principal.result c.in_err-principal.field-0.0 c.from_residual-in_err-principal.ensures.1
    (λ none. rw (c.in_ok-method.ensures, c.in_ok-path.ensures, none) refl) (may_allocate (optional utf8_text) c.read_str.new.self _ c.in_err-principal.ensures)

pub returns-in_err-token : goal.returns-in_err-token
unfolding request
returns-in_err-token c =
    stops_allocating utf8_text request request_frame_of c.args.self.now c.read_optional_str.new.self _ c.from_residual-in_err-token.result c.in_err-token.field-0.0 c.from_residual-in_err-token.ensures.1
    (λ none. rw (c.in_ok-method.ensures, c.in_ok-path.ensures, c.in_ok-principal.ensures, none) refl) (may_allocate utf8_text c.read_optional_str.new.self _ c.in_err-token.ensures)

pub returns-in_err-fields : goal.returns-in_err-fields
unfolding request
returns-in_err-fields c =
    stops_allocating fields request request_frame_of c.args.self.now c.read_str-2.new.self _ c.from_residual-in_err-fields.result c.in_err-fields.field-0.0 c.from_residual-in_err-fields.ensures.1
    (λ none. rw (c.in_ok-method.ensures, c.in_ok-path.ensures, c.in_ok-principal.ensures, c.in_ok-token.ensures, none) refl) c.in_err-fields.ensures

pub returns-in_err-body : goal.returns-in_err-body
unfolding request
returns-in_err-body c =
    stops_allocating request_body request request_frame_of c.args.self.now c.read_fields.new.self _ c.from_residual-in_err-body.result c.in_err-body.field-0.0 c.from_residual-in_err-body.ensures.1
    (λ none. rw (c.in_ok-method.ensures, c.in_ok-path.ensures, c.in_ok-principal.ensures, c.in_ok-token.ensures, c.in_ok-fields.ensures, none) refl) c.in_err-body.ensures

pub returns : goal.returns
unfolding request
returns c = rw (c.in_ok-method.ensures, c.in_ok-path.ensures, c.in_ok-principal.ensures, c.in_ok-token.ensures, c.in_ok-fields.ensures, c.in_ok-body.ensures) refl
