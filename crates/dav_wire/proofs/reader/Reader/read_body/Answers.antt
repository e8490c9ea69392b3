use Rattle.std.proofs.Common.{refl, arith, ◌≤◌}
use Rattle.dav_wire.specs.Numbers.{byte, number}
use Rattle.dav_wire.specs.Values.{text}
use Rattle.dav_wire.specs.Trees.{tree}
use Rattle.dav_wire.specs.Bodies.{request_levels, request_body, body_position, body_variants}
use Rattle.dav_wire.proofs.ListLemmas.{unknown_variant}
use Rattle.dav_wire.proofs.NodeLemmas.{is_read}
use Rattle.dav_wire.proofs.ReadLemmas.{may_allocate, stops_allocating}
use Rattle.dav_wire.proofs.reader.Reader.read_body.Goals as goal

pub returns-in_err-read_u8 : goal.returns-in_err-read_u8
unfolding request_body
returns-in_err-read_u8 c =
    stops_allocating byte request_body (λ x. x) c.args.self.now c.args.self.now _ c.from_residual.result c.in_err-read_u8.field-0.0 c.from_residual.ensures.1
    (λ none. rw none refl) (may_allocate byte c.args.self.now _ c.in_err-read_u8.ensures)

pub returns-in_err-read_items-in-1 : goal.returns-in_err-read_items-in-1
unfolding request_body
returns-in_err-read_items-in-1 c =
    stops_allocating text request_body (λ x. x) c.args.self.now c.read_u8.new.self _ c.from_residual-in_err-read_items-in-1.result c.in_err-read_items-in-1.field-0.0 c.from_residual-in_err-read_items-in-1.ensures.1
    (λ none. rw (is_read c.args.self.now _ 1 _ c.in-1.is c.in_ok-read_u8.ensures, none) refl) c.in_err-read_items-in-1.ensures

pub returns-in_ok-read_items-in-1 : goal.returns-in_ok-read_items-in-1
unfolding request_body
returns-in_ok-read_items-in-1 c =
    rw (is_read c.args.self.now _ 1 _ c.in-1.is c.in_ok-read_u8.ensures, c.in_ok-read_items-in-1.ensures) refl

pub returns-in_err-read_body_number-in-2 : goal.returns-in_err-read_body_number-in-2
unfolding request_body
returns-in_err-read_body_number-in-2 c =
    stops_allocating number request_body (λ x. x) c.args.self.now c.read_u8.new.self _ c.from_residual-in_err-read_body_number-in-2.result c.in_err-read_body_number-in-2.field-0.0 c.from_residual-in_err-read_body_number-in-2.ensures.1
    (λ none. rw (is_read c.args.self.now _ 2 _ c.in-2.is c.in_ok-read_u8.ensures, none) refl) (may_allocate number c.read_u8.new.self _ c.in_err-read_body_number-in-2.ensures)

pub returns-in_ok-read_body_number-in-2 : goal.returns-in_ok-read_body_number-in-2
unfolding request_body
returns-in_ok-read_body_number-in-2 c =
    rw (is_read c.args.self.now _ 2 _ c.in-2.is c.in_ok-read_u8.ensures, c.in_ok-read_body_number-in-2.ensures) refl

pub returns-in_err-read_element-in-3 : goal.returns-in_err-read_element-in-3
unfolding request_body
returns-in_err-read_element-in-3 c =
    stops_allocating (tree request_levels) request_body (λ x. x) c.args.self.now c.read_u8.new.self _ c.from_residual-in_err-read_element-in-3.result c.in_err-read_element-in-3.field-0.0 c.from_residual-in_err-read_element-in-3.ensures.1
    (λ none. rw (is_read c.args.self.now _ 3 _ c.in-3.is c.in_ok-read_u8.ensures, none) refl) c.in_err-read_element-in-3.ensures

pub returns-in_ok-read_element-in-3 : goal.returns-in_ok-read_element-in-3
unfolding request_body
returns-in_ok-read_element-in-3 c =
    rw (is_read c.args.self.now _ 3 _ c.in-3.is c.in_ok-read_u8.ensures, c.in_ok-read_element-in-3.ensures) refl

pub returns-in-0 : goal.returns-in-0
unfolding request_body
returns-in-0 c = rw (is_read c.args.self.now _ 0 _ c.in-0.is c.in_ok-read_u8.ensures) refl

pub returns-in-4 : goal.returns-in-4
unfolding request_body
returns-in-4 c = rw (is_read c.args.self.now _ 4 _ c.in-4.is c.in_ok-read_u8.ensures) refl

pub returns-in_default : goal.returns-in_default
unfolding request_body
returns-in_default c =
    let other : 5 ≤ c.in_ok-read_u8.field-0 = omega arith in
    unknown_variant body_position body_variants c.args.self.now c.in_ok-read_u8.field-0 c.read_u8.new.self c.in_ok-read_u8.ensures other
