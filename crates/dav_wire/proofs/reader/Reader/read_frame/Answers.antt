use Rattle.std.proofs.Common.{refl, arith, ◌≤◌}
use Rattle.dav_wire.specs.Numbers.{byte, number}
use Rattle.dav_wire.specs.Values.{utf8_text}
use Rattle.dav_wire.specs.Frames.{request, add, read, explain, unlock, modified, frame, frame_position, frame_variants}
use Rattle.dav_wire.specs.Views.{frame_of}
use Rattle.dav_wire.proofs.ListLemmas.{unknown_variant}
use Rattle.dav_wire.proofs.NodeLemmas.{is_read}
use Rattle.dav_wire.proofs.ReadLemmas.{may_allocate, stops_allocating}
use Rattle.dav_wire.proofs.reader.Reader.read_frame.Goals as goal

pub returns-in_err-read_u8 : goal.returns-in_err-read_u8
unfolding frame
returns-in_err-read_u8 c =
    stops_allocating byte frame frame_of c.args.self.now c.args.self.now _ c.from_residual.result c.in_err-read_u8.field-0.0 c.from_residual.ensures.1
    (λ none. rw none refl) (may_allocate byte c.args.self.now _ c.in_err-read_u8.ensures)

pub returns-in_err-read_request-in-0 : goal.returns-in_err-read_request-in-0
unfolding frame
returns-in_err-read_request-in-0 c =
    stops_allocating request frame frame_of c.args.self.now c.read_u8.new.self _ c.from_residual-in_err-read_request-in-0.result c.in_err-read_request-in-0.field-0.0 c.from_residual-in_err-read_request-in-0.ensures.1
    (λ none. rw (is_read c.args.self.now _ 0 _ c.in-0.is c.in_ok-read_u8.ensures, none) refl) c.in_err-read_request-in-0.ensures

pub returns-in_ok-read_request-in-0 : goal.returns-in_ok-read_request-in-0
unfolding frame
returns-in_ok-read_request-in-0 c =
    rw (is_read c.args.self.now _ 0 _ c.in-0.is c.in_ok-read_u8.ensures, c.in_ok-read_request-in-0.ensures) refl

pub returns-in_err-number-in-2 : goal.returns-in_err-number-in-2
unfolding frame
returns-in_err-number-in-2 c =
    stops_allocating add frame frame_of c.args.self.now c.read_u8.new.self _ c.from_residual-in_err-number-in-2.result c.in_err-number-in-2.field-0.0 c.from_residual-in_err-number-in-2.ensures.1
    (λ none. rw (is_read c.args.self.now _ 2 _ c.in-2.is c.in_ok-read_u8.ensures, none) refl) (may_allocate add c.read_u8.new.self _ c.in_err-number-in-2.ensures)

pub returns-in_ok-number-in-2 : goal.returns-in_ok-number-in-2
unfolding frame
returns-in_ok-number-in-2 c =
    rw (is_read c.args.self.now _ 2 _ c.in-2.is c.in_ok-read_u8.ensures, c.in_ok-number-in-2.ensures, c.from_u64.ensures) refl

pub returns-in_err-read_body_number-in-3 : goal.returns-in_err-read_body_number-in-3
unfolding frame
returns-in_err-read_body_number-in-3 c =
    stops_allocating number frame frame_of c.args.self.now c.read_u8.new.self _ c.from_residual-in_err-read_body_number-in-3.result c.in_err-read_body_number-in-3.field-0.0 c.from_residual-in_err-read_body_number-in-3.ensures.1
    (λ none. rw (is_read c.args.self.now _ 3 _ c.in-3.is c.in_ok-read_u8.ensures, none) refl) (may_allocate number c.read_u8.new.self _ c.in_err-read_body_number-in-3.ensures)

pub returns-in_ok-read_body_number-in-3 : goal.returns-in_ok-read_body_number-in-3
unfolding frame
returns-in_ok-read_body_number-in-3 c =
    rw (is_read c.args.self.now _ 3 _ c.in-3.is c.in_ok-read_u8.ensures, c.in_ok-read_body_number-in-3.ensures) refl

pub returns-in_err-read_part-in-4 : goal.returns-in_err-read_part-in-4
unfolding frame
returns-in_err-read_part-in-4 c =
    stops_allocating read frame frame_of c.args.self.now c.read_u8.new.self _ c.from_residual-in_err-read_part-in-4.result c.in_err-read_part-in-4.field-0.0 c.from_residual-in_err-read_part-in-4.ensures.1
    (λ none. rw (is_read c.args.self.now _ 4 _ c.in-4.is c.in_ok-read_u8.ensures, none) refl) (may_allocate read c.read_u8.new.self _ c.in_err-read_part-in-4.ensures)

pub returns-in_ok-read_part-in-4 : goal.returns-in_ok-read_part-in-4
unfolding frame
returns-in_ok-read_part-in-4 c =
    rw (is_read c.args.self.now _ 4 _ c.in-4.is c.in_ok-read_u8.ensures, c.in_ok-read_part-in-4.ensures) refl

pub returns-in-1 : goal.returns-in-1
unfolding frame
returns-in-1 c = rw (is_read c.args.self.now _ 1 _ c.in-1.is c.in_ok-read_u8.ensures) refl

pub returns-in-5 : goal.returns-in-5
unfolding frame
returns-in-5 c = rw (is_read c.args.self.now _ 5 _ c.in-5.is c.in_ok-read_u8.ensures) refl

pub returns-in-6 : goal.returns-in-6
unfolding frame
returns-in-6 c = rw (is_read c.args.self.now _ 6 _ c.in-6.is c.in_ok-read_u8.ensures) refl

pub returns-in-7 : goal.returns-in-7
unfolding frame
returns-in-7 c = rw (is_read c.args.self.now _ 7 _ c.in-7.is c.in_ok-read_u8.ensures) refl

pub returns-in-8 : goal.returns-in-8
unfolding frame
returns-in-8 c = rw (is_read c.args.self.now _ 8 _ c.in-8.is c.in_ok-read_u8.ensures) refl

pub returns-in_err-read_str-in-9 : goal.returns-in_err-read_str-in-9
unfolding frame
returns-in_err-read_str-in-9 c =
    stops_allocating utf8_text frame frame_of c.args.self.now c.read_u8.new.self _ c.from_residual-in_err-read_str-in-9.result c.in_err-read_str-in-9.field-0.0 c.from_residual-in_err-read_str-in-9.ensures.1
    (λ none. rw (is_read c.args.self.now _ 9 _ c.in-9.is c.in_ok-read_u8.ensures, none) refl) (may_allocate utf8_text c.read_u8.new.self _ c.in_err-read_str-in-9.ensures)

pub returns-in_ok-read_str-in-9 : goal.returns-in_ok-read_str-in-9
unfolding frame
returns-in_ok-read_str-in-9 c =
    rw (is_read c.args.self.now _ 9 _ c.in-9.is c.in_ok-read_u8.ensures, c.in_ok-read_str-in-9.ensures) refl

pub returns-in_err-read_question-in-10 : goal.returns-in_err-read_question-in-10
unfolding frame
returns-in_err-read_question-in-10 c =
    stops_allocating explain frame frame_of c.args.self.now c.read_u8.new.self _ c.from_residual-in_err-read_question-in-10.result c.in_err-read_question-in-10.field-0.0 c.from_residual-in_err-read_question-in-10.ensures.1
    (λ none. rw (is_read c.args.self.now _ 10 _ c.in-10.is c.in_ok-read_u8.ensures, none) refl) (may_allocate explain c.read_u8.new.self _ c.in_err-read_question-in-10.ensures)

pub returns-in_ok-read_question-in-10 : goal.returns-in_ok-read_question-in-10
unfolding frame
returns-in_ok-read_question-in-10 c =
    rw (is_read c.args.self.now _ 10 _ c.in-10.is c.in_ok-read_u8.ensures, c.in_ok-read_question-in-10.ensures) refl

pub returns-in-11 : goal.returns-in-11
unfolding frame
returns-in-11 c = rw (is_read c.args.self.now _ 11 _ c.in-11.is c.in_ok-read_u8.ensures) refl

pub returns-in_err-read_unlock-in-12 : goal.returns-in_err-read_unlock-in-12
unfolding frame
returns-in_err-read_unlock-in-12 c =
    stops_allocating unlock frame frame_of c.args.self.now c.read_u8.new.self _ c.from_residual-in_err-read_unlock-in-12.result c.in_err-read_unlock-in-12.field-0.0 c.from_residual-in_err-read_unlock-in-12.ensures.1
    (λ none. rw (is_read c.args.self.now _ 12 _ c.in-12.is c.in_ok-read_u8.ensures, none) refl) (may_allocate unlock c.read_u8.new.self _ c.in_err-read_unlock-in-12.ensures)

pub returns-in_ok-read_unlock-in-12 : goal.returns-in_ok-read_unlock-in-12
unfolding frame
returns-in_ok-read_unlock-in-12 c =
    rw (is_read c.args.self.now _ 12 _ c.in-12.is c.in_ok-read_u8.ensures, c.in_ok-read_unlock-in-12.ensures) refl

pub returns-in_err-read_modified-in-13 : goal.returns-in_err-read_modified-in-13
unfolding frame
returns-in_err-read_modified-in-13 c =
    stops_allocating modified frame frame_of c.args.self.now c.read_u8.new.self _ c.from_residual-in_err-read_modified-in-13.result c.in_err-read_modified-in-13.field-0.0 c.from_residual-in_err-read_modified-in-13.ensures.1
    (λ none. rw (is_read c.args.self.now _ 13 _ c.in-13.is c.in_ok-read_u8.ensures, none) refl) (may_allocate modified c.read_u8.new.self _ c.in_err-read_modified-in-13.ensures)

pub returns-in_ok-read_modified-in-13 : goal.returns-in_ok-read_modified-in-13
unfolding frame
returns-in_ok-read_modified-in-13 c =
    rw (is_read c.args.self.now _ 13 _ c.in-13.is c.in_ok-read_u8.ensures, c.in_ok-read_modified-in-13.ensures) refl

pub returns-in_default : goal.returns-in_default
unfolding frame
returns-in_default c =
    let other : 14 ≤ c.in_ok-read_u8.field-0 = omega arith in
    unknown_variant frame_position frame_variants c.args.self.now c.in_ok-read_u8.field-0 c.read_u8.new.self c.in_ok-read_u8.ensures other
