use Rattle.std.proofs.Common.{refl, arith, ◌≤◌, [], ◌∷◌}
use Rattle.dav_wire.specs.Numbers.{byte}
use Rattle.dav_wire.specs.Values.{flag, flag_byte, no, yes}
use Rattle.dav_wire.proofs.ListLemmas.{unknown_variant}
use Rattle.dav_wire.proofs.NodeLemmas.{is_read}
use Rattle.dav_wire.proofs.ReadLemmas.{stops}
use Rattle.dav_cells.proofs.locks.read_flag.Goals as goal

pub returns-in_err-read_u8 : goal.returns-in_err-read_u8
unfolding flag
returns-in_err-read_u8 c =
    stops byte flag (λ x. x) c.args.reader.now c.args.reader.now _ c.from_residual.result c.in_err-read_u8.field-0.0 c.from_residual.ensures.1
    (λ none. rw none refl) c.in_err-read_u8.ensures

pub returns-in-0 : goal.returns-in-0
unfolding flag
returns-in-0 c = rw (is_read c.args.reader.now _ 0 _ c.in-0.is c.in_ok-read_u8.ensures) refl

pub returns-in-1 : goal.returns-in-1
unfolding flag
returns-in-1 c = rw (is_read c.args.reader.now _ 1 _ c.in-1.is c.in_ok-read_u8.ensures) refl

pub returns-in_default : goal.returns-in_default
unfolding flag
returns-in_default c =
    let other : 2 ≤ c.in_ok-read_u8.field-0 = omega arith in
    unknown_variant flag_byte (no ∷ yes ∷ []) c.args.reader.now c.in_ok-read_u8.field-0 c.read_u8.new.self c.in_ok-read_u8.ensures other
