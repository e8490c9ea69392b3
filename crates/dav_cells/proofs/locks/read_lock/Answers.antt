use Rattle.std.proofs.Common.{refl}
use Rattle.dav_wire.specs.Numbers.{number}
use Rattle.dav_wire.specs.Values.{utf8_text, flag, optional}
use Rattle.dav_wire.proofs.ReadLemmas.{may_allocate, stops_allocating}
use Rattle.dav_cells.specs.Elements.{element_codec}
use Rattle.dav_cells.specs.Paths.{path_codec}
use Rattle.dav_cells.specs.Locks.{lock_codec}
use Rattle.dav_cells.proofs.locks.read_lock.Goals as goal

pub returns-in_err-token : goal.returns-in_err-token
unfolding lock_codec
returns-in_err-token c =
    stops_allocating utf8_text lock_codec (λ l. l) c.args.reader.now c.args.reader.now _ c.from_residual.result c.in_err-token.field-0.0 c.from_residual.ensures.1
    (λ none. rw none refl) c.in_err-token.ensures

pub returns-in_err-path : goal.returns-in_err-path
unfolding lock_codec
returns-in_err-path c =
    stops_allocating path_codec lock_codec (λ l. l) c.args.reader.now c.read_text.new.self _ c.from_residual-in_err-path.result c.in_err-path.field-0.0 c.from_residual-in_err-path.ensures.1
    (λ none. rw (c.in_ok-token.ensures, none) refl) c.in_err-path.ensures

pub returns-in_err-principal : goal.returns-in_err-principal
unfolding lock_codec
returns-in_err-principal c =
    stops_allocating (optional utf8_text) lock_codec (λ l. l) c.args.reader.now c.read_path.new.reader _ c.from_residual-in_err-principal.result c.in_err-principal.field-0.0 c.from_residual-in_err-principal.ensures.1
    (λ none. rw (c.in_ok-token.ensures, c.in_ok-path.ensures, none) refl) c.in_err-principal.ensures

pub returns-in_err-timeout : goal.returns-in_err-timeout
unfolding lock_codec
returns-in_err-timeout c =
    stops_allocating (optional number) lock_codec (λ l. l) c.args.reader.now c.read_optional_text.new.self _ c.from_residual-in_err-timeout.result c.in_err-timeout.field-0.0 c.from_residual-in_err-timeout.ensures.1
    (λ none. rw (c.in_ok-token.ensures, c.in_ok-path.ensures, c.in_ok-principal.ensures, none) refl) (may_allocate (optional number) c.read_optional_text.new.self _ c.in_err-timeout.ensures)

pub returns-in_err-timeout_at : goal.returns-in_err-timeout_at
unfolding lock_codec
returns-in_err-timeout_at c =
    stops_allocating (optional number) lock_codec (λ l. l) c.args.reader.now c.read_optional_number.new.reader _ c.from_residual-in_err-timeout_at.result c.in_err-timeout_at.field-0.0 c.from_residual-in_err-timeout_at.ensures.1
    (λ none. rw (c.in_ok-token.ensures, c.in_ok-path.ensures, c.in_ok-principal.ensures, c.in_ok-timeout.ensures, none) refl) (may_allocate (optional number) c.read_optional_number.new.reader _ c.in_err-timeout_at.ensures)

pub returns-in_err-shared : goal.returns-in_err-shared
unfolding lock_codec
returns-in_err-shared c =
    stops_allocating flag lock_codec (λ l. l) c.args.reader.now c.read_optional_number-2.new.reader _ c.from_residual-in_err-shared.result c.in_err-shared.field-0.0 c.from_residual-in_err-shared.ensures.1
    (λ none. rw (c.in_ok-token.ensures, c.in_ok-path.ensures, c.in_ok-principal.ensures, c.in_ok-timeout.ensures, c.in_ok-timeout_at.ensures, none) refl) (may_allocate flag c.read_optional_number-2.new.reader _ c.in_err-shared.ensures)

pub returns-in_err-deep : goal.returns-in_err-deep
unfolding lock_codec
returns-in_err-deep c =
    stops_allocating flag lock_codec (λ l. l) c.args.reader.now c.read_flag.new.reader _ c.from_residual-in_err-deep.result c.in_err-deep.field-0.0 c.from_residual-in_err-deep.ensures.1
    (λ none. rw (c.in_ok-token.ensures, c.in_ok-path.ensures, c.in_ok-principal.ensures, c.in_ok-timeout.ensures, c.in_ok-timeout_at.ensures, c.in_ok-shared.ensures, none) refl) (may_allocate flag c.read_flag.new.reader _ c.in_err-deep.ensures)

pub returns-in_err-owner : goal.returns-in_err-owner
unfolding lock_codec
returns-in_err-owner c =
    stops_allocating (optional element_codec) lock_codec (λ l. l) c.args.reader.now c.read_flag-2.new.reader _ c.from_residual-in_err-owner.result c.in_err-owner.field-0.0 c.from_residual-in_err-owner.ensures.1
    (λ none. rw (c.in_ok-token.ensures, c.in_ok-path.ensures, c.in_ok-principal.ensures, c.in_ok-timeout.ensures, c.in_ok-timeout_at.ensures, c.in_ok-shared.ensures, c.in_ok-deep.ensures, none) refl) c.in_err-owner.ensures

pub returns : goal.returns
unfolding lock_codec
returns c = rw (c.in_ok-token.ensures, c.in_ok-path.ensures, c.in_ok-principal.ensures, c.in_ok-timeout.ensures, c.in_ok-timeout_at.ensures, c.in_ok-shared.ensures, c.in_ok-deep.ensures, c.in_ok-owner.ensures) refl
