use Rattle.std.proofs.Common.{refl, string_bytes}
use Rattle.dav_wire.specs.Values.{utf8_text}
use Rattle.dav_wire.specs.Trees.{attribute}
use Rattle.dav_wire.proofs.ReadLemmas.{fails_allocating, fails_allocating_because, exit_allocating}
use Rattle.dav_wire.proofs.reader.Reader.read_attribute.Goals as goal

pub returns-in_err-key : goal.returns-in_err-key
unfolding attribute
returns-in_err-key c =
    exit_allocating attribute (λ p. (p.0.now, string_bytes p.1)) _ _ c.from_residual.result _ c.from_residual.ensures.1
    (fails_allocating utf8_text attribute _ _ c.in_err-key.field-0.0 (λ none. rw none refl) c.in_err-key.ensures)

pub returns-in_err-read_string : goal.returns-in_err-read_string
unfolding attribute
returns-in_err-read_string c =
    exit_allocating attribute (λ p. (p.0.now, string_bytes p.1)) _ _ c.from_residual-in_err-read_string.result _ c.from_residual-in_err-read_string.ensures.1
    (fails_allocating_because utf8_text attribute _ _ c.in_err-read_string.field-0.0 (λ none. rw (c.in_ok-key.ensures, none) refl) c.in_err-read_string.ensures)

pub returns : goal.returns
unfolding attribute
returns c = rw (c.in_ok-key.ensures, c.in_ok-read_string.ensures) refl
