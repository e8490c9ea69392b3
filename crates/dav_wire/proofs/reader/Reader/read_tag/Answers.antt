use Rattle.std.proofs.Common.{refl}
use Rattle.dav_wire.specs.Values.{utf8_text, optional}
use Rattle.dav_wire.specs.Trees.{tag, attributes}
use Rattle.dav_wire.proofs.ReadLemmas.{fails_allocating_because, exit_allocating}
use Rattle.dav_wire.proofs.reader.Reader.read_tag.Goals as goal

pub returns-in_err-name : goal.returns-in_err-name
unfolding tag
returns-in_err-name c =
    exit_allocating tag (λ t. t) _ _ c.from_residual.result _ c.from_residual.ensures.1
    (fails_allocating_because utf8_text tag _ _ c.in_err-name.field-0.0 (λ none. rw none refl) c.in_err-name.ensures)

pub returns-in_err-prefix : goal.returns-in_err-prefix
unfolding tag
returns-in_err-prefix c =
    exit_allocating tag (λ t. t) _ _ c.from_residual-in_err-prefix.result _ c.from_residual-in_err-prefix.ensures.1
    (fails_allocating_because (optional utf8_text) tag c.read_text.new.self _ c.in_err-prefix.field-0.0
    (λ none. rw (c.in_ok-name.ensures, none) refl) c.in_err-prefix.ensures)

pub returns-in_err-namespace : goal.returns-in_err-namespace
unfolding tag
returns-in_err-namespace c =
    exit_allocating tag (λ t. t) _ _ c.from_residual-in_err-namespace.result _ c.from_residual-in_err-namespace.ensures.1
    (fails_allocating_because (optional utf8_text) tag c.read_optional_text.new.self _ c.in_err-namespace.field-0.0
    (λ none. rw (c.in_ok-name.ensures, c.in_ok-prefix.ensures, none) refl) c.in_err-namespace.ensures)

pub returns-in_err-attributes : goal.returns-in_err-attributes
unfolding tag
returns-in_err-attributes c =
    exit_allocating tag (λ t. t) _ _ c.from_residual-in_err-attributes.result _ c.from_residual-in_err-attributes.ensures.1
    (fails_allocating_because attributes tag _ _ c.in_err-attributes.field-0.0
    (λ none. rw (c.in_ok-name.ensures, c.in_ok-prefix.ensures, c.in_ok-namespace.ensures, none) refl) c.in_err-attributes.ensures)

pub returns : goal.returns
unfolding tag
returns c =
    rw (c.in_ok-name.ensures, c.in_ok-prefix.ensures, c.in_ok-namespace.ensures, c.in_ok-attributes.ensures) refl
