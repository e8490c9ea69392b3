use Rattle.std.proofs.Common.{◌∙◌, ap, string_bytes}
use Rattle.std.specs.Str.{IsCharBoundary}
use Rattle.dav_key.specs.Flat.{segments_of, length_above}
use Rattle.dav_key.proofs.FlatLemmas.{IsCharBoundary-above, IsTextOf-parent}
use Rattle.dav_key.proofs.builder.KeyBuilder.pop.Goals as goal

pub truncate-requires : goal.truncate-requires
truncate-requires c =
    let text = string_bytes c.self.inside.text in
    let at : IsCharBoundary text c.length_above-above.result = rw (c.length_above-above.ensures, c.as_str.ensures.value) (IsCharBoundary-above text c.self.invariant) in
    λ _. (at.0, λ _. at.1)

pub invariant_of-self : goal.invariant_of-self
invariant_of-self c =
    let above = c.length_above-above.ensures ∙ ap (λ t. length_above (segments_of t)) c.as_str.ensures.value in
    (IsTextOf-parent (string_bytes c.self.inside.text) (string_bytes c.truncate.new.self) c.length_above-above.result c.self.invariant above c.truncate.ensures.bytes).is_flat

pub returns-clause-key : goal.returns-clause-key
returns-clause-key c =
    let above = c.length_above-above.ensures ∙ ap (λ t. length_above (segments_of t)) c.as_str.ensures.value in
    rw (← c.self.view_is) (IsTextOf-parent (string_bytes c.self.inside.text) (string_bytes c.truncate.new.self) c.length_above-above.result c.self.invariant above c.truncate.ensures.bytes).key_is
