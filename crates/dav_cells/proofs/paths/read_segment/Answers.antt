use Rattle.std.proofs.Common.{◌≡◌, ◌∙◌, true, false, refl, sym}
use Rattle.dav_wire.specs.Values.{utf8_text}
use Rattle.dav_wire.proofs.ReadLemmas.{stops}
use Rattle.dav_resource.specs.PathText.{is_segment}
use Rattle.dav_cells.specs.Paths.{segment_codec}
use Rattle.dav_cells.proofs.paths.read_segment.Goals as goal

pub returns-in_err-segment-clause-read : goal.returns-in_err-segment-clause-read
unfolding segment_codec
returns-in_err-segment-clause-read c =
    stops utf8_text segment_codec (λ s. s.now) c.args.reader.now c.args.reader.now _ c.from_residual.result c.in_err-segment.field-0.0 c.from_residual.ensures.1
    (λ none. rw none refl) c.in_err-segment.ensures

pub returns-then-is_segment-clause-read : goal.returns-then-is_segment-clause-read
unfolding segment_codec
returns-then-is_segment-clause-read c =
    let is : is_segment c.in_ok-segment.segment.now ≡ true = sym c.is_segment.ensures.value ∙ c.if-is_segment.true in
    rw (c.in_ok-segment.ensures, is) refl

pub returns-else-is_segment-clause-read : goal.returns-else-is_segment-clause-read
unfolding segment_codec
returns-else-is_segment-clause-read c =
    let is_not : is_segment c.in_ok-segment.segment.now ≡ false = sym c.is_segment.ensures.value ∙ c.if-is_segment.false in
    rw (c.in_ok-segment.ensures, is_not) refl
