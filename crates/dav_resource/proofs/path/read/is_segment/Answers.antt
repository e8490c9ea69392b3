use Rattle.std.proofs.Common.{◌≡◌, ◌∙◌, sym, rules}
use Rattle.std.proofs.lemmas.Str.{is_utf8-from_IsUtf8}
use Rattle.dav_resource.specs.PathText.{is_segment}
use Rattle.dav_resource.proofs.SegmentLemmas.{IsSegment-of, All-bytes}
use Rattle.dav_resource.proofs.path.read.is_segment.Goals as goal

pub returns-in_default-clause-segment : goal.returns-in_default-clause-segment
returns-in_default-clause-segment c =
    let s = c.args.text.now in
    let value : c.is_plain.result ≡ is_segment c.args.text.now = search rules in
    λ is. IsSegment-of s (is_utf8-from_IsUtf8 s c.utf8.text) (All-bytes s c.type_inv.text) (sym value ∙ is)
