use Rattle.std.proofs.Common.{refl}
use Rattle.std.proofs.lemmas.Bool.{and_from}
use Rattle.dav_wire.specs.Values.{utf8_text}
use Rattle.dav_wire.proofs.WriteLemmas.{writes_as}
use Rattle.dav_resource.specs.PathText.{is_segment}
use Rattle.dav_cells.specs.Paths.{segment_codec}
use Rattle.dav_resource.proofs.SegmentLemmas.{is_segment-of}
use Rattle.dav_cells.proofs.paths.write_segment.Goals as goal

pub returns : goal.returns
unfolding segment_codec
returns c =
    let s = c.args.segment.now in
    writes_as utf8_text segment_codec s s c.args.writer.now c.write_str.new.self c.write_str.result
    (λ ok. and_from (utf8_text.is_valid s) (is_segment s) ok (is_segment-of s c.requires)) refl c.write_str.ensures
