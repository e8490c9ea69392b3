use Rattle.dav_wire.proofs.WriteLemmas.{list_written}
use Rattle.dav_cells.specs.Paths.{segment_codec, key_codec}
use Rattle.dav_cells.proofs.KeyLemmas.{key_more, key_end}
use Rattle.dav_cells.proofs.paths.write_key.Goals as goal

pub loop-segment-preserved : goal.loop-segment-preserved
loop-segment-preserved c =
    record {
      can_next = tt;
      is_finite = tt;
      so_far = key_more _ _ _ _ _ _ _ c.loop-segment.invariant.so_far c.in-Some.ensures.steps c.in_ok-write_segment.ensures;
    }

pub returns : goal.returns
unfolding key_codec
returns c =
    list_written segment_codec c.args.key.now c.segment_count.result c.args.writer.now c.write_number.new.self c.loop-segment.writer c.segment_count.ensures
    c.in_ok-write_number.ensures (key_end _ _ _ _ c.loop-segment.invariant.so_far c.in-None.ensures.steps.0)
