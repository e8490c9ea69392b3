use Rattle.dav_cells.proofs.KeyLemmas.{KeySoFar}
use Rattle.dav_cells.proofs.paths.write_key.Given as goal

abbrev pub invariant-loop-segment : goal.invariant-loop-segment
invariant-loop-segment l =
    record {
      can_next : (goal.iterator-loop-segment).can_next l.segment-iterator;
      is_finite : (goal.iterator-loop-segment).is_finite l.segment-iterator;
      so_far : KeySoFar l.key l.segment-iterator l.initial.writer l.writer;
    }
