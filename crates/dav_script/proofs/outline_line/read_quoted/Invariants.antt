use Rattle.std.proofs.Common.{string_bytes}
use Rattle.std.specs.Str.Iter.{chars_rest}
use Rattle.dav_script.proofs.OutlineLines.{IsReadTo}
use Rattle.dav_script.proofs.outline_line.read_quoted.Given as goal

abbrev pub invariant-loop-letter : goal.invariant-loop-letter
invariant-loop-letter l = record {
  can_next : (goal.iterator-loop-letter).can_next l.letters;
  is_finite : (goal.iterator-loop-letter).is_finite l.letters;
  read : IsReadTo l.text (string_bytes l.value) (chars_rest l.letters);
}
