use Rattle.std.proofs.Common.{◌≡◌, ◌++◌, string_bytes}
use Rattle.dav_resource.specs.Escapes.{key_text_with}
use Rattle.dav_resource.proofs.path.write.key_text.Given as goal

abbrev pub invariant-loop-segment : goal.invariant-loop-segment
invariant-loop-segment l = record {
  can_next : (goal.iterator-loop-segment).can_next l.segment-iterator;
  is_finite : (goal.iterator-loop-segment).is_finite l.segment-iterator;
  whole : string_bytes l.text ++ key_text_with l.escaped l.segment-iterator ≡ key_text_with l.escaped l.key;
}
