use Rattle.std.proofs.Common.{◌≡◌, ◌++◌, option_map, option_copied}
use Rattle.dav_key.specs.Key.{Key}
use Rattle.dav_key.specs.Flat.{IsFlatKey}
use Rattle.dav_rights.specs.Rules.{key_for}
use Rattle.dav_rights.proofs.rules.key_for.Given as goal

abbrev pub invariant-loop-segment : goal.invariant-loop-segment
invariant-loop-segment l = record {
  can_next : (goal.iterator-loop-segment).can_next l.segment-iterator;
  is_finite : (goal.iterator-loop-segment).is_finite l.segment-iterator;
  whole : option_map (λ (rest : Key). l.own ++ rest) (key_for (option_copied l.caller) l.segment-iterator) ≡ key_for (option_copied l.caller) l.key;
  left : IsFlatKey l.segment-iterator;
}
