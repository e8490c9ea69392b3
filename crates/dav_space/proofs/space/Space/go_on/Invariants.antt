use Rattle.std.proofs.Common.{vec_len}
use Rattle.dav_space.specs.Ranges.{KeepsClear, KeepsUnused}
use Rattle.dav_space.specs.Space.{unused}
use Rattle.dav_space.proofs.space.Space.go_on.Given as goal

abbrev pub invariant-loop-self : goal.invariant-loop-self
invariant-loop-self l = record {
  kept : KeepsClear (unused l.initial.self) (unused l.self);
  rest : KeepsUnused (unused l.initial.self) (unused l.self);
}

abbrev pub decreases-loop-self : goal.decreases-loop-self
decreases-loop-self l = vec_len l.self.later
