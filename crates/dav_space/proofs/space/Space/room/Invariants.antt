use Rattle.std.proofs.Common.{ℕ, ◌<◌}
use Rattle.dav_space.specs.Space.{IsRoom}
use Rattle.dav_space.proofs.space.Space.room.Given as goal

abbrev pub invariant-loop-number : goal.invariant-loop-number
invariant-loop-number l = (number : ℕ) → number < l.number → ¬ IsRoom number l.at 1 l.self
