use Rattle.std.proofs.Common.{ℕ, ◌<◌}
use Rattle.dav_tree.specs.Loading.{IsSoundAt}
use Rattle.dav_tree.proofs.entries.soundness.are_keys_sound.Given as goal

-- the keys with lower numbers are sound
abbrev pub invariant-loop-number : goal.invariant-loop-number
invariant-loop-number g l = (n : ℕ) → n < l.number → IsSoundAt l.nodes n
