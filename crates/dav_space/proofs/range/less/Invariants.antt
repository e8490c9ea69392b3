use Rattle.std.proofs.Common.{◌≡◌, ◌-◌, take}
use Rattle.std.specs.List.{sum_by}
use Rattle.dav_space.specs.Ranges.{size}
use Rattle.dav_space.proofs.range.less.Given as goal

abbrev pub invariant-loop-range : goal.invariant-loop-range
invariant-loop-range l = l.left ≡ l.n - sum_by size (take l.range-index l.ranges)
