use Rattle.std.proofs.Common.{◌<◌, ℕ}
use Rattle.dav_tree.specs.Bodies.{KeepsBodies, KeepsMarks}
use Rattle.dav_tree.specs.Kept.{IsMarkedAt}
use Rattle.dav_tree.proofs.entries.sweep.keep_files.Given as goal

-- the files with lower numbers are marked
abbrev pub invariant-loop-number : goal.invariant-loop-number
invariant-loop-number g l = record {
  marked : (n : ℕ) → n < l.number → IsMarkedAt (g.M.Medium.marked l.medium) l.tree n;
  marks : KeepsMarks g.M.Medium.marked l.initial.medium l.medium;
  kept : KeepsBodies g.M.Medium.bytes g.M.Medium.holds g.M.Medium.safe l.initial.medium l.medium;
}
