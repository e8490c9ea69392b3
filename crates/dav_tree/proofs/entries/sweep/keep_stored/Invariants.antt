use Rattle.std.proofs.Common.{◌≡◌, ℕ, Some}
use Rattle.std.specs.Ordering.{nat_cmp}
use Rattle.std.specs.BTreeMap as ordered
use Rattle.dav_tree.specs.Bodies.{KeepsBodies, KeepsMarks}
use Rattle.dav_tree.proofs.Sweeping.{IsMarkedOrLeft}
use Rattle.dav_tree.proofs.entries.sweep.keep_stored.Given as goal

-- each body is marked, or still to come
abbrev pub invariant-loop-body : goal.invariant-loop-body
invariant-loop-body g l = record {
  marked : (number : ℕ) (body : g.row.M-Body.Denot) → ordered.get nat_cmp l.bodies number ≡ Some body → IsMarkedOrLeft (g.M.Medium.marked l.medium) l.body-iterator number body;
  marks : KeepsMarks g.M.Medium.marked l.initial.medium l.medium;
  kept : KeepsBodies g.M.Medium.bytes g.M.Medium.holds g.M.Medium.safe l.initial.medium l.medium;
}
