use Rattle.std.proofs.Common.{◌≡◌}
use Rattle.dav_walks.proofs.Going.{Going, work_left}
use Rattle.dav_walks.proofs.deletion.delete_tree.Given as goal

abbrev pub invariant-walk : goal.invariant-walk
invariant-walk g l =
    let seen = g.F.GuardedFileSystem.seen in
    record {
      going : Going l.path (seen l.fn.fs) (seen l.fs) l.fn.res l.res l.frame l.parents.items;
      fixed : (seen l.fs).facts ≡ (seen l.fn.fs).facts;
    }

abbrev pub decreases-walk : goal.decreases-walk
decreases-walk g l = work_left (g.F.GuardedFileSystem.seen l.fn.fs).contents.tree l.frame l.parents.items
