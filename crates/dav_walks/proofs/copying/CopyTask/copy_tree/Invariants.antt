use Rattle.std.proofs.Common.{◌≡◌, ◌∷◌, reverse}
use Rattle.dav_walks.proofs.CopyVisit.{Going, left}
use Rattle.dav_walks.proofs.copying.CopyTask.copy_tree.Given as goal

abbrev pub invariant-walk : goal.invariant-walk
invariant-walk g l =
    let seen = g.F.GuardedFileSystem.seen in
    record {
      going : Going l.self.source.now l.self.dest.now l.self.topdest.now.key (seen l.fn.fs) (seen l.fs) l.fn.res l.res (l.frame ∷ reverse l.parents.items);
      fixed : (seen l.fs).facts ≡ (seen l.fn.fs).facts;
    }

abbrev pub decreases-walk : goal.decreases-walk
decreases-walk g l = left l.self.topdest.now.key (g.F.GuardedFileSystem.seen l.fn.fs) (l.frame ∷ reverse l.parents.items)
