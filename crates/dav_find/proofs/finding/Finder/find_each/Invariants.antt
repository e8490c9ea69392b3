use Rattle.std.proofs.Common.{◌≡◌, Result, drop, map}
use Rattle.dav_resource.specs.declared.error.DavError.{DavError}
use Rattle.dav_store.specs.Store.{Store}
use Rattle.dav_messages.specs.Dialogue.{Judges}
use Rattle.dav_find.specs.Finder.{view_of}
use Rattle.dav_find.specs.Finding.{find_each, finding_of}
use Rattle.dav_find.proofs.Each.{Sought, left_of}
use Rattle.dav_find.proofs.finding.Finder.find_each.Given as goal

-- whatever comes of what is left, the whole comes to behind what was found; nothing changed but the log
abbrev pub invariant-loop-asked : goal.invariant-loop-asked
invariant-loop-asked g l = record {
  same : (g.F.GuardedFileSystem.seen l.fs).contents ≡ (g.F.GuardedFileSystem.seen l.initial.fs).contents;
  fixed : (g.F.GuardedFileSystem.seen l.fs).facts ≡ (g.F.GuardedFileSystem.seen l.initial.fs).facts;
  held : (verdict : Result Sought DavError) (new : Store)
      → Judges (left_of (view_of g.L.DavLockSystem.seen l.self (g.F.GuardedFileSystem.seen l.initial.fs).facts) (g.F.GuardedFileSystem.seen l.initial.fs).contents l.here (map finding_of l.found.items) (drop l.asked-index l.self.search.now.asked.items) l.quota) (g.F.GuardedFileSystem.seen l.fs) verdict new
      → Judges (find_each (view_of g.L.DavLockSystem.seen l.self (g.F.GuardedFileSystem.seen l.initial.fs).facts) (g.F.GuardedFileSystem.seen l.initial.fs).contents l.here l.self.search.now.asked.items l.initial.quota) (g.F.GuardedFileSystem.seen l.initial.fs) verdict new;
}
