use Rattle.std.proofs.Common.{◌≡◌, ◌*◌, ◌^◌, ◌≤◌}
use Rattle.dav_check.proofs.Counting.{IsCounted}
use Rattle.dav_check.proofs.Walk.{IsUnderway}
use Rattle.dav_check.proofs.checking.check.Given as goal

-- what is known so far; nothing changed but the log; a file was counted for at most one resource, and each has a length of 64 bits
abbrev pub invariant-loop-visited : goal.invariant-loop-visited
invariant-loop-visited g l = record {
  same : (g.F.GuardedFileSystem.seen l.fs).contents ≡ (g.F.GuardedFileSystem.seen l.fn.fs).contents;
  fixed : (g.F.GuardedFileSystem.seen l.fs).facts ≡ (g.F.GuardedFileSystem.seen l.fn.fs).facts;
  underway : IsUnderway g.F.GuardedFileSystem.seen g.F.GuardedFileSystem.reads (g.F.GuardedFileSystem.seen l.fn.fs).contents l.waiting.items l.checked;
  counted : IsCounted (g.F.GuardedFileSystem.seen l.fn.fs).contents l.waiting.items l.checked;
  files : l.checked.files ≤ l.visited;
  bytes : l.checked.bytes ≤ l.checked.files * 2 ^ 64;
}
