use Rattle.std.proofs.Common.{◌≡◌, ◌-◌, ◌≤◌}
use Rattle.dav_check.specs.Reading.{IsReadBelow}
use Rattle.dav_check.proofs.reading.read_file.Given as goal

-- each byte before the place was read; nothing changed but the log
abbrev pub invariant-loop-place : goal.invariant-loop-place
invariant-loop-place g l = record {
  same : (g.F.GuardedFileSystem.seen l.fs).contents ≡ (g.F.GuardedFileSystem.seen l.initial.fs).contents;
  fixed : (g.F.GuardedFileSystem.seen l.fs).facts ≡ (g.F.GuardedFileSystem.seen l.initial.fs).facts;
  read : IsReadBelow g.F.GuardedFileSystem.seen g.F.GuardedFileSystem.reads (g.F.GuardedFileSystem.seen l.initial.fs).contents l.path.key l.place;
  within : l.place ≤ l.len;
}

abbrev pub decreases-loop-place : goal.decreases-loop-place
decreases-loop-place g l = l.len - l.place
