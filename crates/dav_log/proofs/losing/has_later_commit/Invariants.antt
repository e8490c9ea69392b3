use Rattle.std.proofs.Common.{ℕ, ◌+◌, ◌<◌, ◌≤◌}
use Rattle.sqlite_wal.specs.Recovery.{Passes}
use Rattle.dav_log.specs.Damage.{IsBlank, IsCommit}
use Rattle.dav_log.proofs.losing.has_later_commit.Given as goal

abbrev pub invariant-loop-i : goal.invariant-loop-i
invariant-loop-i l =
    (j : ℕ) → l.k ≤ j → j + 1 < l.i → (¬ IsBlank l.page_size l.log j) × (IsCommit l.page_size l.log j → ¬ Passes l.page_size l.log (j + 1))
