use Rattle.std.proofs.Common.{ℕ, ◌<◌}
use Rattle.dav_log.specs.Damage.{IsCount}
use Rattle.dav_log.proofs.losing.has_later_count.Given as goal

abbrev pub invariant-loop-i : goal.invariant-loop-i
invariant-loop-i l = (j : ℕ) → l.k < j → j < l.i → ¬ IsCount l.page_size l.log j
