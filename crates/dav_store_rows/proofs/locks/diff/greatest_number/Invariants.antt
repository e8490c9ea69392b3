use Rattle.std.proofs.Common.{ℕ, pos, map, take}
use Rattle.std.specs.Prelude.{◌≤ℤ◌}
use Rattle.std.specs.List.{AllByRecursion}
use Rattle.dav_rows.specs.Changes.{lock_entry}
use Rattle.dav_store_rows.specs.SaveErrors.{AreUpTo}
use Rattle.dav_store_rows.proofs.locks.diff.greatest_number.Given as goal

abbrev pub invariant-rows : goal.invariant-rows
invariant-rows l = record {
  greatest : AllByRecursion (λ e. e.0 ≤ℤ l.greatest) (map lock_entry (take l.row-index l.rows));
  least : (top : ℕ) → AreUpTo top (map lock_entry l.rows) → l.greatest ≤ℤ pos top;
}
