use Rattle.std.proofs.Common.{◌≡◌, ◌≤◌, ℕ, ◌++◌, length, map, drop}
use Rattle.dav_rows.specs.Changes.{lock_entry}
use Rattle.dav_store_rows.specs.SaveErrors.{AreUpTo}
use Rattle.dav_store_rows.specs.LockRows.{row_values, BringsLocks}
use Rattle.dav_store_rows.proofs.locks.diff.save_rows.Given as goal

abbrev pub invariant-saved : goal.invariant-saved
invariant-saved l =
    BringsLocks (map lock_entry l.saved) (map lock_entry l.rows.items ++ map lock_entry (drop l.row-index l.saved)) l.fn.changes.items l.changes.items
    × (map row_values l.rows.items ++ map row_values l.left ≡ map row_values l.wanted)
    × ((top : ℕ) → AreUpTo top (map lock_entry l.saved) → AreUpTo top (map lock_entry l.rows.items))
    × (length l.left ≤ length l.wanted)
