use Rattle.std.proofs.Common.{◌≡◌, map, take, Some}
use Rattle.dav_store_rows.proofs.LockLoads.{lock_in_row}
use Rattle.dav_store_rows.proofs.locks.loads.load_locks.Given as goal

abbrev pub invariant-rows : goal.invariant-rows
invariant-rows l = map Some l.all.items ≡ map lock_in_row (take l.row-index l.rows)
