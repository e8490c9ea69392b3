-- What contracts see of a lock system in memory.
use Rattle.std.specs.Prelude.{List}
use Rattle.dav_store.specs.Locks.{Locks, all_reliable}
use Rattle.dav_store.specs.declared.lock.DavLock.{DavLock}
use Rattle.dav_memls.specs.declared.memory_locks.MemLs.{MemLs}
use Rattle.dav_memls.specs.IndexedLocks.{locks_in}

-- its locks, the oldest first
abbrev pub list_of : MemLs → List DavLock
list_of system = locks_in system.locks

-- what the engine sees of it: these locks, and that both calls are reliable
abbrev pub locks_of : MemLs → Locks
locks_of system = record { list = list_of system; reliable = all_reliable }
