use Rattle.std.proofs.Common.{◌∙◌, sym}
use Rattle.dav_store.specs.Locks.{covering}
use Rattle.dav_memls.specs.IndexedLocks.{locks_in}
use Rattle.dav_memls.specs.Submitted.{passes}
use Rattle.dav_memls.proofs.CoveringLocks.{exclusive_alone, shared_all, permits_shared, permits_alone, permits_none}
use Rattle.dav_memls.proofs.memory_locks.list.permits_at.Goals as goal

pub returns-in_default : goal.returns-in_default
returns-in_default c = sym (permits_none (passes c.args.submitted.now) (covering (locks_in c.args.locks.now) c.args.path.now.key) c.in_default.ensures)

pub returns-then-lock : goal.returns-then-lock
returns-then-lock c =
    let ls = locks_in c.args.locks.now in
    let key = c.args.path.now.key in
    let lock = c.in-Some.lock.now in
    c.one_is_submitted.ensures
    ∙ sym (permits_shared (passes c.args.submitted.now) (covering ls key) lock c.in-Some.ensures (shared_all key ls lock c.requires c.in-Some.ensures c.if-lock.true))

pub returns-else-lock : goal.returns-else-lock
returns-else-lock c =
    let ls = locks_in c.args.locks.now in
    let key = c.args.path.now.key in
    let lock = c.in-Some.lock.now in
    c.has.ensures
    ∙ sym (permits_alone (passes c.args.submitted.now) (covering ls key) lock (exclusive_alone key ls lock c.requires c.in-Some.ensures c.if-lock.false) c.if-lock.false)
