use Rattle.std.proofs.Common.{ap, option_map}
use Rattle.dav_engine.specs.DavInner.{seen_by}
use Rattle.dav_engine.proofs.Transferring.{names_exit, clears_named, clears_all}
use Rattle.dav_engine.proofs.inner.DavInner.clear_found.Goals as goal

pub returns-in_err-delete_items-clause-cleared : goal.returns-in_err-delete_items-clause-cleared
returns-in_err-delete_items-clause-cleared g c =
    let removed = c.in_err-delete_items.ensures in
    names_exit _ _ _ _ _ _ c.from_residual.ensures.1 (clears_named c.args.destination.now _ _ _ _ _ removed.removal (ap (option_map g.L.DavLockSystem.seen) removed.same_locks))

pub returns-clause-cleared : goal.returns-clause-cleared
returns-clause-cleared g c =
    let removed = c.in_ok-delete_items.ensures in
    clears_all c.args.destination.now _ (seen_by g.F.GuardedFileSystem.seen g.L.DavLockSystem.seen c.delete_items.new.self) _ _ _ removed.removal (ap (option_map g.L.DavLockSystem.seen) removed.same_locks) c.drop_locks.ensures.dropped
