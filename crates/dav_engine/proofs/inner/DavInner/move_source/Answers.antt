use Rattle.std.proofs.Common.{ap, option_map}
use Rattle.dav_engine.specs.DavInner.{seen_by}
use Rattle.dav_engine.proofs.Moving.{source_named, source_moved}
use Rattle.dav_engine.proofs.Transferring.{names_exit}
use Rattle.dav_engine.proofs.inner.DavInner.move_source.Goals as goal

pub returns-in_err-do_move-clause-moved : goal.returns-in_err-do_move-clause-moved
returns-in_err-do_move-clause-moved g c =
    let renamed = c.in_err-do_move.ensures in
    names_exit _ _ _ _ _ _ c.from_residual.ensures.1 (source_named c.args.source.now c.args.destination.now _ _ _ _ c.requires _ renamed.renaming (ap (option_map g.L.DavLockSystem.seen) renamed.same_locks))

pub returns-clause-moved : goal.returns-clause-moved
returns-clause-moved g c =
    let renamed = c.in_ok-do_move.ensures in
    source_moved c.args.source.now c.args.destination.now _ (seen_by g.F.GuardedFileSystem.seen g.L.DavLockSystem.seen c.do_move.new.self) _ _ c.requires _ renamed.renaming (ap (option_map g.L.DavLockSystem.seen) renamed.same_locks) c.drop_locks.ensures.dropped
