use Rattle.std.proofs.Common.{◌≢◌, rules}
use Rattle.std.proofs.lemmas.Result.{err_from_is_err_and}
use Rattle.dav_resource.specs.declared.error.FsError.TheVariants.{Memory}
use Rattle.dav_engine.proofs.Refusals.{from_fs_status}
use Rattle.dav_engine.proofs.Moving.{renames, renames_unbegun, renames_unnamed, renames_named}
use Rattle.dav_engine.proofs.inner.DavInner.do_move.Goals as goal

pub returns-in-Ok-clause-renaming : goal.returns-in-Ok-clause-renaming
returns-in-Ok-clause-renaming g c = renames c.args.source.now c.args.dest.now _ _ _ c.in-Ok.ensures.granted

pub returns-in-Err-Memory-clause-renaming : goal.returns-in-Err-Memory-clause-renaming
returns-in-Err-Memory-clause-renaming g c = renames_unbegun c.args.source.now c.args.dest.now _ _ _ (rw c.in-Err-Memory.field-0-is at c.in-Err-Memory.ensures.declined)

pub returns-in_err-add_status-in-Err-clause-renaming : goal.returns-in_err-add_status-in-Err-clause-renaming
returns-in_err-add_status-in-Err-clause-renaming g c =
    let other : c.in-Err.error ≢ Memory = search rules in
    let p = err_from_is_err_and c.from_residual.result c.from_residual.ensures.1 in
    rw (p.1, p.2, c.in_err-add_status-in-Err.ensures.err) (renames_unnamed c.args.source.now c.args.dest.now _ _ c.in-Err.error other _ _ c.in-Err.ensures.declined c.in_err-add_status-in-Err.ensures.kept)

pub returns-in_ok-add_status-in-Err-clause-renaming : goal.returns-in_ok-add_status-in-Err-clause-renaming
returns-in_ok-add_status-in-Err-clause-renaming g c =
    let other : c.in-Err.error ≢ Memory = search rules in
    let added = c.in_ok-add_status-in-Err.ensures.ok in
    rw c.statuscode.ensures (renames_named c.args.source.now c.args.dest.now _ _ c.in-Err.error other _ _ c.in-Err.ensures.declined (rw (added.1, from_fs_status c.in-Err.error) at added.2))
