use Rattle.std.proofs.lemmas.Result.{err_from_is_err_and}
use Rattle.dav_walks.proofs.Alone.{alone_all, alone_off}
use Rattle.dav_walks.proofs.deletion.delete_to_depth.Goals as goal

pub returns-in_err-remove-in-Zero-clause-stopped : goal.returns-in_err-remove-in-Zero-clause-stopped
returns-in_err-remove-in-Zero-clause-stopped g c =
    let p = err_from_is_err_and c.from_residual.result c.from_residual.ensures.1 in
    rw (p.1, c.in-Zero.is, c.in_err-remove-in-Zero.ensures.unnamed) (alone_off _ _ _ c.args.dir c.requires.there _ c.in_err-remove-in-Zero.ensures.stopped)

pub returns-in_ok-remove-in-Zero-clause-done : goal.returns-in_ok-remove-in-Zero-clause-done
returns-in_ok-remove-in-Zero-clause-done g c =
    rw c.in-Zero.is (alone_all _ _ _ c.args.dir c.requires.there _ _ c.in_ok-remove-in-Zero.field-0 c.in_ok-remove-in-Zero.ensures.done)
