use Rattle.std.proofs.Common.{◌∙◌, Err, ap, map}
use Rattle.std.proofs.lemmas.Result.{err_from_is_err_and}
use Rattle.dav_messages.specs.Reply.{answer_of}
use Rattle.dav_props.specs.Update.{change_of}
use Rattle.dav_engine.proofs.Patching.{patch_unmade}
use Rattle.dav_engine.proofs.inner.DavInner.patch_found.Goals as goal

pub returns-in_err-statuses-clause-work : goal.returns-in_err-statuses-clause-work
returns-in_err-statuses-clause-work g c =
    let p = err_from_is_err_and c.from_residual.result c.from_residual.ensures.1 in
    patch_unmade c.args.self.now.profile c.args.request.now (c.args.found.now, map change_of c.args.changes.now) _ _ _ _ (ap answer_of p.1 ∙ ap Err p.2) c.in_err-statuses.ensures.stored
