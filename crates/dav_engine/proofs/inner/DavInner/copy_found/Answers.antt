use Rattle.std.proofs.Common.{◌≢◌, ◌∙◌, Err, ap, rules}
use Rattle.std.proofs.lemmas.Result.{err_from_is_err_and}
use Rattle.dav_resource.specs.declared.error.DavError.TheVariants.{Memory}
use Rattle.dav_messages.specs.Reply.{answer_of}
use Rattle.dav_engine.proofs.Copying.{copy_is_work}
use Rattle.dav_engine.proofs.Replacing.{transfer_unbegun, transfer_stopped, transfer_untold, transfer_done, transfer_named}
use Rattle.dav_engine.proofs.inner.DavInner.copy_found.Goals.{in-Ok+in_ok-add_status-in-Ok, in-Err}
use Rattle.dav_engine.proofs.inner.DavInner.copy_found.Goals as goal

pub copy_to_destination-requires : goal.copy_to_destination-requires
copy_to_destination-requires g c = rw (c.in_ok-path.ensures, c.depth_or_all.ensures) c.requires

pub returns-in_err-path-clause-work : goal.returns-in_err-path-clause-work
returns-in_err-path-clause-work g c =
    let p = err_from_is_err_and c.from_residual.result c.from_residual.ensures.1 in
    transfer_unbegun c.args.self.now.profile (copy_is_work c.args.request.now c.args.found.now) _ _ _ c.from_residual.result (ap answer_of p.1 ∙ ap Err p.2)

pub returns-in_err-add_status-in-Ok-clause-work : goal.returns-in_err-add_status-in-Ok-clause-work
returns-in_err-add_status-in-Ok-clause-work g c =
    let p = err_from_is_err_and c.from_residual-in_err-add_status-in-Ok.result c.from_residual-in_err-add_status-in-Ok.ensures.1 in
    transfer_untold c.args.self.now.profile (copy_is_work c.args.request.now c.args.found.now) _ _ _ _ _ c.from_residual-in_err-add_status-in-Ok.result (rw (c.in_ok-path.ensures, c.depth_or_all.ensures, c.new-res.ensures) at c.in-Ok.ensures.copied)
    (ap answer_of p.1 ∙ ap Err (p.2 ∙ c.in_err-add_status-in-Ok.ensures.err))

pub returns-in-Err-Memory-clause-work : goal.returns-in-Err-Memory-clause-work
returns-in-Err-Memory-clause-work g c = transfer_stopped c.args.self.now.profile (copy_is_work c.args.request.now c.args.found.now) _ _ _ _ _ _ (rw (c.in_ok-path.ensures, c.depth_or_all.ensures, c.in-Err-Memory.field-0-is) at c.in-Err-Memory.ensures.copied)

pub returns-clause-work : goal.returns-clause-work
returns-clause-work g c =
    elim c.match-copy_to_destination.branch [
      | in-Ok+in_ok-add_status-in-Ok w ↦
          let added = w.in_ok-add_status-in-Ok.ensures.ok in
          transfer_done c.args.self.now.profile (copy_is_work c.args.request.now c.args.found.now) _ _ _ _ _ c.multi_error.result (rw (c.in_ok-path.ensures, c.depth_or_all.ensures, c.new-res.ensures) at w.in-Ok.ensures.copied) c.into_items.result.items
          (c.into_items.ensures ∙ w.res-is ∙ rw (added.1, c.in_ok-path.ensures, w.transferred_status.ensures, w.as_ref.ensures.variant) at added.2)
          (rw c.in_ok-path.ensures at c.multi_error.ensures)
      | in-Err w ↦
          let not_memory : w.in-Err.field-0 ≢ Memory = search rules in
          transfer_named c.args.self.now.profile (copy_is_work c.args.request.now c.args.found.now) _ _ _ _ _ c.multi_error.result w.in-Err.field-0 not_memory (rw (c.in_ok-path.ensures, c.depth_or_all.ensures, c.new-res.ensures) at w.in-Err.ensures.copied)
          (rw (c.in_ok-path.ensures, c.into_items.ensures, w.res-is) at c.multi_error.ensures)
    ]
