use Rattle.std.proofs.Common.{◌≢◌, ◌∙◌, Err, ap, option_map, rules}
use Rattle.std.proofs.lemmas.Result.{err_from_is_err_and}
use Rattle.dav_resource.specs.declared.error.DavError.TheVariants.{Memory}
use Rattle.dav_messages.specs.Reply.{answer_of}
use Rattle.dav_engine.specs.DavInner.{seen_by}
use Rattle.dav_engine.proofs.Deleting.{works_unbegun, works_stopped, works_untold, works_gone, works_named}
use Rattle.dav_engine.proofs.inner.DavInner.delete_found.Goals.{in-Ok+in_ok-add_status-in-Ok, in-Err}
use Rattle.dav_engine.proofs.inner.DavInner.delete_found.Goals as goal

pub returns-in_err-path-clause-work : goal.returns-in_err-path-clause-work
returns-in_err-path-clause-work g c =
    let p = err_from_is_err_and c.from_residual.result c.from_residual.ensures.1 in
    works_unbegun c.args.self.now.profile c.args.request.now c.args.meta.now _ c.from_residual.result (ap answer_of p.1 ∙ ap Err p.2)

pub returns-in_err-add_status-in-Ok-clause-work : goal.returns-in_err-add_status-in-Ok-clause-work
returns-in_err-add_status-in-Ok-clause-work g c =
    let p = err_from_is_err_and c.from_residual-in_err-add_status-in-Ok.result c.from_residual-in_err-add_status-in-Ok.ensures.1 in
    works_untold c.args.self.now.profile c.args.request.now c.args.meta.now _ (seen_by g.F.GuardedFileSystem.seen g.L.DavLockSystem.seen c.delete_items.new.self) _ _
    (rw (c.depth_or_all.ensures, c.in_ok-path.ensures, c.new-res.ensures) at c.in-Ok.ensures.removal)
    (ap (option_map g.L.DavLockSystem.seen) c.in-Ok.ensures.same_locks)
    (rw c.in_ok-path.ensures at c.drop_locks.ensures.dropped)
    c.from_residual-in_err-add_status-in-Ok.result (ap answer_of p.1 ∙ ap Err (p.2 ∙ c.in_err-add_status-in-Ok.ensures.err))

pub returns-in-Err-Memory-clause-work : goal.returns-in-Err-Memory-clause-work
returns-in-Err-Memory-clause-work g c =
    works_stopped c.args.self.now.profile c.args.request.now c.args.meta.now _ _ _ _
    (rw (c.depth_or_all.ensures, c.in_ok-path.ensures, c.in-Err-Memory.field-0-is) at c.in-Err-Memory.ensures.removal)
    (ap (option_map g.L.DavLockSystem.seen) c.in-Err-Memory.ensures.same_locks)

pub returns-clause-work : goal.returns-clause-work
returns-clause-work g c =
    elim c.match-delete_items.branch [
      | in-Ok+in_ok-add_status-in-Ok w ↦
          let added = w.in_ok-add_status-in-Ok.ensures.ok in
          rw w.self-is (works_gone c.args.self.now.profile c.args.request.now c.args.meta.now _ (seen_by g.F.GuardedFileSystem.seen g.L.DavLockSystem.seen c.delete_items.new.self) _ _
          (rw (c.depth_or_all.ensures, c.in_ok-path.ensures, c.new-res.ensures) at w.in-Ok.ensures.removal)
          (ap (option_map g.L.DavLockSystem.seen) w.in-Ok.ensures.same_locks)
          (rw c.in_ok-path.ensures at w.drop_locks.ensures.dropped)
          c.into_items.result.items c.multi_error.result
          (c.into_items.ensures ∙ w.res-is ∙ rw (added.1, c.in_ok-path.ensures) at added.2)
          (rw c.in_ok-path.ensures at c.multi_error.ensures))
      | in-Err w ↦
          let not_memory : w.in-Err.field-0 ≢ Memory = search rules in
          rw w.self-is (works_named c.args.self.now.profile c.args.request.now c.args.meta.now w.in-Err.field-0 _ _ _ c.multi_error.result not_memory
          (rw (c.depth_or_all.ensures, c.in_ok-path.ensures, c.new-res.ensures) at w.in-Err.ensures.removal)
          (ap (option_map g.L.DavLockSystem.seen) w.in-Err.ensures.same_locks)
          (rw (c.in_ok-path.ensures, c.into_items.ensures, w.res-is) at c.multi_error.ensures))
    ]
