use Rattle.std.proofs.Common.{◌∙◌, ap, sym, Err}
use Rattle.std.proofs.lemmas.Result.{err_from_is_err_and}
use Rattle.dav_messages.specs.Reply.{answer_of}
use Rattle.dav_engine.proofs.Locking.{tells_unbegun, tells_found, tells_made, tells_not}
use Rattle.dav_engine.proofs.inner.DavInner.answer_lock.Goals as goal

pub returns-then-is_some-clause-work : goal.returns-then-is_some-clause-work
returns-then-is_some-clause-work g c = tells_found c.args.self.now.profile c.args.request.now c.args.found.now c.args.lock.now _ _ (sym c.is_some.ensures ∙ c.if-is_some.true) c.in_ok-reply.ensures.ok

pub returns-in_err-options-clause-work : goal.returns-in_err-options-clause-work
returns-in_err-options-clause-work g c =
    let p = err_from_is_err_and c.from_residual-in_err-options.result c.from_residual-in_err-options.ensures.1 in
    tells_unbegun c.args.self.now.profile c.args.request.now c.args.found.now c.args.lock.now _ _ (ap answer_of p.1 ∙ ap Err (p.2 ∙ c.in_err-options.ensures.err))

pub returns-in-Ok-clause-work : goal.returns-in-Ok-clause-work
returns-in-Ok-clause-work g c =
    tells_made c.args.self.now.profile c.args.request.now c.args.lock.now c.args.found.now c.in-Ok.field-0 _ _ _ (sym c.is_some.ensures ∙ c.if-is_some.false)
    (rw c.in_ok-options.ensures.ok at c.in-Ok.ensures.granted) c.in_ok-reply.ensures.ok

pub returns-in-Err-clause-work : goal.returns-in-Err-clause-work
returns-in-Err-clause-work g c =
    rw (c.lock_open_error.ensures, c.in_ok-options.ensures.ok)
    (tells_not c.args.self.now.profile c.args.request.now c.args.lock.now c.args.found.now c.in-Err.error _ _ (sym c.is_some.ensures ∙ c.if-is_some.false) (rw c.in_ok-options.ensures.ok at c.in-Err.ensures.declined))
