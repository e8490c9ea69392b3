use Rattle.std.proofs.Common.{◌∙◌, ap, Err}
use Rattle.std.proofs.lemmas.Result.{err_from_is_err_and}
use Rattle.dav_messages.specs.Reply.{answer_of}
use Rattle.dav_engine.proofs.Locking.{unlocks_unbegun, unlocks, unlocks_nothing}
use Rattle.dav_engine.proofs.inner.DavInner.unlock.Goals as goal

pub returns-in_err-reply-clause-work : goal.returns-in_err-reply-clause-work
returns-in_err-reply-clause-work g c =
    let p = err_from_is_err_and c.from_residual.result c.from_residual.ensures.1 in
    unlocks_unbegun c.args.request.now c.args.found c.args.token.now c.requires.token _ _ (ap answer_of p.1 ∙ ap Err (p.2 ∙ c.in_err-reply.ensures.err))

pub returns-then-remove_lock-clause-work : goal.returns-then-remove_lock-clause-work
returns-then-remove_lock-clause-work g c = unlocks c.args.request.now c.args.found c.args.token.now c.requires.token _ _ _ (c.remove_lock.ensures.removed c.if-remove_lock.true) c.in_ok-reply.ensures.ok

pub returns-clause-work : goal.returns-clause-work
returns-clause-work g c = unlocks_nothing c.args.request.now c.args.found c.args.token.now c.requires.token _ _ (c.remove_lock.ensures.kept c.if-remove_lock.false)
