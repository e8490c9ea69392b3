use Rattle.std.proofs.Common.{◌∙◌, sym}
use Rattle.dav_memls.proofs.Entering.{always_err, at_err, left_as_before, no_err, no_ok}
use Rattle.dav_memls.proofs.memory_locks.index.LockIndex.enter.Goals as goal

pub returns-then-is_err-clause-ok : goal.returns-then-is_err-clause-ok
returns-then-is_err-clause-ok c = no_ok c.try_enter-entered.result _ (sym c.is_err.ensures.value ∙ c.if-is_err.true)

pub returns-then-is_err-clause-err : goal.returns-then-is_err-clause-err
returns-then-is_err-clause-err c =
    let failed = sym c.is_err.ensures.value ∙ c.if-is_err.true in
    always_err c.try_enter-entered.result (left_as_before c.args.lock.now c.args.number c.args.self.now c.try_enter-entered.new.self c.leave.new.self c.requires.token (at_err c.try_enter-entered.result failed c.try_enter-entered.ensures.err) c.leave.ensures)

pub returns-else-is_err-clause-err : goal.returns-else-is_err-clause-err
returns-else-is_err-clause-err c = no_err c.try_enter-entered.result _ (sym c.is_err.ensures.value ∙ c.if-is_err.false)
