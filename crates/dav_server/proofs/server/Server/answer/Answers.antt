use Rattle.std.proofs.Common.{inl, inr, refl, sym, ◌∙◌}
use Rattle.dav_server.proofs.Executing.{unfit}
use Rattle.dav_server.proofs.server.Server.answer.Goals as goal

pub returns-in-Err-clause-answers : goal.returns-in-Err-clause-answers
returns-in-Err-clause-answers g c =
    inl (c.in-Err.error, refl, refl, unfit _ _ _ _ (rw c.prefix.ensures at c.in-Err.ensures.err))

pub returns-in-Ok-true-clause-answers : goal.returns-in-Ok-true-clause-answers
returns-in-Ok-true-clause-answers g c =
    let is = rw c.prefix.ensures at c.in-Ok.ensures.ok in
    inl (_, refl, refl, inr (inr (refl, record { request = c.in-Ok.request; is = is; forbidden = sym c.in-Ok-true.ensures.ok ∙ c.in-Ok-true.field-0-test })))

pub returns-in-Ok-false-clause-answers : goal.returns-in-Ok-false-clause-answers
returns-in-Ok-false-clause-answers g c =
    let is = rw c.prefix.ensures at c.in-Ok.ensures.ok in
    inr (c.in-Ok.request, record { is = is; allowed = sym c.in-Ok-false.ensures.ok ∙ c.in-Ok-false.field-0-test; executes = c.execute.ensures.executes })
