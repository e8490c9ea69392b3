use Rattle.std.proofs.Common.{inl, inr, ap, ◌∙◌}
use Rattle.dav_server.specs.Batches.{bare_answer}
use Rattle.dav_server.specs.State.{ServerState}
use Rattle.dav_server.proofs.server.Server.skip_batch.Goals as goal

pub returns-then-begin-clause-answers : goal.returns-then-begin-clause-answers
returns-then-begin-clause-answers g c =
    λ content. inr (inr (inl (record { next = c.begin.ensures.next c.if-begin.true; answered = c.bare.ensures; same = c.begin.ensures.begun c.if-begin.true })))

pub returns-else-begin-clause-answers : goal.returns-else-begin-clause-answers
returns-else-begin-clause-answers g c =
    let same = c.begin.ensures.refused c.if-begin.false in
    λ content. inr (inr (inr (record {
      other = c.begin.ensures.other c.if-begin.false;
      answered = c.bare-else-begin.ensures ∙ ap (λ (s : ServerState). bare_answer s.last 409) same;
      same = same;
    })))
