use Rattle.dav_messages.specs.Dialogues.{judges_exit, judges_then, judges_if}
use Rattle.dav_engine.proofs.inner.DavInner.judge_path.Goals as goal

pub returns-in_err-tokens-clause-rules : goal.returns-in_err-tokens-clause-rules
returns-in_err-tokens-clause-rules g c = judges_exit _ _ _ _ _ _ c.from_residual.ensures.1 (rw c.as_ref.ensures.value at c.in_err-tokens.ensures.rules)

pub returns-clause-rules : goal.returns-clause-rules
returns-clause-rules g c =
    let judged = c.in_ok-tokens.ensures in
    let permitted = rw (c.is_permitted-permitted.ensures, c.as_slice.ensures, judged.tokens, judged.same_locks) at c.where_permitted.ensures in
    judges_then _ _ _ _ _ _ _ (rw c.as_ref.ensures.value at judged.rules) (judges_if _ _ _ _ _ permitted)
