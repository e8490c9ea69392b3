use Rattle.std.proofs.Common.{ap}
use Rattle.std.specs.Option.{option_map}
use Rattle.dav_store.specs.PropertyCalls.{IsQuota, get_quota_call}
use Rattle.dav_find.specs.Finding.{quota_pair}
use Rattle.dav_find.proofs.Answering.{judges_answer}
use Rattle.dav_find.proofs.finding.Finder.ask_quota.Goals as goal

pub returns-in-None-clause-rules : goal.returns-in-None-clause-rules
returns-in-None-clause-rules g c =
    rw c.in-None.is
    (judges_answer (get_quota_call (g.F.GuardedFileSystem.seen c.args.fs.now).contents) IsQuota _ _ _ _ _ (λ a effect. (ap (option_map quota_pair) effect.answer_is, effect.same)) c.get_quota-answer.ensures c.returned_by.ensures.returned)
