use Rattle.std.proofs.Common.{[], ◌∷◌, ap}
use Rattle.std.proofs.lemmas.Result.{err_from_is_err_and}
use Rattle.dav_resource.specs.declared.record.Record.{Record}
use Rattle.dav_resource.specs.declared.record.Op.TheVariants.{Copy}
use Rattle.dav_wrapping.specs.StoreCalls.{copies_call}
use Rattle.dav_refusing.proofs.Refusals.{passes, lawful, turned_away}
use Rattle.dav_refusing.proofs.refusing.RefusingGuardedFileSystem.copy.Goals as goal

pub returns-clause-plan : goal.returns-clause-plan
returns-clause-plan g c =
    passes g.F.GuardedFileSystem.seen Copy (c.args.from.now ∷ c.args.to.now ∷ []) (copies_call c.args.from.now.key c.args.to.now.key)
    c.args.self.now c.begin.new.self c.finish.new.self c.copy-answer.new.self c.in_ok-paths.paths (record c.in_ok-call.call { outcome = c.last_outcome-call.result }) c.last_outcome-call.result c.records.result.now c.copy-answer.result c.finish.result
    c.in_ok-paths.ensures c.in_ok-call.ensures.free c.in_ok-call.ensures.kept c.copy-answer.ensures
    (ap (λ (r : Record). record r { outcome = c.last_outcome-call.result }) c.in_ok-call.ensures.call) c.records.ensures c.last_outcome-call.ensures
    c.finish.ensures.answer c.finish.ensures.inner c.finish.ensures.memory c.finish.ensures.counted c.finish.ensures.recorded

pub returns-clause-seen : goal.returns-clause-seen
returns-clause-seen g c =
    lawful g.F.GuardedFileSystem.seen Copy (c.args.from.now ∷ c.args.to.now ∷ []) (copies_call c.args.from.now.key c.args.to.now.key) c.args.self.now c.finish.new.self c.finish.result (returns-clause-plan g c)

pub returns-in_err-call-clause-seen : goal.returns-in_err-call-clause-seen
returns-in_err-call-clause-seen g c =
    let p = err_from_is_err_and c.from_residual-in_err-call.result c.from_residual-in_err-call.ensures.1 in
    rw (p.1, p.2) (turned_away g.F.GuardedFileSystem.seen Copy (c.args.from.now ∷ c.args.to.now ∷ []) (copies_call c.args.from.now.key c.args.to.now.key) c.args.self.now c.begin.new.self c.in_ok-paths.paths c.in_err-call.field-0.0 c.in_ok-paths.ensures c.in_err-call.ensures.refused)
