use Rattle.std.proofs.Common.{[], ◌∷◌, ap, subst}
use Rattle.dav_resource.specs.declared.record.Record.{Record}
use Rattle.dav_resource.specs.declared.record.Op.TheVariants.{WriteBytes}
use Rattle.dav_store.specs.Calls.{Writes}
use Rattle.dav_store.specs.BodyCalls.{stored_bytes}
use Rattle.dav_refusing.specs.Refusing.{body_behind}
use Rattle.dav_wrapping.specs.StoreCalls.{writes_call}
use Rattle.dav_refusing.proofs.Refusals.{passes, lawful}
use Rattle.dav_refusing.proofs.refusing.RefusingGuardedFileSystem.write_body.Goals as goal

pub returns-clause-plan : goal.returns-clause-plan
returns-clause-plan g c =
    passes g.F.GuardedFileSystem.seen WriteBytes (c.args.file.now.path ∷ []) (writes_call c.args.file.now (body_behind g.F.GuardedFileSystem.seen c.args.self.now c.args.number))
    c.args.self.now c.begin.new.self c.finish.new.self c.write_body-answer.new.self c.in_ok-paths.paths (record c.in_ok-call.call { outcome = c.last_outcome-call.result }) c.last_outcome-call.result c.records.result.now c.write_body-answer.result c.finish.result
    c.in_ok-paths.ensures c.in_ok-call.ensures.free c.in_ok-call.ensures.kept
    (subst (λ store. Writes (g.F.GuardedFileSystem.seen c.begin.new.self.inner) c.args.file.now (stored_bytes (g.F.GuardedFileSystem.seen store).facts.bodies c.args.number) c.write_body-answer.result (g.F.GuardedFileSystem.seen c.write_body-answer.new.self)) c.in_ok-call.ensures.kept.inner c.write_body-answer.ensures.written)
    (ap (λ (r : Record). record r { outcome = c.last_outcome-call.result }) c.in_ok-call.ensures.call) c.records.ensures c.last_outcome-call.ensures
    c.finish.ensures.answer c.finish.ensures.inner c.finish.ensures.memory c.finish.ensures.counted c.finish.ensures.recorded

pub returns-clause-written : goal.returns-clause-written
returns-clause-written g c =
    lawful g.F.GuardedFileSystem.seen WriteBytes (c.args.file.now.path ∷ []) (writes_call c.args.file.now (body_behind g.F.GuardedFileSystem.seen c.args.self.now c.args.number)) c.args.self.now c.finish.new.self c.finish.result (returns-clause-plan g c)
