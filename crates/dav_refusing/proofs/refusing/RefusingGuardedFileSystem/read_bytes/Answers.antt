use Rattle.std.proofs.Common.{[], ◌∷◌, ap}
use Rattle.dav_resource.specs.declared.record.Record.{Record}
use Rattle.dav_resource.specs.declared.record.Op.TheVariants.{ReadBytes}
use Rattle.dav_wrapping.specs.StoreCalls.{reads_bytes_call}
use Rattle.dav_refusing.proofs.Refusals.{passes, lawful}
use Rattle.dav_refusing.proofs.refusing.RefusingGuardedFileSystem.read_bytes.Goals as goal

pub returns-clause-plan : goal.returns-clause-plan
returns-clause-plan g c =
    passes g.F.GuardedFileSystem.seen ReadBytes (c.args.path.now ∷ []) (reads_bytes_call (g.F.GuardedFileSystem.reads c.finish.new.self.inner) c.args.path.now.key c.args.place c.args.count)
    c.args.self.now c.begin.new.self c.finish.new.self c.read_bytes-answer.new.self c.in_ok-paths.paths (record c.in_ok-call.call { outcome = c.last_outcome-call.result }) c.last_outcome-call.result c.records.result.now c.read_bytes-answer.result c.finish.result
    c.in_ok-paths.ensures c.in_ok-call.ensures.free c.in_ok-call.ensures.kept
    (rw c.finish.ensures.inner c.read_bytes-answer.ensures.read)
    (ap (λ (r : Record). record r { outcome = c.last_outcome-call.result }) c.in_ok-call.ensures.call) c.records.ensures c.last_outcome-call.ensures
    c.finish.ensures.answer c.finish.ensures.inner c.finish.ensures.memory c.finish.ensures.counted c.finish.ensures.recorded

pub returns-clause-seen : goal.returns-clause-seen
returns-clause-seen g c =
    lawful g.F.GuardedFileSystem.seen ReadBytes (c.args.path.now ∷ []) (reads_bytes_call (g.F.GuardedFileSystem.reads c.finish.new.self.inner) c.args.path.now.key c.args.place c.args.count) c.args.self.now c.finish.new.self c.finish.result (returns-clause-plan g c)
