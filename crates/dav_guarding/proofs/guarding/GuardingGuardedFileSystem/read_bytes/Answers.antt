use Rattle.std.proofs.Common.{[], ◌∷◌, ap}
use Rattle.dav_resource.specs.declared.record.Record.{Record}
use Rattle.dav_resource.specs.declared.record.Op.TheVariants.{ReadBytes}
use Rattle.dav_wrapping.specs.StoreCalls.{reads_bytes_call}
use Rattle.dav_guarding.proofs.Guards.{allowed_one, passes, lawful}
use Rattle.dav_guarding.proofs.guarding.GuardingGuardedFileSystem.read_bytes.Goals as goal

pub finish-requires : goal.finish-requires
finish-requires g c = record {
  room = c.in_ok-call.ensures.room;
  allowed = allowed_one c.args.self.now.guard c.begin.new.self ReadBytes c.in_ok-paths.paths c.last_outcome-call.result [] (record c.in_ok-call.call { outcome = c.last_outcome-call.result })
      c.in_ok-call.ensures.free c.in_ok-call.ensures.kept (ap (λ (r : Record). record r { outcome = c.last_outcome-call.result }) c.in_ok-call.ensures.call);
}

pub returns-clause-guarded : goal.returns-clause-guarded
returns-clause-guarded g c =
    passes g.F.GuardedFileSystem.seen ReadBytes (c.args.path.now ∷ []) (reads_bytes_call (g.F.GuardedFileSystem.reads c.read_bytes-answer.new.self) c.args.path.now.key c.args.place c.args.count)
    c.args.self.now c.begin.new.self c.finish.new.self c.read_bytes-answer.new.self c.in_ok-paths.paths (record c.in_ok-call.call { outcome = c.last_outcome-call.result }) c.last_outcome-call.result c.records.result.now c.read_bytes-answer.result c.finish.result
    c.in_ok-paths.ensures c.in_ok-call.ensures.free c.in_ok-call.ensures.kept
    c.read_bytes-answer.ensures.read
    (ap (λ (r : Record). record r { outcome = c.last_outcome-call.result }) c.in_ok-call.ensures.call) c.records.ensures c.last_outcome-call.ensures
    c.finish.ensures.answer c.finish.ensures.policy c.finish.ensures.memory c.finish.ensures.recorded

pub returns-clause-seen : goal.returns-clause-seen
returns-clause-seen g c =
    lawful g.F.GuardedFileSystem.seen ReadBytes (c.args.path.now ∷ []) (reads_bytes_call (g.F.GuardedFileSystem.reads c.read_bytes-answer.new.self) c.args.path.now.key c.args.place c.args.count) c.args.self.now _ c.finish.result (returns-clause-guarded g c)
