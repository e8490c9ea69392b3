use Rattle.std.proofs.Common.{◌∙◌, [], ◌∷◌, ap}
use Rattle.dav_resource.specs.declared.record.Record.{Record}
use Rattle.dav_resource.specs.declared.record.Op.TheVariants.{PatchProps}
use Rattle.dav_wrapping.specs.Recorded.{answered_statuses, patches_call}
use Rattle.dav_guarding.proofs.Guards.{allowed_one, passes, lawful}
use Rattle.dav_guarding.proofs.guarding.GuardingGuardedFileSystem.patch_props.Goals as goal

pub finish-requires : goal.finish-requires
finish-requires g c = record {
  room = c.in_ok-call.ensures.room;
  allowed = allowed_one c.args.self.now.guard c.begin.new.self PatchProps c.in_ok-paths.paths c.last_outcome-call.result (answered_statuses c.patch_props-answer.result) c.with_statuses.result
      c.in_ok-call.ensures.free c.in_ok-call.ensures.kept (c.with_statuses.ensures ∙ ap (λ (r : Record). record r { outcome = c.last_outcome-call.result; statuses = answered_statuses c.patch_props-answer.result }) c.in_ok-call.ensures.call);
}

pub returns-clause-guarded : goal.returns-clause-guarded
returns-clause-guarded g c =
    passes g.F.GuardedFileSystem.seen PatchProps (c.args.path.now ∷ []) (patches_call c.args.path.now.key c.args.patches.now)
    c.args.self.now c.begin.new.self c.finish.new.self c.patch_props-answer.new.self c.in_ok-paths.paths c.with_statuses.result c.last_outcome-call.result c.records.result.now c.patch_props-answer.result c.finish.result
    c.in_ok-paths.ensures c.in_ok-call.ensures.free c.in_ok-call.ensures.kept c.patch_props-answer.ensures
    (c.with_statuses.ensures ∙ ap (λ (r : Record). record r { outcome = c.last_outcome-call.result; statuses = answered_statuses c.patch_props-answer.result }) c.in_ok-call.ensures.call) c.records.ensures c.last_outcome-call.ensures
    c.finish.ensures.answer c.finish.ensures.policy c.finish.ensures.memory c.finish.ensures.recorded

pub returns-clause-seen : goal.returns-clause-seen
returns-clause-seen g c =
    lawful g.F.GuardedFileSystem.seen PatchProps (c.args.path.now ∷ []) (patches_call c.args.path.now.key c.args.patches.now) c.args.self.now _ c.finish.result (returns-clause-guarded g c)
