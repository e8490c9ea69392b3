use Rattle.std.proofs.Common.{inl, inr}
use Rattle.davd.proofs.Leaves.{is_ok, is_err, ok_anyway, err_anyway, ok_by_both, synced, lower, runs_and_leaves, runs_with_log, stops_and_leaves}
use Rattle.davd.specs.Folder.{rules_for}
use Rattle.davd.proofs.serving.serve_to_the_end.Goals as goal

pub returns-in-Ok-clause-served : goal.returns-in-Ok-clause-served
returns-in-Ok-clause-served g c =
    let kept = c.serve_opened-ended.result.1 in
    let last = c.serve_opened-ended.result.2 in
    let serves = is_ok c.serve_opened-ended.result.0 c.in-Ok.field-0 c.in-Ok.is c.serve_opened-ended.ensures.served in
    ok_by_both c.ended_by-ended.result c.ended_by-ended.ensures.copied c.ended_by-ended.ensures.synced
    (λ copied ok. runs_and_leaves (rules_for c.args.options) c.args.opened kept.0 kept.1 c.close_folder-copied.result.1 _ _ _ _ c.sync_both.new.self
    (c.close_folder-copied.ensures.whole copied)
    (synced last c.sync_both.new.self _ c.sync_both.result ok c.serve_opened-ended.ensures.exact (λ unusable. (c.sync_both.ensures.stopped unusable).0) c.sync_both.ensures.number c.sync_both.ensures.both) serves)

pub returns-in-Ok-clause-stopped : goal.returns-in-Ok-clause-stopped
returns-in-Ok-clause-stopped g c =
    let kept = c.serve_opened-ended.result.1 in
    let serves = is_ok c.serve_opened-ended.result.0 c.in-Ok.field-0 c.in-Ok.is c.serve_opened-ended.ensures.served in
    err_anyway c.ended_by-ended.result
    (inr (runs_with_log (rules_for c.args.options) c.args.opened kept.0 kept.1 c.close_folder-copied.result.1 _ _ _ _ c.sync_both.new.self (lower c.sync_both.ensures.number c.serve_opened-ended.ensures.kept)
    c.close_folder-copied.ensures.alone serves))

pub returns-in-Ok-clause-clean : goal.returns-in-Ok-clause-clean
returns-in-Ok-clause-clean g c = λ clean. c.serve_opened-ended.ensures.clean (c.close_folder-copied.ensures.clean clean)

pub returns-in-Ok-clause-calm : goal.returns-in-Ok-clause-calm
returns-in-Ok-clause-calm g c = λ clean. c.serve_opened-ended.ensures.calm (c.sync_both.ensures.clean.0 clean)

pub returns-in-Ok-clause-end : goal.returns-in-Ok-clause-end
returns-in-Ok-clause-end g c =
    ok_anyway c.ended_by-ended.result (is_ok c.serve_opened-ended.result.0 c.in-Ok.field-0 c.in-Ok.is c.serve_opened-ended.ensures.end)

pub returns-in-Err-clause-stopped : goal.returns-in-Err-clause-stopped
returns-in-Err-clause-stopped g c =
    let kept = c.serve_opened-ended.result.1 in
    inl (stops_and_leaves (rules_for c.args.options) c.args.opened kept.0 kept.1 c.give_up.result _ _ c.serve_opened-ended.result.2 c.serve_opened-ended.ensures.kept c.give_up.ensures.alone c.give_up.ensures.either
    (is_err c.serve_opened-ended.result.0 c.in-Err.stopped c.in-Err.is c.serve_opened-ended.ensures.stopped))
