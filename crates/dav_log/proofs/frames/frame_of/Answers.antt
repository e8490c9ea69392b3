use Rattle.std.proofs.Common.{arith, rules, ◌+◌, ◌*◌, ◌≤◌, length}
use Rattle.dav_log.proofs.FrameLemmas.{within_is, frame_is}
use Rattle.dav_log.proofs.frames.frame_of.Goals as goal

pub overflow_mul-at : goal.overflow_mul-at
overflow_mul-at c = omega (arith, within_is _ _ _ c.requires)

pub overflow_add-at-2 : goal.overflow_add-at-2
overflow_add-at-2 c = omega (arith, within_is _ _ _ c.requires)

pub overflow_add-result-2 : goal.overflow_add-result-2
overflow_add-result-2 c = omega (arith, within_is _ _ _ c.requires)

pub slice_bounds-result-end : goal.slice_bounds-result-end
slice_bounds-result-end c =
    let fits : 32 + c.args.i * (24 + c.args.page_size) + (24 + c.args.page_size) ≤ length c.args.log.now = within_is _ _ _ c.requires in
    search rules

pub returns-clause-value : goal.returns-clause-value
returns-clause-value c = frame_is c.args.page_size c.args.log.now c.args.i _ (omega arith)
