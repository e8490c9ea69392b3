use Rattle.std.proofs.Common.{drop, option_map, option_copied}
use Rattle.dav_messages.specs.Dialogue.{Reaches}
use Rattle.dav_messages.specs.Conditions.{locks_in, all_hold}
use Rattle.dav_messages.proofs.if_header.all_hold.Given as goal

-- the conditions so far hold
abbrev pub invariant-loop-condition : goal.invariant-loop-condition
invariant-loop-condition g l =
    let seen = g.F.GuardedFileSystem.seen in
    let left = all_hold (seen l.fn.fs).contents (locks_in g.L.DavLockSystem.seen (option_copied l.ls)) (option_map (λ p. p.now.key) l.path) in
    Reaches (left l.conditions) (seen l.fn.fs) (left (drop l.condition-index l.conditions)) (seen l.fs)
