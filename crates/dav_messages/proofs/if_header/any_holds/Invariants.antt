use Rattle.std.proofs.Common.{drop, Some, option_map, option_copied}
use Rattle.dav_messages.specs.Dialogue.{Reaches}
use Rattle.dav_messages.specs.Conditions.{locks_in, any_holds}
use Rattle.dav_messages.proofs.if_header.any_holds.Given as goal

-- none of the lists so far holds, and `about` is what the last of them is about
abbrev pub invariant-loop-list : goal.invariant-loop-list
invariant-loop-list g l =
    let seen = g.F.GuardedFileSystem.seen in
    let left = any_holds (seen l.fn.fs).contents (locks_in g.L.DavLockSystem.seen (option_copied l.ls)) l.path in
    Reaches (left (Some l.path.key) l.lists) (seen l.fn.fs) (left (option_map (λ p. p.key) l.about) (drop l.list-index l.lists)) (seen l.fs)
