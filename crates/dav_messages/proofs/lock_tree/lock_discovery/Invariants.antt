use Rattle.std.proofs.Common.{◌≡◌, take}
use Rattle.dav_messages.specs.LockTree.{lock_discovery}
use Rattle.dav_messages.proofs.lock_tree.lock_discovery.Given as goal

-- a tree for each lock so far
abbrev pub invariant-loop-lock : goal.invariant-loop-lock
invariant-loop-lock l = l.tree ≡ lock_discovery l.profile (take l.lock-index l.locks)
