use Rattle.std.proofs.Common.{◌≡◌, take}
use Rattle.dav_store.specs.PropertyCalls.{set_created}
use Rattle.dav_tree.proofs.entry.set_created.Given as goal

-- the last one of the changes so far
abbrev pub invariant-loop-patch : goal.invariant-loop-patch
invariant-loop-patch l = l.time ≡ set_created (take l.patch-index l.patches)
