use Rattle.std.proofs.Common.{◌≡◌, take}
use Rattle.dav_store.specs.PropertyCalls.{set_modified}
use Rattle.dav_tree.proofs.entry.set_modified.Given as goal

-- the last one of the changes so far
abbrev pub invariant-loop-patch : goal.invariant-loop-patch
invariant-loop-patch l = l.time ≡ set_modified (take l.patch-index l.patches)
