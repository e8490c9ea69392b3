use Rattle.std.proofs.Common.{take}
use Rattle.dav_store.specs.PropertyCalls.{patched}
use Rattle.dav_tree.specs.Patching.{IsPlan, changes_of}
use Rattle.dav_tree.proofs.properties.Properties.plan.Given as goal

abbrev pub invariant-loop-patch : goal.invariant-loop-patch
invariant-loop-patch l = IsPlan l.self l.plan.added (changes_of l.plan.changed) (patched (take l.patch-index l.patches) l.self)
