use Rattle.std.proofs.Common.{All}
use Rattle.dav_store.specs.PropertyCalls.{IsWhole}
use Rattle.davtrace.proofs.change.patches_of.Given as goal

abbrev pub invariant-loop-change : goal.invariant-loop-change
invariant-loop-change l = All IsWhole l.patches.items
