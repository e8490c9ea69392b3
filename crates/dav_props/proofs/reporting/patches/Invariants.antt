use Rattle.std.proofs.Common.{◌≡◌, map, take}
use Rattle.dav_props.specs.Update.{change_of, patches_of}
use Rattle.dav_props.proofs.reporting.patches.Given as goal

-- those of the changes so far
abbrev pub invariant-loop-change : goal.invariant-loop-change
invariant-loop-change l = l.patches.items ≡ patches_of (map change_of (take l.change-index l.changes))
