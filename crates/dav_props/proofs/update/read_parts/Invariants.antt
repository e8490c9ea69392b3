use Rattle.std.proofs.Common.{◌≡◌, map, Bor}
use Rattle.std.specs.List.{flat_map}
use Rattle.dav_resource.specs.Tree.{Tree}
use Rattle.dav_props.specs.Update.{change_of, changes_in}
use Rattle.dav_props.proofs.update.read_parts.Given as goal

-- the changes that the parts so far ask for
abbrev pub invariant-loop-part : goal.invariant-loop-part
invariant-loop-part l = map change_of l.changes.items ≡ flat_map (changes_in l.profile l.can_deadprop) (map (λ (b : Bor Tree). b.now) l.yielded)
