use Rattle.std.proofs.Common.{◌≡◌, ◌++◌, map, Bor}
use Rattle.std.specs.List.{flat_map}
use Rattle.dav_resource.specs.Tree.{Tree}
use Rattle.dav_props.specs.Update.{change_of, judged, properties_of}
use Rattle.dav_props.proofs.update.read_properties.Given as goal

-- the changes of the elements so far
abbrev pub invariant-loop-prop : goal.invariant-loop-prop
invariant-loop-prop l =
    map change_of l.changes.items
    ≡ map change_of l.fn.changes.items ++ map (judged l.profile l.can_deadprop l.set) (flat_map properties_of (map (λ (b : Bor Tree). b.now) l.yielded))
