use Rattle.std.proofs.Common.{◌≡◌, ◌++◌, map, Bor}
use Rattle.dav_resource.specs.Tree.{Tree}
use Rattle.dav_props.specs.Update.{change_of, judged}
use Rattle.dav_props.proofs.update.read_prop.Given as goal

-- the changes of the elements so far
abbrev pub invariant-loop-element : goal.invariant-loop-element
invariant-loop-element l =
    map change_of l.changes.items ≡ map change_of l.fn.changes.items ++ map (judged l.profile l.can_deadprop l.set) (map (λ (b : Bor Tree). b.now) l.yielded)
