use Rattle.std.proofs.Common.{◌≡◌, map, filter, take}
use Rattle.dav_resource.specs.Methods.{contains_method}
use Rattle.dav_engine.specs.Options.{name_of}
use Rattle.dav_engine.proofs.options.names_in.Given as goal

-- the names of the methods so far
abbrev pub invariant-loop-method : goal.invariant-loop-method
invariant-loop-method l = map (λ name. name.now) l.names.items ≡ map name_of (filter (contains_method l.offered) (take l.method-index l.methods))
