use Rattle.std.proofs.Common.{◌≡◌}
use Rattle.std.specs.Prelude.{filter_map}
use Rattle.dav_resource.specs.declared.property.DavProp.{DavProp}
use Rattle.dav_find.proofs.finding.kept_elements.Given as goal

-- those so far
abbrev pub invariant-loop-prop : goal.invariant-loop-prop
invariant-loop-prop l = l.elements.items ≡ filter_map (λ (p : DavProp). p.element) l.yielded
