use Rattle.std.proofs.Common.{◌∙◌, ap, ◌==◌}
use Rattle.std.specs.FinMap as map
use Rattle.dav_tree.proofs.PropertyMaps.{is_empty-properties_of}
use Rattle.dav_tree.proofs.properties.Properties.is_empty.Goals as goal

pub returns : goal.returns
returns c = is_empty-properties_of c.self.inside.map c.is_empty.result c.self.invariant c.is_empty.ensures ∙ ap (λ m. map.len m == 0) c.self.view_is
