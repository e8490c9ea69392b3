use Rattle.std.proofs.Common.{◌∙◌, ap}
use Rattle.std.specs.FinMap as map
use Rattle.dav_tree.specs.PropertyNames.{key_of}
use Rattle.dav_tree.proofs.PropertyMaps.{remove-properties_of}
use Rattle.dav_tree.proofs.properties.Properties.remove.Goals as goal

pub returns : goal.returns
returns c = remove-properties_of c.self.inside.map c.remove.new.self c.args.name.now c.self.invariant c.remove.ensures.entries ∙ ap (λ m. map.remove m (key_of c.args.name.now)) c.self.view_is
