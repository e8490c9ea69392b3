use Rattle.std.proofs.Common.{◌∙◌, ap}
use Rattle.std.specs.FinMap as map
use Rattle.dav_tree.specs.PropertyNames.{key_of}
use Rattle.dav_tree.proofs.PropertyMaps.{get-properties_of}
use Rattle.dav_tree.proofs.properties.Properties.get.Goals as goal

pub returns : goal.returns
returns c = c.get.ensures.value ∙ get-properties_of c.in_ok-name.name c.self.inside.map ∙ ap (λ m. map.get m (key_of c.in_ok-name.name)) c.self.view_is ∙ ap (map.get c.args.self.now) c.in_ok-name.ensures
