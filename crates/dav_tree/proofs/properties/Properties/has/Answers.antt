use Rattle.std.proofs.Common.{◌∙◌, ap, is_some}
use Rattle.std.specs.FinMap as map
use Rattle.dav_tree.specs.PropertyNames.{key_of}
use Rattle.dav_tree.proofs.PropertyMaps.{get-properties_of}
use Rattle.dav_tree.proofs.properties.Properties.has.Goals as goal

pub returns : goal.returns
returns c = c.contains_key.ensures ∙ ap is_some (get-properties_of c.args.name.now c.self.inside.map ∙ ap (λ m. map.get m (key_of c.args.name.now)) c.self.view_is)
