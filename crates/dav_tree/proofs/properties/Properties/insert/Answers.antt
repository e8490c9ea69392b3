use Rattle.std.proofs.Common.{◌∙◌, ap}
use Rattle.std.specs.FinMap as map
use Rattle.dav_tree.specs.PropertyNames.{key_of}
use Rattle.dav_tree.proofs.PropertyMaps.{insert-properties_of}
use Rattle.dav_tree.proofs.properties.Properties.insert.Goals as goal

pub returns-clause-ok : goal.returns-clause-ok
returns-clause-ok c = insert-properties_of c.self.inside.map c.insert.new.self c.args.name c.args.element c.in_ok-insert.ensures.entries ∙ ap (λ m. map.insert m (key_of c.args.name) c.args.element) c.self.view_is
