use Rattle.dav_tree.specs.PropertyNames.{key_of, name_cmp}
use Rattle.dav_tree.proofs.OrderedKeys.{insert-map}
use Rattle.dav_tree.proofs.PropertyMaps.{names_agree}
use Rattle.dav_tree.proofs.properties.patching.Plan.change.Goals as goal

pub returns-clause-changed : goal.returns-clause-changed
returns-clause-changed c = insert-map key_of name_cmp c.args.name c.args.element (names_agree c.args.name) c.args.self.now.changed c.insert.new.self c.in_ok-insert.ensures.entries
