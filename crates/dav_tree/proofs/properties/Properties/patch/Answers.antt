use Rattle.dav_store.specs.PropertyCalls.{patched}
use Rattle.dav_tree.specs.Patching.{changes_of}
use Rattle.dav_tree.proofs.Patching.{plan-done}
use Rattle.dav_tree.proofs.properties.Properties.patch.Goals as goal

pub returns-clause-ok : goal.returns-clause-ok
returns-clause-ok c =
    plan-done c.args.self.now c.in_ok-added.field-0.added (changes_of c.in_ok-added.field-0.changed) (patched c.args.patches.now c.args.self.now) c.in_ok-added.ensures
    c.add_to.new.others c.change_all.new.self c.in_ok-add_to.ensures.ok c.change_all.ensures
