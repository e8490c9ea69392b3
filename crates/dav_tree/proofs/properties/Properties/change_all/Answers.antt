use Rattle.std.proofs.Common.{◌∙◌, ap, sym}
use Rattle.dav_tree.specs.OrderedMaps.{seen_entries}
use Rattle.dav_tree.specs.PropertyNames.{key_of}
use Rattle.dav_tree.proofs.Patching.{change_each, are-changed}
use Rattle.dav_tree.proofs.properties.Properties.change_all.Goals as goal

pub returns : goal.returns
returns c =
    are-changed c.args.changed c.args.self.now c.loop-name.self c.into_iter-name-iterator.ensures.into_iter_gives.5
    (ap (λ es. change_each c.loop-name.self (seen_entries key_of es)) (sym c.in-None.ensures.steps.0) ∙ c.loop-name.invariant)
