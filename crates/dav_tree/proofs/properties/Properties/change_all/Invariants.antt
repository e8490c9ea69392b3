use Rattle.std.proofs.Common.{◌≡◌}
use Rattle.dav_tree.specs.OrderedMaps.{seen_entries}
use Rattle.dav_tree.specs.PropertyNames.{key_of}
use Rattle.dav_tree.proofs.Patching.{change_each}
use Rattle.dav_tree.proofs.properties.Properties.change_all.Given as goal

abbrev pub invariant-loop-name : goal.invariant-loop-name
invariant-loop-name l = change_each l.self (seen_entries key_of l.name-iterator) ≡ change_each l.fn.self (seen_entries key_of l.fn.changed.entries)
