use Rattle.std.proofs.Common.{◌≡◌}
use Rattle.std.specs.FinMap as fin
use Rattle.dav_key.specs.Key.{Key}
use Rattle.dav_tree.specs.OrderedMaps.{seen_entries}
use Rattle.dav_tree.specs.PropertyNames.{key_of}
use Rattle.dav_tree.proofs.PropertyMaps.{but}
use Rattle.dav_tree.proofs.properties.Properties.take_out_of.Given as goal

abbrev pub invariant-loop-name : goal.invariant-loop-name
invariant-loop-name l = (q : Key) → but (seen_entries key_of l.name-iterator) q (fin.get l.others q) ≡ but (fin.entries l.self) q (fin.get l.fn.others q)
