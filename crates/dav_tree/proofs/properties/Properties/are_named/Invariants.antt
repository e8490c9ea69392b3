use Rattle.std.specs.FinMap as fin
use Rattle.dav_tree.specs.OrderedMaps.{seen_entries}
use Rattle.dav_tree.specs.PropertyNames.{key_of}
use Rattle.dav_tree.proofs.Naming.{AllNamedBy}
use Rattle.dav_tree.proofs.properties.Properties.are_named.Given as goal

-- all are named if those that are left are
abbrev pub invariant-loop-name : goal.invariant-loop-name
invariant-loop-name l = record {
  all : AllNamedBy (seen_entries key_of l.name-iterator) → AllNamedBy (fin.entries l.self);
  left : AllNamedBy (fin.entries l.self) → AllNamedBy (seen_entries key_of l.name-iterator);
}
