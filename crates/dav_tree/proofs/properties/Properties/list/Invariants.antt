use Rattle.std.proofs.Common.{◌≡◌, ◌++◌, map, Some}
use Rattle.std.specs.Option.{option_map}
use Rattle.std.specs.FinMap as fin
use Rattle.dav_resource.specs.Tree.{Tree}
use Rattle.dav_tree.specs.OrderedMaps.{seen_entries}
use Rattle.dav_store.specs.PropertyCalls.{named_element}
use Rattle.dav_tree.specs.PropertyNames.{key_of}
use Rattle.dav_tree.proofs.PropertyMaps.{listed}
use Rattle.dav_tree.proofs.properties.Properties.list.Given as goal

abbrev pub invariant-loop-name : goal.invariant-loop-name
invariant-loop-name l = record {
  named : map named_element l.props.items ++ map listed (seen_entries key_of l.name-iterator) ≡ map listed (fin.entries l.self);
  prefixes : map (λ p. Some p.prefix) l.props.items ≡ map (λ p. option_map (λ (e : Tree). e.tag.prefix) p.element) l.props.items;
}
