use Rattle.std.proofs.Common.{◌≡◌, None}
use Rattle.std.specs.FinMap as fin
use Rattle.std.specs.FinMap.Entries.{find}
use Rattle.dav_key.specs.Key.{Key, key_cmp}
use Rattle.dav_tree.specs.OrderedMaps.{seen_entries}
use Rattle.dav_tree.specs.PropertyNames.{key_of}
use Rattle.dav_tree.proofs.PropertyMaps.{put_all}
use Rattle.dav_tree.proofs.properties.Properties.put_into.Given as goal

abbrev pub invariant-loop-name : goal.invariant-loop-name
invariant-loop-name l = record {
  all : put_all l.others (seen_entries key_of l.name-iterator) ≡ put_all l.fn.others (fin.entries l.self);
  rest : (q : Key) → fin.get l.self q ≡ None → (find key_cmp q (seen_entries key_of l.name-iterator) ≡ None) × (fin.get l.others q ≡ fin.get l.fn.others q);
}
