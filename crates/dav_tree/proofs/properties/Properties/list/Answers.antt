use Rattle.std.proofs.Common.{◌≡◌, ◌∙◌, ap, sym, map, ◌++◌}
use Rattle.std.specs.FinMap as fin
use Rattle.dav_tree.specs.OrderedMaps.{seen_entries}
use Rattle.dav_store.specs.PropertyCalls.{named_element}
use Rattle.dav_tree.specs.PropertyNames.{key_of}
use Rattle.dav_tree.proofs.PropertyMaps.{listed, entries-properties_of}
use Rattle.dav_tree.proofs.properties.Properties.list.Goals as goal

pub loop-name-init : goal.loop-name-init
loop-name-init c =
    let starts : c.into_iter-name-iterator.result ≡ c.self.inside.map.entries = c.into_iter-name-iterator.ensures.into_iter_gives.0 in
    record {
      named =
          ap (λ ps. map named_element ps ++ map listed (seen_entries key_of c.into_iter-name-iterator.result)) c.new-props.ensures.items
          ∙ ap (λ es. map listed (seen_entries key_of es)) starts
          ∙ sym (ap (map listed) (entries-properties_of c.self.inside.map c.self.invariant))
          ∙ ap (λ m. map listed (fin.entries m)) c.self.view_is;
      prefixes = rw c.new-props.ensures.items;
    }
