use Rattle.std.proofs.Common.{◌≡◌, ◌≤◌, map, Some}
use Rattle.std.specs.FinMap.{entries}
use Rattle.dav_store.specs.Store.{PropertyMap}
use Rattle.dav_store.specs.PropertyCalls.{named_element}
use Rattle.dav_store_rows.proofs.Putting.{PutsFirst}
use Rattle.dav_store_rows.proofs.saving.puts.put_properties.Given as goal

abbrev pub invariant-properties : goal.invariant-properties
invariant-properties l = record {
  puts : (all : PropertyMap) → map named_element l.props ≡ map (λ e. (e.0, Some e.1)) (entries all)
      → (l.count ≡ l.prop-index) × PutsFirst l.number all l.count l.fn.changes.items l.changes.items;
  few : l.count ≤ l.prop-index;
}
