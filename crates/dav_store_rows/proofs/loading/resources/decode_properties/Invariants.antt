use Rattle.std.proofs.Common.{map, drop}
use Rattle.dav_store.specs.Store.{PropertyMap}
use Rattle.dav_rows.specs.Changes.{property_entry}
use Rattle.dav_store_rows.specs.Loads.{HaveProperties}
use Rattle.dav_store_rows.proofs.Decoding.{PropertiesLeft}
use Rattle.dav_store_rows.proofs.loading.resources.decode_properties.Given as goal

abbrev pub invariant-rows : goal.invariant-rows
invariant-rows l =
    (all : PropertyMap) (have : HaveProperties l.number l.rows all)
    → PropertiesLeft have.0 (map property_entry (drop l.row-index l.rows)) l.properties all
