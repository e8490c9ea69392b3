use Rattle.std.proofs.Common.{map, take}
use Rattle.dav_rows.specs.Changes.{property_entry}
use Rattle.dav_store_rows.specs.Counted.{Grows, IsPropertyCounted, AllKeys}
use Rattle.dav_store_rows.proofs.loading.counts.count_properties.Given as goal

abbrev pub invariant-rows : goal.invariant-rows
invariant-rows l = record {
  grows : Grows l.fn.saved l.saved;
  counted : AllKeys (IsPropertyCounted l.saved) (map property_entry (take l.row-index l.rows));
}
