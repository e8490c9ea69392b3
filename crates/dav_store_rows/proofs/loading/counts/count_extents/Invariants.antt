use Rattle.std.proofs.Common.{map, take}
use Rattle.dav_rows.specs.Changes.{extent_entry}
use Rattle.dav_store_rows.specs.Counted.{Grows, IsExtentCounted, AllKeys}
use Rattle.dav_store_rows.proofs.loading.counts.count_extents.Given as goal

abbrev pub invariant-rows : goal.invariant-rows
invariant-rows l = record {
  grows : Grows l.fn.saved l.saved;
  counted : AllKeys (IsExtentCounted l.saved) (map extent_entry (take l.row-index l.rows));
}
