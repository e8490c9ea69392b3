use Rattle.std.proofs.Common.{map, take}
use Rattle.dav_rows.specs.Changes.{resource_entry}
use Rattle.dav_store_rows.specs.Counted.{HasCounts, AllKeys}
use Rattle.dav_store_rows.proofs.loading.counts.count_resources.Given as goal

abbrev pub invariant-rows : goal.invariant-rows
invariant-rows l = AllKeys (HasCounts l.saved) (map resource_entry (take l.row-index l.rows))
