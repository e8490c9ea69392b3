use Rattle.std.proofs.Common.{◌+◌, ◌≤◌, length}
use Rattle.dav_store_rows.proofs.Putting.{PutsSome}
use Rattle.dav_store_rows.proofs.saving.puts.put_extents.Given as goal

abbrev pub invariant-groups : goal.invariant-groups
invariant-groups l = record {
  puts : PutsSome l.number l.pieces l.rest l.place l.count l.fn.changes.items l.changes.items;
  few : l.count + length l.rest ≤ length l.pieces;
}

abbrev pub decreases-groups : goal.decreases-groups
decreases-groups l = length l.rest
