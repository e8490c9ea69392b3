use Rattle.std.proofs.Common.{◌<◌, ◌≤◌, ◌-◌, max}
use Rattle.dav_store_rows.specs.Parts.{MOST}
use Rattle.dav_store_rows.specs.Changed.{Appends, removed_parts}
use Rattle.dav_store_rows.proofs.saving.puts.remove_parts.Given as goal

abbrev pub invariant-parts : goal.invariant-parts
invariant-parts l = record {
  appends : Appends (removed_parts l.table l.number l.from (l.index - l.from)) l.fn.changes.items l.changes.items;
  few : l.from < l.index → l.index ≤ MOST;
  within : l.index ≤ max l.from l.to;
}
