use Rattle.std.specs.Option.{option_map}
use Rattle.dav_nodes.specs.Rows.{row_in}
use Rattle.dav_store_rows.proofs.Saved.{saves}
use Rattle.dav_store_rows.proofs.saving.SavedCounts.save_resource.Goals as goal

pub returns-clause-ok : goal.returns-clause-ok
returns-clause-ok c =
    saves c.args.number (option_map row_in c.args.placed) c.counts_of-old.result c.in_ok-new.new c.args.self.now c.set_counts.new.self
    c.args.changes.now.items c.put_rows.new.changes.items c.remove_parts.new.changes.items c.remove_parts-2.new.changes.items
    c.counts_of-old.ensures c.in_ok-new.ensures.rows c.in_ok-remove_parts.ensures.ok c.in_ok-remove_parts.ensures.few
    c.in_ok-remove_parts-2.ensures.ok c.in_ok-remove_parts-2.ensures.few c.in_ok-set_counts.ensures
