use Rattle.std.proofs.Common.{sym, subst}
use Rattle.dav_nodes.specs.declared.changes.Changes.{Changes}
use Rattle.dav_tree.specs.TreeFs.{entries_of}
use Rattle.dav_store_rows.specs.Updates.{Updates}
use Rattle.dav_store_rows.proofs.Updating.{updated}
use Rattle.dav_store_rows.proofs.saving.updates.save_changes.Goals as goal

pub returns-in_ok-save_all-in-All : goal.returns-in_ok-save_all-in-All
returns-in_ok-save_all-in-All g c =
    subst (λ (noted : Changes). Updates g.M.Medium.body_code noted (entries_of c.args.store.now) c.args.saved.now c.args.changes.now.items c.save_all.new.saved c.save_all.new.changes.items)
    (sym c.in-All.is)
    (updated g.M.Medium.body_code _ (entries_of c.args.store.now) c.args.saved.now c.save_all.new.saved c.args.changes.now.items c.save_all.new.changes.items c.in_ok-save_all-in-All.ensures)

pub returns-in_ok-save_numbers-in-Numbers : goal.returns-in_ok-save_numbers-in-Numbers
returns-in_ok-save_numbers-in-Numbers g c =
    subst (λ (noted : Changes). Updates g.M.Medium.body_code noted (entries_of c.args.store.now) c.args.saved.now c.args.changes.now.items c.save_numbers.new.saved c.save_numbers.new.changes.items)
    (sym c.in-Numbers.is)
    (updated g.M.Medium.body_code _ (entries_of c.args.store.now) c.args.saved.now c.save_numbers.new.saved c.args.changes.now.items c.save_numbers.new.changes.items c.in_ok-save_numbers-in-Numbers.ensures)
