use Rattle.std.proofs.Common.{rules, w64, map}
use Rattle.std.proofs.lemmas.Int.{to_z-of_z}
use mir.Val.{SFits}
use Rattle.dav_rows.specs.Changes.{lock_entry}
use Rattle.dav_store_rows.specs.LockRows.{row_values}
use Rattle.dav_store_rows.proofs.LockSteps.{brings_removal}
use Rattle.dav_store_rows.proofs.locks.diff.save_row.Goals as goal

pub returns-clause-brings : goal.returns-clause-brings
returns-clause-brings c = λ rest.
    let fits : SFits w64 c.args.row.now.number = search rules in
    let items = simp to_z-of_z at c.in_ok-push.ensures.items in
    brings_removal (map lock_entry c.args.rows.now.items) c.args.row.now.number (row_values c.args.row.now) rest c.args.changes.now.items c.push.new.self.items items
