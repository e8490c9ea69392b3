use Rattle.std.proofs.Common.{rules, w64}
use Rattle.std.proofs.lemmas.Int.{to_z-of_z}
use mir.Val.{SFits}
use Rattle.dav_store_rows.specs.LockRows.{row_values}
use Rattle.dav_store_rows.proofs.LockSteps.{brings_same, brings_put}
use Rattle.dav_store_rows.proofs.locks.diff.put_row.Goals as goal

pub returns-clause-ok : goal.returns-clause-ok
returns-clause-ok c = λ done rest.
    let fits : SFits w64 c.args.row.now.number = search rules in
    let put = simp to_z-of_z at c.in_ok-put.ensures in
    brings_put done c.args.row.now.number (row_values c.args.row.now) rest c.in_ok-put.put (row_values c.args.lock.now) c.args.changes.now.items c.push.new.self.items
    put c.in_ok-push.ensures.items

pub returns-then-is_same-clause-ok : goal.returns-then-is_same-clause-ok
returns-then-is_same-clause-ok c = λ done rest.
    brings_same done c.args.row.now (row_values c.args.lock.now) rest c.args.changes.now.items (c.is_same.ensures c.if-is_same.true)
