use Rattle.std.proofs.Common.{rules, w64}
use Rattle.std.proofs.lemmas.Int.{to_z-of_z}
use mir.Val.{SFits}
use Rattle.dav_store_rows.proofs.PutRows.{puts_no_rows}
use Rattle.dav_store_rows.proofs.saving.puts.put_rows.Goals as goal

pub returns-in_ok-push-in-None-clause-rows : goal.returns-in_ok-push-in-None-clause-rows
returns-in_ok-push-in-None-clause-rows c =
    let fits : SFits w64 c.in_ok-try_from-in-None.field-0 = search rules in
    let items = simp to_z-of_z at c.in_ok-push-in-None.ensures.items in
    rw c.in-None.is
    (puts_no_rows c.args.number c.in_ok-try_from-in-None.field-0 c.args.changes.now.items c.push.new.self.items
    (let is = c.in_ok-try_from-in-None.ensures in is.1) items)
