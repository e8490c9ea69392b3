use Rattle.std.proofs.Common.{rules, w64, ◌++◌, ◌∷◌, map, subst}
use Rattle.std.proofs.lemmas.Int.{to_z-of_z}
use mir.Val.{SFits}
use Rattle.dav_rows.specs.Changes.{lock_entry}
use Rattle.dav_store_rows.specs.LockRows.{row_values, BringsLocks}
use Rattle.dav_store_rows.proofs.LockSteps.{pushed_before, pushed_values, up_to_push}
use Rattle.dav_store_rows.proofs.locks.diff.keep_row.Goals as goal

pub returns-clause-brings : goal.returns-clause-brings
returns-clause-brings c = λ rest.
    let fits : SFits w64 c.args.row.now.number = search rules in
    let copy = simp to_z-of_z at c.in_ok-copy.ensures in
    subst (λ es. BringsLocks (map lock_entry c.args.rows.now.items ++ lock_entry c.args.row.now ∷ rest) es c.args.changes.now.items c.put_row.new.changes.items)
    (pushed_before c.args.rows.now.items c.push.new.self.items c.in_ok-copy.copy (c.args.row.now.number, row_values c.args.lock.now) rest c.in_ok-push.ensures.items copy)
    (c.in_ok-put_row.ensures.ok (map lock_entry c.args.rows.now.items) rest)

pub returns-clause-values : goal.returns-clause-values
returns-clause-values c =
    let fits : SFits w64 c.args.row.now.number = search rules in
    let copy = simp to_z-of_z at c.in_ok-copy.ensures in
    pushed_values c.args.rows.now.items c.push.new.self.items c.in_ok-copy.copy (c.args.row.now.number, row_values c.args.lock.now) c.in_ok-push.ensures.items copy

pub returns-clause-low : goal.returns-clause-low
returns-clause-low c = λ top all here.
    let fits : SFits w64 c.args.row.now.number = search rules in
    let copy = simp to_z-of_z at c.in_ok-copy.ensures in
    up_to_push c.args.rows.now.items c.push.new.self.items c.in_ok-copy.copy (c.args.row.now.number, row_values c.args.lock.now) top c.in_ok-push.ensures.items copy all here
