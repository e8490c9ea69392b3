use Rattle.std.proofs.Common.{◌≡◌, ◌∷◌, [], map, pos, sym, subst}
use Rattle.dav_rows.specs.Changes.{state_entry}
use Rattle.dav_seal.specs.Seals.{seal_row}
use Rattle.dav_store_rows.proofs.Decoding.{same-Ok, stops-err}
use Rattle.dav_store_rows.specs.LockRows.{AreLockRows}
use Rattle.dav_keep.proofs.LoadedImages.{rows_for, lock_rows, state_rows, values_below}
use Rattle.dav_keep.specs.Ends.{AreBelow, FindsEnd}
use Rattle.dav_keep.specs.Images.{values_of}
use Rattle.dav_keep.proofs.loading.loaded_of.Goals as goal

pub returns-in_err-locks-clause-err : goal.returns-in_err-locks-clause-err
returns-in_err-locks-clause-err c = λ image tables are.
    stops-err c.from_residual-in_err-locks.result c.in_err-locks.field-0.0 c.from_residual-in_err-locks.ensures.1
    (c.in_err-locks.ensures.err image.locks (subst (λ rows. AreLockRows rows image.locks) (sym c.deref-2.ensures.value) (lock_rows c.args.rows.now image tables are))
    are.whole.sound.tokens are.whole.sound.compatible)

pub returns-in_err-values-clause-err : goal.returns-in_err-values-clause-err
returns-in_err-values-clause-err c = λ image tables are.
    stops-err c.from_residual-in_err-values.result c.in_err-values.field-0.0 c.from_residual-in_err-values.ensures.1
    (c.in_err-values.ensures.err image.tree (rows_for c.args.rows.now image tables are))

pub returns-in_default-clause-err : goal.returns-in_default-clause-err
returns-in_default-clause-err c = λ image tables are.
    let none = subst (FindsEnd (AreBelow c.deref-3.result.now)) c.in_default.is c.end_of.ensures in
    let values = c.in_ok-values.ensures.ok image.tree (rows_for c.args.rows.now image tables are) in
    absurd (none are.whole.end are.whole.small (subst (λ items. AreBelow items are.whole.end) (sym c.deref-3.ensures.value)
    (values_below c.args.rows.now image tables are c.in_ok-values.values.items values)))

pub returns-clause-loaded : goal.returns-clause-loaded
returns-clause-loaded c = λ image tables are.
    let rows = c.args.rows.now in
    let numbers : c.in_ok-numbers.numbers ≡ image.numbers =
    same-Ok c.in_ok-numbers.numbers image.numbers
    (c.in_ok-numbers.ensures image.numbers (seal_row image.numbers.key tables ∷ [])
    (subst (λ states. map state_entry states ≡ (pos 0, values_of image.numbers) ∷ seal_row image.numbers.key tables ∷ []) (sym c.deref.ensures.value) (state_rows rows image tables are))) in
    record {
      values = c.in_ok-values.ensures.ok image.tree (rows_for rows image tables are);
      locks = c.in_ok-locks.ensures.ok image.locks (subst (λ locks. AreLockRows locks image.locks) (sym c.deref-2.ensures.value) (lock_rows rows image tables are));
      numbers = numbers;
    }
