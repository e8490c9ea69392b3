use Rattle.std.proofs.Common.{arith, refl}
use Rattle.sqlite.specs.Values.{IsInt}
use Rattle.dav_rows.specs.Contents.{note_cells}
use Rattle.dav_rows.specs.Failing.{HasNoText}
use Rattle.dav_rows.proofs.FailLemmas.{unread, IsBlobValue}
use Rattle.dav_rows.proofs.note.NoteRowTableRow.from_row.Goals as goal

pub returns-in_err-value_of-clause-err : goal.returns-in_err-value_of-clause-err
returns-in_err-value_of-clause-err c =
    unread note_cells HasNoText c.args.row.now 0 IsInt (λ n v text. (omega arith, (_, refl))) c.in_err-value_of.field-0.0 c.from_residual.result c.in_err-value_of.ensures.err c.from_residual.ensures.1

pub returns-in_err-value_of-2-clause-err : goal.returns-in_err-value_of-2-clause-err
returns-in_err-value_of-2-clause-err c =
    unread note_cells HasNoText c.args.row.now 1 IsInt (λ n v text. (omega arith, (_, refl))) c.in_err-value_of-2.field-0.0 c.from_residual-in_err-value_of-2.result c.in_err-value_of-2.ensures.err c.from_residual-in_err-value_of-2.ensures.1

pub returns-in_err-value_of-3-clause-err : goal.returns-in_err-value_of-3-clause-err
returns-in_err-value_of-3-clause-err c =
    unread note_cells HasNoText c.args.row.now 2 IsInt (λ n v text. (omega arith, (_, refl))) c.in_err-value_of-3.field-0.0 c.from_residual-in_err-value_of-3.result c.in_err-value_of-3.ensures.err c.from_residual-in_err-value_of-3.ensures.1

pub returns-in_err-value_of-4-clause-err : goal.returns-in_err-value_of-4-clause-err
returns-in_err-value_of-4-clause-err c =
    unread note_cells HasNoText c.args.row.now 3 IsBlobValue (λ n v text. (omega arith, (_, refl))) c.in_err-value_of-4.field-0.0 c.from_residual-in_err-value_of-4.result c.in_err-value_of-4.ensures.err c.from_residual-in_err-value_of-4.ensures.1
