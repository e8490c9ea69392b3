use Rattle.std.proofs.Common.{refl}
use Rattle.dav_folder.proofs.FoundImages.{err_anyway}
use Rattle.dav_folder.proofs.Numbering.{on_ok, still_named, numbered, either}
use Rattle.dav_folder.proofs.numbered.NumberedKeeperTreeFsClaimedFileMemLs.keep.Goals as goal

pub returns-in_err-keep_batch-clause-follows : goal.returns-in_err-keep_batch-clause-follows
returns-in_err-keep_batch-clause-follows g c = record { folder = c.in_err-keep_batch.ensures.clean; number = λ clean. clean; key = refl }

pub returns-clause-follows : goal.returns-clause-follows
returns-clause-follows g c = record { folder = c.in_ok-keep_batch.ensures.clean; number = c.note_batch-noted.ensures.clean; key = c.note_batch-noted.ensures.key }

pub returns-in_err-keep_batch-clause-err : goal.returns-in_err-keep_batch-clause-err
returns-in_err-keep_batch-clause-err g c = err_anyway c.from_residual.result (λ before lasts. c.in_err-keep_batch.ensures.err before lasts.0)

pub returns-clause-ok : goal.returns-clause-ok
returns-clause-ok g c =
    let was = c.args.self.now in
    on_ok c.note_batch-noted.result c.note_batch-noted.ensures.named (λ noted before lasts.
    numbered g.C.Claim c.keep_batch.new.self _ before _ (c.in_ok-keep_batch.ensures.ok before lasts.0) c.note_batch-noted.new.last
    (still_named _ _ _ _ _ c.batch.ensures was.kept c.keep_batch.ensures.rises lasts.1 noted))

pub returns-clause-err : goal.returns-clause-err
returns-clause-err g c = err_anyway c.note_batch-noted.result (λ before lasts. either g.C.Claim c.keep_batch.new.self _ before _ (c.in_ok-keep_batch.ensures.ok before lasts.0))
