use Rattle.std.proofs.Common.{subst, inl}
use Rattle.sqlite.specs.Files.{file_state}
use Rattle.sqlite.specs.State.{HasCleanDisk}
use Rattle.dav_rows.specs.Creating.{first}
use Rattle.dav_folder.proofs.opening.Found+ClaimedFile+E+C.open.Goals as goal
use Rattle.dav_folder.proofs.opening.Found+ClaimedFile+E+C.open.Goals.{in-Ok+in-Err-start, in-Err}

pub returns-in-Ok-start-clause-kept : goal.returns-in-Ok-start-clause-kept
returns-in-Ok-start-clause-kept g c = λ image tables keeps reads clean.
    let was = subst (λ conn. HasCleanDisk (file_state conn)) c.keep_in.ensures.same clean in
    c.keep_in.ensures.opened image tables (reads (c.in-Ok-start.ensures.honest was)) (λ is. c.in-Ok-start.ensures.at is tables keeps)

pub returns-in-Ok-start-clause-new : goal.returns-in-Ok-start-clause-new
returns-in-Ok-start-clause-new g c = λ image vacant reads clean.
    let was = subst (λ conn. HasCleanDisk (file_state conn)) c.keep_in.ensures.same clean in
    c.keep_in.ensures.opened image (first c.args.changes.now) (reads (c.in-Ok-start.ensures.honest was)) (λ is. c.in-Ok-start.ensures.new is vacant)

pub returns-in-Ok-start-clause-clean : goal.returns-in-Ok-start-clause-clean
returns-in-Ok-start-clause-clean g c = λ clean. c.in-Ok-start.ensures.honest (subst (λ conn. HasCleanDisk (file_state conn)) c.keep_in.ensures.same clean)

pub returns-clause-unharmed : goal.returns-clause-unharmed
returns-clause-unharmed g c = elim c.match-sealing.branch [
  | in-Ok+in-Err-start w ↦ rw w.error-is w.in-Err-start.ensures.unharmed
  | in-Err w ↦ rw w.error-is (λ m keeps clean image may. inl may)
]

pub returns-clause-unharmed_first : goal.returns-clause-unharmed_first
returns-clause-unharmed_first g c = elim c.match-sealing.branch [
  | in-Ok+in-Err-start w ↦ rw w.error-is w.in-Err-start.ensures.unharmed_first
  | in-Err w ↦ rw w.error-is (λ unused clean image may. inl may)
]
