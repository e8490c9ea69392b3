use Rattle.std.proofs.lemmas.Result.{err_from_is_err_and}
use Rattle.dav_walks.specs.CopyFrames.{unlooked}
use Rattle.dav_walks.proofs.CopyEntering.{if_ok_further, on_err_further, file_entered, file_cut, place_refused, place_cut, listing_entered, listing_cut}
use Rattle.dav_walks.proofs.copy_frame.enter_copy.Goals as goal

pub returns-in-None-clause-done : goal.returns-in-None-clause-done
returns-in-None-clause-done g c = unlooked (rw c.in-None.is at c.in_ok-look_up.ensures.done)

pub returns-in_err-copy_file-clause-stopped : goal.returns-in_err-copy_file-clause-stopped
returns-in_err-copy_file-clause-stopped g c =
    let p = err_from_is_err_and c.from_residual-in_err-copy_file.result c.from_residual-in_err-copy_file.ensures.1 in
    rw p.1 (file_cut (rw c.in-Some.is at c.in_ok-look_up.ensures.done) c.if-not-meta.true c.in_err-copy_file.ensures.stopped)

pub returns-then-not-meta-clause-done : goal.returns-then-not-meta-clause-done
returns-then-not-meta-clause-done g c = file_entered (rw c.in-Some.is at c.in_ok-look_up.ensures.done) c.if-not-meta.true _ _ _ c.in_ok-copy_file.ensures.done

pub returns-in_err-make_directory-clause-stopped : goal.returns-in_err-make_directory-clause-stopped
returns-in_err-make_directory-clause-stopped g c =
    let p = err_from_is_err_and c.from_residual-in_err-make_directory.result c.from_residual-in_err-make_directory.ensures.1 in
    rw p.1 (place_cut (rw c.in-Some.is at c.in_ok-look_up.ensures.done) c.if-not-meta.false c.in_err-make_directory.ensures.stopped)

pub returns-then-not-branch-clause-done : goal.returns-then-not-branch-clause-done
returns-then-not-branch-clause-done g c = place_refused (rw c.in-Some.is at c.in_ok-look_up.ensures.done) c.if-not-meta.false (rw c.if-not-branch.true at c.in_ok-make_directory.ensures.done)

pub returns-clause-done : goal.returns-clause-done
returns-clause-done g c =
    if_ok_further c.open_directory.result _ _ (λ opened lists. listing_entered (rw c.in-Some.is at c.in_ok-look_up.ensures.done) c.if-not-meta.false (rw c.if-not-branch.false at c.in_ok-make_directory.ensures.done) lists) c.open_directory.ensures.done

pub returns-clause-stopped : goal.returns-clause-stopped
returns-clause-stopped g c =
    on_err_further c.open_directory.result _ _ (λ cut. listing_cut (rw c.in-Some.is at c.in_ok-look_up.ensures.done) c.if-not-meta.false (rw c.if-not-branch.false at c.in_ok-make_directory.ensures.done) cut) c.open_directory.ensures.stopped
