use Rattle.std.proofs.Common.{true, false, [], ◌∷◌, ◌++◌, Some, inr, ap, sym, ◌∙◌, append-nil}
use Rattle.std.proofs.lemmas.Result.{err_from_is_err_and}
use Rattle.dav_resource.specs.Errors.{fs_status}
use Rattle.dav_store.specs.Store.{Directory}
use Rattle.dav_walks.specs.Copied.{refusal_names}
use Rattle.dav_walks.proofs.Visiting.{refusal_added}
use Rattle.dav_walks.proofs.CopyEntering.{found}
use Rattle.dav_walks.proofs.CopyAlone.{unlooked_whole, look_off, file_off, file_whole, place_off, place_whole, refused_whole, directory_refusal, was_declined, no_directory, a_directory}
use Rattle.dav_walks.proofs.copying.CopyTask.copy_alone.Goals as goal

-- the lookup
pub returns-in_err-look_up-clause-stopped : goal.returns-in_err-look_up-clause-stopped
returns-in_err-look_up-clause-stopped g c =
    let p = err_from_is_err_and c.from_residual.result c.from_residual.ensures.1 in
    rw (p.1, c.in_err-look_up.ensures.unnamed) (look_off c.args.self.now.source.now c.args.self.now.dest.now c.args.self.now.topdest.now.key (g.met.F.GuardedFileSystem.well_formed c.args.fs.now) c.args.res.now c.in_err-look_up.ensures.stopped)

pub returns-in-None-clause-done : goal.returns-in-None-clause-done
returns-in-None-clause-done g c = unlooked_whole c.args.self.now.source.now c.args.self.now.dest.now c.args.self.now.topdest.now.key (g.met.F.GuardedFileSystem.well_formed c.args.fs.now) (rw c.in-None.is at c.in_ok-look_up.ensures.done)

-- a file
pub returns-in_err-copy_file-clause-stopped : goal.returns-in_err-copy_file-clause-stopped
returns-in_err-copy_file-clause-stopped g c =
    let p = err_from_is_err_and c.from_residual-in_err-copy_file.result c.from_residual-in_err-copy_file.ensures.1 in
    let looked = rw c.in-Some.is at c.in_ok-look_up.ensures.done in
    rw (p.1, c.in_err-copy_file.ensures.unnamed, looked.1) (file_off c.args.self.now.source.now c.args.self.now.dest.now c.args.self.now.topdest.now.key (g.met.F.GuardedFileSystem.well_formed c.args.fs.now) (found looked false (no_directory _ c.if-not-meta.true)) c.args.res.now c.in_err-copy_file.ensures.stopped)

pub returns-then-not-meta-clause-done : goal.returns-then-not-meta-clause-done
returns-then-not-meta-clause-done g c =
    let looked = rw c.in-Some.is at c.in_ok-look_up.ensures.done in
    file_whole c.args.self.now.source.now c.args.self.now.dest.now c.args.self.now.topdest.now.key (g.met.F.GuardedFileSystem.well_formed c.args.fs.now) (found looked false (no_directory _ c.if-not-meta.true)) _ _ _ _ _ looked.1 c.in_ok-copy_file.ensures.done

-- a directory
pub returns-in-Ok-clause-done : goal.returns-in-Ok-clause-done
returns-in-Ok-clause-done g c =
    let looked = rw c.in-Some.is at c.in_ok-look_up.ensures.done in
    rw looked.1 (place_whole c.args.self.now.source.now c.args.self.now.dest.now c.args.self.now.topdest.now.key (g.met.F.GuardedFileSystem.well_formed c.args.fs.now) (found looked true (a_directory _ c.if-not-meta.false)) _ _ c.in-Ok.ensures.granted)

pub returns-in-Exists-clause-done : goal.returns-in-Exists-clause-done
returns-in-Exists-clause-done g c =
    let looked = rw c.in-Some.is at c.in_ok-look_up.ensures.done in
    refused_whole c.args.self.now.source.now c.args.self.now.dest.now c.args.self.now.topdest.now.key (g.met.F.GuardedFileSystem.well_formed c.args.fs.now) (found looked true (a_directory _ c.if-not-meta.false)) _ _ _ _
    (was_declined c.in-Err.ensures.declined (λ lacking. let p = sym c.in-Exists.is ∙ lacking in cc)) (looked.1 ∙ sym (append-nil c.args.res.now) ∙ ap (λ e. c.args.res.now ++ refusal_names c.args.self.now.source.now c.args.self.now.dest.now (Some Directory) e) (sym c.in-Exists.is))

pub returns-in_err-add_status-in_default-clause-stopped : goal.returns-in_err-add_status-in_default-clause-stopped
returns-in_err-add_status-in_default-clause-stopped g c =
    let p = err_from_is_err_and c.from_residual-in_err-add_status-in_default.result c.from_residual-in_err-add_status-in_default.ensures.1 in
    let looked = rw c.in-Some.is at c.in_ok-look_up.ensures.done in
    rw (p.1, c.in_err-add_status-in_default.ensures.kept, looked.1) (place_off c.args.self.now.source.now c.args.self.now.dest.now c.args.self.now.topdest.now.key (g.met.F.GuardedFileSystem.well_formed c.args.fs.now) (found looked true (a_directory _ c.if-not-meta.false)) c.args.res.now
    (inr (c.in-Err.error, was_declined c.in-Err.ensures.declined c.in_default.not-Memory)))

pub returns-clause-done : goal.returns-clause-done
returns-clause-done g c =
    let looked = rw c.in-Some.is at c.in_ok-look_up.ensures.done in
    let added = c.in_ok-add_status-in_default.ensures.ok in
    refused_whole c.args.self.now.source.now c.args.self.now.dest.now c.args.self.now.topdest.now.key (g.met.F.GuardedFileSystem.well_formed c.args.fs.now) (found looked true (a_directory _ c.if-not-meta.false)) _ _ _ _
    (was_declined c.in-Err.ensures.declined c.in_default.not-Memory)
    (refusal_added _ _ _ c.in-Err.error _ added.1 added.2 ∙ ap (λ l. l ++ (c.args.self.now.dest.now, fs_status c.in-Err.error) ∷ []) looked.1 ∙ ap (λ l. c.args.res.now ++ l) (sym (directory_refusal c.args.self.now.source.now c.args.self.now.dest.now c.in-Err.error c.in_default.not-Exists)))
