use Rattle.std.proofs.Common.{◌≡◌, ◌∙◌, ap, sym, subst}
use Rattle.dav_log.specs.Damage.{IsDamaged}
use Rattle.disk_readonly.specs.contracts.copied.CopiedDisk.TheImpl as copied
use Rattle.sqlite.specs.Files.{file_state, image_of, AreFoundIn}
use Rattle.sqlite.specs.Recovery.{Image}
use Rattle.dav_rows_files.specs.Starting.{Keeps, KeepsOlder, IsVacant, IsUnused}
use Rattle.dav_rows_files.proofs.StartLemmas.{at_start, blank_start, older_start, older_found, vacant_found, unused_start, found_in, open_failed, open_failed_first, load_stopped, first_stopped}
use Rattle.dav_rows_files.proofs.JudgeLemmas.{always_clean, clean_left, if-err-same, log_fault}
use Rattle.dav_rows_files.specs.Judging.{IsLogFault}
use Rattle.dav_rows_files.proofs.judging.judge.Goals as goal

pub returns-in-Ok-load_or_create-clause-found : goal.returns-in-Ok-load_or_create-clause-found
returns-in-Ok-load_or_create-clause-found g c clean =
    let copies = record c.in_ok-copies.copies { log = c.expect_sound.new.log } in
    let conn = c.in-Ok.conn in
    let same : image_of copied.ghosts copies ≡ image_of g.D.Disk c.args.files.now =
    (λ i. record { log = c.expect_sound.ensures.same i; db = copied.ghosts.seen c.in_ok-copies.copies.db }) ∙ c.in_ok-copies.ensures.same clean in
    let opened = c.in-Ok.ensures.opened (always_clean conn) in
    let found = found_in copies conn (c.in-Ok.ensures.found (always_clean conn)) in
    let loaded = c.in-Ok-load_or_create.ensures in
    let late = always_clean c.load_or_create.new.conn in
    let here = file_state conn in
    let there = image_of copied.ghosts copies in
    record {
      kept = λ m keeps.
          let at = at_start here there m opened.0 opened.1 found (subst (λ image. Keeps image m) (sym same) keeps) in
          ((loaded.ours late m at).1, loaded.version.current.1 at.schema);
      first = λ vacant.
          let blank = blank_start here there opened.0 opened.1 found (subst IsVacant (sym same) vacant) in
          ((loaded.blank late blank).1, loaded.version.new.1 blank.schema);
      only_new = λ is. subst IsVacant same (vacant_found here there opened.0 opened.1 found (loaded.version.new.0 is));
      older = λ m keeps.
          let was = older_start here there m opened.0 opened.1 found (subst (λ image. KeepsOlder image m) (sym same) keeps) in
          loaded.version.older.1 was.schema;
      only_older = λ is.
          let it = older_found here there opened.0 opened.1 found (loaded.version.older.0 is) in
          (it.0, subst (λ image. AreFoundIn image it.0) same it.1, it.2);
    }

pub returns-in-Err-clause-err : goal.returns-in-Err-clause-err
returns-in-Err-clause-err g c clean =
    let copies = record c.in_ok-copies.copies { log = c.expect_sound.new.log } in
    let e = c.in-Err.error in let left = c.in-Err.left in
    let same : image_of copied.ghosts copies ≡ image_of g.D.Disk c.args.files.now =
    (λ i. record { log = c.expect_sound.ensures.same i; db = copied.ghosts.seen c.in_ok-copies.copies.db }) ∙ c.in_ok-copies.ensures.same clean in
    record {
      kept = λ m keeps utf8. open_failed copies left e c.in-Err.ensures.cause (clean_left left) m (subst (λ image. Keeps image m) (sym same) keeps) utf8;
      first = λ unused. open_failed_first copies left e c.args.changes.now c.in-Err.ensures.cause (clean_left left) (subst IsUnused (sym same) unused);
    }

pub returns-in-Err-load_or_create-clause-err : goal.returns-in-Err-load_or_create-clause-err
returns-in-Err-load_or_create-clause-err g c clean =
    let copies = record c.in_ok-copies.copies { log = c.expect_sound.new.log } in
    let conn = c.in-Ok.conn in let new = c.load_or_create.new.conn in
    let e = c.in-Err-load_or_create.error in
    let same : image_of copied.ghosts copies ≡ image_of g.D.Disk c.args.files.now =
    (λ i. record { log = c.expect_sound.ensures.same i; db = copied.ghosts.seen c.in_ok-copies.copies.db }) ∙ c.in_ok-copies.ensures.same clean in
    let opened = c.in-Ok.ensures.opened (always_clean conn) in
    let found = found_in copies conn (c.in-Ok.ensures.found (always_clean conn)) in
    let unlimited = c.in-Ok.ensures.fresh.unlimited in
    let counts = c.into_store.ensures.quiet.counts in
    record {
      kept = λ m keeps utf8.
          let at = at_start (file_state conn) (image_of copied.ghosts copies) m opened.0 opened.1 found (subst (λ image. Keeps image m) (sym same) keeps) in
          load_stopped (file_state conn) (file_state new) c.into_store.result e unlimited counts (c.in-Err-load_or_create.ensures.err (always_clean new) m at utf8);
      first = λ unused.
          let blank = unused_start (file_state conn) (image_of copied.ghosts copies) opened.0 opened.1 found (subst IsUnused (sym same) unused) in
          first_stopped (file_state conn) (file_state new) c.into_store.result c.args.changes.now e unlimited counts (c.in-Err-load_or_create.ensures.err_blank (always_clean new) blank);
    }

pub returns-in-Ok-load_or_create-clause-sound : goal.returns-in-Ok-load_or_create-clause-sound
returns-in-Ok-load_or_create-clause-sound g c = λ clean damaged.
    c.in_ok-expect_sound.ensures.sound (subst IsDamaged (sym (ap (λ (image : Image). image.log) (c.in_ok-copies.ensures.same clean))) damaged)

pub returns-in_err-expect_sound-clause-err : goal.returns-in_err-expect_sound-clause-err
returns-in_err-expect_sound-clause-err g c =
    let e = c.in_err-expect_sound.field-0.0 in
    if-err-same c.from_residual-in_err-expect_sound.result e _ c.from_residual-in_err-expect_sound.ensures.1
    (λ clean.
    let same = ap (λ (image : Image). image.log) (c.in_ok-copies.ensures.same clean) in
    log_fault (image_of g.D.Disk c.args.files.now) c.args.changes.now _ _ e (subst (λ log. IsLogFault log e) same c.in_err-expect_sound.ensures.err))
