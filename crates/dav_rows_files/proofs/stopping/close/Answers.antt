use Rattle.std.proofs.Common.{◌≡◌, ◌∙◌, true, [], Result, Ok, Err, OnOk, IsTrue, is_ok, ap, sym, arith}
use Rattle.std.proofs.Math.Logic.{∥∥₁_map, ∥∥₁_elim}
use Rattle.sqlite_store.specs.FileStore.{state, view, recovers}
use Rattle.sqlite_store.specs.Laws.{stays_at}
use Rattle.sqlite_trees.specs.Tree.{Trees}
use Rattle.sqlite_trees.specs.View.{View, IsClean}
use Rattle.sqlite_wal.proofs.StateLemmas.{open_from}
use Rattle.sqlite_trees.proofs.Doubt.{clean_of as sure}
use Rattle.sqlite.specs.Files.{HoldsDatabase, file_state}
use Rattle.sqlite.specs.Held.{AreDatabases}
use Rattle.sqlite.proofs.Theorems.{copied, opens_again}
use Rattle.dav_rows_files.proofs.stopping.close.Goals as goal

pub returns-clause-clean : goal.returns-clause-clean
returns-clause-clean g c = λ clean. omega (arith, c.checkpoint.ensures.quiet.clean, c.rollback.ensures.quiet.clean, c.into_store-store.ensures.quiet.clean)

pub returns-clause-no_other : goal.returns-clause-no_other
returns-clause-no_other g c = λ clean db found.
    c.into_store-store.ensures.quiet.outcomes db (c.rollback.ensures.quiet.outcomes db (c.checkpoint.ensures.quiet.outcomes db found))

on_ok : {X E : Type 0} (P : Type 0) (r : Result X E) → is_ok r ≡ true → OnOk r P → P
on_ok P (Ok x) is h = h
on_ok P (Err e) is h = absurd (cc)

pub returns-clause-whole : goal.returns-clause-whole
returns-clause-whole g c done = λ clean left may.
    let r = c.checkpoint.result in
    let is : is_ok r ≡ true = sym c.is_ok-copied.ensures.value ∙ done in
    let before = c.rollback.new.self in
    let last = c.checkpoint.new.self in
    let q = c.checkpoint.ensures.quiet in
    let clean_before : IsClean (view before) = omega (arith, q.clean, clean) in
    let early : IsClean (view c.into_store-store.result) = omega (arith, c.rollback.ensures.quiet.clean, clean_before) in
    let h = open_from (state before) (on_ok _ r is c.checkpoint.ensures.ready) (sure (view before).is_clean clean_before) in
    let on = on_ok _ r is c.checkpoint.ensures.open clean in
    let numbered : IsTrue (view last).is_numbered =
    ap (λ (v : View). v.is_numbered) (c.checkpoint.ensures.same on) ∙ (c.rollback.ensures.undone.kept clean_before).numbered ∙ c.into_store-store.ensures.numbered early in
    let sound : AreDatabases (recovers last) = λ db found. c.into_store-store.ensures.sound early db (c.rollback.ensures.quiet.outcomes db (q.outcomes db found)) in
    let stays = g.met.D.Disk.seen_may_stay in
    let empty = on_ok _ r is c.checkpoint.ensures.moved (c.rollback.ensures.logged ((c.rollback.ensures.undone.kept clean_before).was_open h)) in
    let held = copied last stays on numbered sound empty left may in
    let db = (view last).committed in
    ∥∥₁_elim held.both squash₁ (λ both. ∥∥₁_map held.alone (λ alone.
    let r : (db : Trees) × HoldsDatabase left db × HoldsDatabase (record left { log = [] }) db × (file_state c.args.conn).may_leave db =
    (db, both, alone, returns-clause-no_other g c clean db (stays_at last stays on)) in r))

pub returns-clause-left : goal.returns-clause-left
returns-clause-left g c = λ numbered clean left may.
    let last = c.checkpoint.new.self in
    let q = c.checkpoint.ensures.quiet in
    let early : IsClean (view c.into_store-store.result) = omega (arith, c.rollback.ensures.quiet.clean, q.clean, clean) in
    let sound : AreDatabases (recovers last) = λ db found. c.into_store-store.ensures.sound early db (c.rollback.ensures.quiet.outcomes db (q.outcomes db found)) in
    ∥∥₁_map (opens_again last numbered sound left may) (λ found.
    let r : (db : Trees) × HoldsDatabase left db × (file_state c.args.conn).may_leave db = (found.0, found.2, returns-clause-no_other g c clean found.0 found.1) in r)
