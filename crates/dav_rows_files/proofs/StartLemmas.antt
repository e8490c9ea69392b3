-- What an open finds, and what a crash leaves for it.
use Rattle.std.proofs.Common.{◌≡◌, ◌⊎◌, ◌≤◌, ◌==◌, inl, inr, Bool, true, false, cond, List, [], None, Ok, Err, Result, OnOk, IsTrue, arith, refl, sym, ap, subst, ◌∙◌}
use Rattle.std.specs.Prelude.{IsSome}
use Rattle.std.proofs.Math.Logic.{∥∥₁_map}
use Rattle.sqlite_disk.specs.declared.Disk.{Ghosts}
use Rattle.sqlite_store.specs.declared.store.FileStore.{FileStore}
use Rattle.sqlite_store.specs.FileStore.{state, view, recovers, faults}
use Rattle.sqlite_store.specs.Report.{named}
use Rattle.sqlite_trees.specs.declared.error.StoreError.TheVariants.{Io, Full, Corrupt}
use Rattle.sqlite_disk.specs.declared.Files.{Files}
use Rattle.sqlite_disk.specs.declared.tally.Tally.{Tally}
use Rattle.sqlite.specs.declared.file.Leftover.{Leftover}
use Rattle.sqlite.specs.declared.file.Leftover.TheVariants as left
use Rattle.sqlite_catalog.specs.Listing.{IsSound}
use Rattle.sqlite_catalog.proofs.ReadLemmas.{lists_once}
use Rattle.sqlite_trees.specs.Objects.{catalog_tree}
use Rattle.sqlite_trees.specs.View.{IsClean}
use Rattle.sqlite.specs.declared.error.Error.{Error}
use Rattle.sqlite.specs.Recovery.{Image}
use Rattle.sqlite.specs.Tree.{Trees}
use Rattle.sqlite.specs.Effect.{Database}
use Rattle.sqlite_schema.specs.declared.schema.Schema.{Schema}
use Rattle.sqlite.specs.State.{State, Opens, IsLive, store_error, is_disk_error}
use Rattle.sqlite.specs.Start.{FindsIn}
use Rattle.sqlite.specs.Held.{Held, AreDatabases}
use Rattle.sqlite.specs.Files.{HoldsDatabase, IsNothing, AreFoundIn, Finds, FailsToOpenFiles, IsCleanLeft, tally_left, image_of, file_state}
use Rattle.sqlite_wal.specs.Reads.{tally_of_files}
use Rattle.sqlite.proofs.ListingLemmas.{empty_is_sound}
use Rattle.sqlite.proofs.Theorems.{opens_again}
use Rattle.dav_rows.specs.Tables.{rows_schema, older_schema, no_schema}
use Rattle.dav_rows.specs.Upgrading.{IsOlder, HoldsOlder}
use Rattle.dav_rows.specs.Stored.{IsOurs}
use Rattle.dav_rows.specs.Contents.{Contents, Holds}
use Rattle.dav_rows.specs.Saving.{IsAt, Leaves}
use Rattle.dav_rows.specs.Creating.{IsBlank, IsWhole}
use Rattle.dav_rows.specs.Loading.{IsNoneOrOurs}
use Rattle.dav_rows.specs.declared.opening.StartError.{StartError}
use Rattle.dav_rows.specs.declared.opening.StartError.TheVariants.{Foreign, Sqlite}
use Rattle.dav_rows.specs.Failing.{IsExcusedStart, IsExcusedFirst}
use Rattle.dav_rows.specs.declared.change.Change.{Change}
use Rattle.dav_rows_files.specs.Starting.{Keeps, KeepsOlder, KeepsEither, IsVacant, HoldsNoneOrOurs, IsUnused, IsStopped, IsStoppedFirst, FailsToStart, FailsToStartFirst, FailsToStartOlder, NextKeeps}
use Rattle.dav_rows_files.proofs.VacantLemmas.{only_vacant, unlisted}

-- the trees tell the schema
sole : (schema : Schema) (db : Trees) → IsSound schema db → IsOurs db → schema ≡ rows_schema
unfolding IsOurs
sole schema db found ours = lists_once (db catalog_tree) schema rows_schema found.lists ours.lists

sound_ours : (db : Trees) → IsOurs db → IsSound rows_schema db
unfolding IsOurs
sound_ours db ours = ours

whole : (db : Database) → IsSound db.schema db.trees → IsWhole db
unfolding IsWhole
whole db sound = sound

pub at_start : (s : State) (image : Image) (m : Contents) → Opens s → IsLive s → FindsIn image s → Keeps image m → IsAt s m
at_start s image m opens live found keeps =
    let committed : s.committed.trees ≡ keeps.db = found.holds keeps.db keeps.database in
    let now : s.now.trees ≡ keeps.db = ap (λ (d : Database). d.trees) opens.clean ∙ committed in
    let holds : Holds s.now.trees m = subst (λ db. Holds db m) (sym now) keeps.holds in
    record { is_open = opens.is_open; schema = sole s.now.schema s.now.trees (live opens.is_open).0 holds.sound; settled = opens.clean; holds = holds }

pub older_start : (s : State) (image : Image) (m : Contents) → Opens s → IsLive s → FindsIn image s → KeepsOlder image m → IsOlder s m
older_start s image m opens live found keeps =
    let committed : s.committed.trees ≡ keeps.db = found.holds keeps.db keeps.database in
    let now : s.now.trees ≡ keeps.db = ap (λ (d : Database). d.trees) opens.clean ∙ committed in
    let sound : IsSound older_schema s.now.trees = subst (IsSound older_schema) (sym now) keeps.sound in
    record {
      is_open = opens.is_open;
      schema = lists_once (s.now.trees catalog_tree) s.now.schema older_schema (live opens.is_open).0.lists sound.lists;
      settled = opens.clean;
      holds = subst (λ db. HoldsOlder db m) (sym now) keeps.holds;
    }

-- a schema of version 1 is what was found
pub older_found : (s : State) (image : Image) → Opens s → IsLive s → FindsIn image s → s.now.schema ≡ older_schema → (db : Trees) × AreFoundIn image db × IsSound older_schema db
older_found s image opens live found is =
    let now : IsSound older_schema s.now.trees = subst (λ schema. IsSound schema s.now.trees) is (live opens.is_open).0 in
    (s.committed.trees, found.reads, subst (λ (d : Database). IsSound older_schema d.trees) opens.clean now)

-- an open that reads a schema with no table has found none
pub vacant_found : (s : State) (image : Image) → Opens s → IsLive s → FindsIn image s → s.now.schema ≡ no_schema → IsVacant image
vacant_found s image opens live found is =
    let sound : IsSound no_schema s.now.trees = subst (λ schema. IsSound schema s.now.trees) is (live opens.is_open).0 in
    only_vacant image s.committed.trees found.reads (sym (ap (λ (d : Database). d.trees catalog_tree) opens.clean) ∙ unlisted s.now.trees sound)

pub known_found : (s : State) (image : Image) → Opens s → IsLive s → FindsIn image s → IsNoneOrOurs s.now.schema → HoldsNoneOrOurs image
known_found s image opens live found (inl none) = inl (vacant_found s image opens live found none)
known_found s image opens live found (inr (inl older)) = let it = older_found s image opens live found older in inr (it.0, it.1, inl it.2)
known_found s image opens live found (inr (inr ours)) =
    let sound : IsSound rows_schema s.now.trees = subst (λ schema. IsSound schema s.now.trees) ours (live opens.is_open).0 in
    inr (s.committed.trees, found.reads, inr (subst (λ (d : Database). IsSound rows_schema d.trees) opens.clean sound))

blank_over : (s : State) → Opens s → IsLive s → s.committed.trees catalog_tree ≡ [] → IsBlank s
blank_over s opens live none =
    let now = ap (λ (d : Database). d.trees catalog_tree) opens.clean ∙ none in
    let sound = (live opens.is_open).0 in
    record {
      is_open = opens.is_open;
      schema = lists_once (s.now.trees catalog_tree) s.now.schema no_schema sound.lists (empty_is_sound s.now.trees now).lists;
      settled = opens.clean;
      sound = whole s.now sound;
    }

pub blank_start : (s : State) (image : Image) → Opens s → IsLive s → FindsIn image s → IsVacant image → IsBlank s
blank_start s image opens live found vacant = blank_over s opens live (vacant s.committed.trees found.reads)

pub unused_start : (s : State) (image : Image) → Opens s → IsLive s → FindsIn image s → IsUnused image → IsBlank s
unused_start s image opens live found (inl new) = blank_start s image opens live found new.1
unused_start s image opens live found (inr held) = blank_over s opens live (ap (λ (db : Trees). db catalog_tree) (found.holds held.0 held.1) ∙ held.2)

module _ {D : Type 0} {g : Ghosts D} (it : FileStore D g) (m n : Contents) (numbered : IsTrue (view it).is_numbered) where
  pub next_either : ((db : Trees) → recovers it db → Holds db m ⊎ Holds db n) → (left : Image) → (state it).may_leave left → ∥ KeepsEither left m n ∥₁
  next_either crash left may =
      let sound : AreDatabases (recovers it) = λ db may. elim (crash db may) [
        | inl old ↦ (rows_schema, sound_ours db old.sound)
        | inr new ↦ (rows_schema, sound_ours db new.sound)
      ] in
      ∥∥₁_map (opens_again it numbered sound left may) (λ db. either db.0 db.2 (crash db.0 db.1))
    where
      either : (db : Trees) → HoldsDatabase left db → Holds db m ⊎ Holds db n → KeepsEither left m n
      either db database (inl old) = inl (record { db = db; database = database; holds = old })
      either db database (inr new) = inr (record { db = db; database = database; holds = new })

pub next_only : {D : Type 0} {g : Ghosts D} (it : FileStore D g) (n : Contents) → IsTrue (view it).is_numbered → ((db : Trees) → recovers it db → Holds db n)
    → (left : Image) → (state it).may_leave left → ∥ Keeps left n ∥₁
next_only it n numbered crash left may =
    let sound : AreDatabases (recovers it) = λ db may. (rows_schema, sound_ours db (crash db may).sound) in
    ∥∥₁_map (opens_again it numbered sound left may) (λ db. let r : Keeps left n = record { db = db.0; database = db.2; holds = crash db.0 db.1 } in r)

pub kept_next : {D : Type 0} {g : Ghosts D} {X : Type 0} (s new : State) (it : FileStore D g) (f : Contents → Contents) (r : Result X Error) → (IsClean (view it) → IsTrue (view it).is_numbered)
    → (IsClean (view it) → OnOk r (Leaves s new f)) → ((db : Trees) → recovers it db → new.may_leave db) → OnOk r (NextKeeps s it f)
kept_next s new it f (Ok x) numbered leaves outcomes = λ clean m at. next_only it (f m) (numbered clean) (λ db may. leaves clean m at db (outcomes db may))
kept_next s new it f (Err e) numbered leaves outcomes = tt

-- ---- how a start fails

-- an open names a fault as SQLite does
named_fault : (a b : Tally) → IsTrue (is_disk_error (store_error (named a b)))
named_fault a b = go (b.caught == a.caught) (b.refused == a.refused)
  where
    go : (p q : Bool) → IsTrue (is_disk_error (store_error (cond p (cond q Io Full) Corrupt)))
    go true true = refl
    go true false = refl
    go false q = refl

-- the files hold a database, or are new
abbrev AreKnown : Image → Type 0
AreKnown image = ((db : Trees) × HoldsDatabase image db) ⊎ IsNothing image

module _ {D : Type 0} {g : Ghosts D} where
  -- an open of such files fails for these causes alone
  open_stopped : (files : Files D) (left : Leftover D g) (image : Image) (e : Error) → image_of g files ≡ image → AreKnown image → FailsToOpenFiles files left e → IsStopped left (Sqlite e)
  open_stopped files left image e same known (inl memory) = inl memory
  open_stopped files left image e same known (inr (inl refused)) = absurd (refused.1 (subst AreKnown (sym same) known))
  open_stopped files left image e same known (inr (inr (inl fault))) =
      inr (inl (subst (λ e. IsTrue (is_disk_error e)) (sym fault.0) (named_fault (tally_of_files g (files.log, files.db)) (tally_left left)), omega (arith, fault.1)))
  open_stopped files left image e same known (inr (inr (inr full))) = inr (inr full)

  pub open_failed : (files : Files D) (left : Leftover D g) (e : Error) → (IsCleanLeft left → FailsToOpenFiles files left e) → FailsToStart (image_of g files) (Sqlite e, left)
  open_failed files left e cause = λ clean m keeps utf8. open_stopped files left (image_of g files) e refl (inl (keeps.db, keeps.database)) (cause clean)

  pub open_failed_first : (files : Files D) (left : Leftover D g) (e : Error) (changes : List Change) → (IsCleanLeft left → FailsToOpenFiles files left e)
      → FailsToStartFirst (image_of g files) changes (Sqlite e, left)
  open_failed_first files left e changes cause = λ clean unused. inl (open_stopped files left (image_of g files) e refl (turned unused) (cause clean))
    where
      turned : IsUnused (image_of g files) → AreKnown (image_of g files)
      turned (inl new) = inr new.0
      turned (inr held) = inl (held.0, held.1)

  pub open_failed_older : (files : Files D) (left : Leftover D g) (e : Error) (changes : List Change) → (IsCleanLeft left → FailsToOpenFiles files left e)
      → FailsToStartOlder (image_of g files) changes (Sqlite e, left)
  open_failed_older files left e changes cause = λ clean m keeps. inl (open_stopped files left (image_of g files) e refl (inl (keeps.db, keeps.database)) (cause clean))

  -- what an open finds
  pub found_in : (files : Files D) (c : Held (FileStore D g)) → Finds files c → FindsIn (image_of g files) (file_state c)
  found_in files c found = record { holds = found.holds; reads = found.reads }

  -- a load fails for these causes alone
  pub load_stopped : (s new : State) (last : FileStore D g) (e : StartError) → s.step_limit ≡ None → new.faults ≤ faults last → IsExcusedStart s new e → IsStopped (left.Store last) e
  load_stopped s new last Foreign unlimited counts h = h
  load_stopped s new last (Sqlite e) unlimited counts (inl memory) = inl memory
  load_stopped s new last (Sqlite e) unlimited counts (inr (inl fault)) = inr (inl (fault.0, omega (arith, counts, fault.1)))
  load_stopped s new last (Sqlite e) unlimited counts (inr (inr over)) = absurd (let some = subst IsSome unlimited over.1 in cc)

  pub first_stopped : (s new : State) (last : FileStore D g) (changes : List Change) (e : StartError) → s.step_limit ≡ None → new.faults ≤ faults last → IsExcusedFirst s new changes e → IsStoppedFirst (left.Store last) changes e
  first_stopped s new last changes Foreign unlimited counts h = h
  first_stopped s new last changes (Sqlite e) unlimited counts (inl excused) = inl (load_stopped s new last (Sqlite e) unlimited counts excused)
  first_stopped s new last changes (Sqlite e) unlimited counts (inr long) = inr long
