-- The files that a failed start leaves keep what they kept.
use Rattle.std.proofs.Common.{◌≡◌, ◌⊎◌, ◌∙◌, inl, inr, IsTrue, [], ap, subst}
use Rattle.std.proofs.Math.Logic.{∥∥₁_map}
use Rattle.sqlite_disk.specs.declared.Disk.{Ghosts}
use Rattle.sqlite_disk.specs.declared.Files.{Files}
use Rattle.sqlite_wal.proofs.LogLemmas.{SeenMayStay}
use Rattle.sqlite_store.specs.declared.store.FileStore.{FileStore}
use Rattle.sqlite_store.specs.FileStore.{state, view, recovers}
use Rattle.sqlite_store.specs.Laws.{settled_at}
use Rattle.sqlite_trees.specs.Objects.{catalog_tree}
use Rattle.sqlite.specs.declared.file.Leftover.{Leftover}
use Rattle.sqlite.specs.Files.{HoldsDatabase, IsCleanLeft, LeavesFiles, file_state, image_of}
use Rattle.sqlite.specs.Held.{Held, AreDatabases}
use Rattle.sqlite.specs.Recovery.{Image}
use Rattle.sqlite.specs.Start.{FindsIn}
use Rattle.sqlite.specs.State.{Opens}
use Rattle.sqlite.specs.Tree.{Trees}
use Rattle.dav_rows.specs.Contents.{Contents, Holds}
use Rattle.dav_rows_files.specs.Starting.{FailsUnharmed, FailsUnharmedFirst, FailsUnharmedOlder, IsUnused, Keeps, KeepsOlder}
use Rattle.dav_rows_files.proofs.LeaveLemmas.{holds_some, open_empty, open_holds}

-- the same tables, in other files
kept_in : (old new : Image) (m : Contents) (keeps : Keeps old m) → HoldsDatabase new keeps.db → Keeps new m
kept_in old new m keeps held = record { db = keeps.db; database = held; holds = keeps.holds }

older_in : (old new : Image) (m : Contents) (keeps : KeepsOlder old m) → HoldsDatabase new keeps.db → KeepsOlder new m
older_in old new m keeps held = record { db = keeps.db; database = held; sound = keeps.sound; holds = keeps.holds }

-- ---- an open that failed

module _ {D : Type 0} {g : Ghosts D} (files : Files D) (rest : Leftover D g) (leaves : IsCleanLeft rest → LeavesFiles files rest) where
  pub open_unharmed : FailsUnharmed files rest
  open_unharmed m keeps clean image may = elim (open_holds files rest keeps.db keeps.database (leaves clean) image may) [
    | inl old ↦ inl old
    | inr (inl held) ↦ inr (inl (∥∥₁_map held (kept_in (image_of g files) image m keeps)))
    | inr (inr exempt) ↦ inr (inr exempt)
  ]

  pub open_unharmed_first : (first : Contents) → FailsUnharmedFirst files first rest
  open_unharmed_first first (inl new) clean image may = elim (open_empty files rest new.0 new.1 (leaves clean) image may) [
    | inl old ↦ inl old
    | inr (inl unused) ↦ inr (inl (∥∥₁_map unused (λ u. let r : IsUnused image ⊎ Keeps image first = inl u in r)))
    | inr (inr exempt) ↦ inr (inr exempt)
  ]
  open_unharmed_first first (inr held) clean image may = elim (open_holds files rest held.0 held.1 (leaves clean) image may) [
    | inl old ↦ inl old
    | inr (inl same) ↦ inr (inl (∥∥₁_map same (λ s. let r : IsUnused image ⊎ Keeps image first = inl (inr (held.0, s, held.2)) in r)))
    | inr (inr exempt) ↦ inr (inr exempt)
  ]

  pub open_unharmed_older : (f : Contents → Contents) → FailsUnharmedOlder files f rest
  open_unharmed_older f m keeps clean image may = elim (open_holds files rest keeps.db keeps.database (leaves clean) image may) [
    | inl old ↦ inl old
    | inr (inl held) ↦ inr (inl (∥∥₁_map held (λ h. let r : KeepsOlder image m ⊎ Keeps image (f m) = inl (older_in (image_of g files) image m keeps h) in r)))
    | inr (inr exempt) ↦ inr (inr exempt)
  ]

-- ---- an upgrade that failed

-- a crash of a connection that was just opened leaves what it found
pub as_found : {D : Type 0} {g : Ghosts D} (c : Held (FileStore D g)) → SeenMayStay g → Opens (file_state c) → (db : Trees) → (file_state c).may_leave db → db ≡ (file_state c).committed.trees
as_found c stays opens db may = settled_at c.store stays db opens.is_open may

pub none_found : {D : Type 0} {g : Ghosts D} (c : Held (FileStore D g)) (image : Image) → FindsIn image (file_state c) → IsUnused image → (file_state c).committed.trees catalog_tree ≡ []
none_found c image found (inl new) = new.1 (file_state c).committed.trees found.reads
none_found c image found (inr held) = ap (λ (db : Trees). db catalog_tree) (found.holds held.0 held.1) ∙ held.2

module _ {D : Type 0} {g : Ghosts D} (it : FileStore D g) (numbered : IsTrue (view it).is_numbered) (sound : AreDatabases (recovers it)) (image : Image) (may : (state it).may_leave image) where
  pub unused_or : (first : Contents) → ((db : Trees) → recovers it db → (db catalog_tree ≡ []) ⊎ Holds db first) → ∥ IsUnused image ⊎ Keeps image first ∥₁
  unused_or first obeys = ∥∥₁_map (holds_some it (λ db. (db catalog_tree ≡ []) ⊎ Holds db first) numbered sound obeys image may) (λ found. either found.0 found.1 found.2)
    where
      either : (db : Trees) → HoldsDatabase image db → (db catalog_tree ≡ []) ⊎ Holds db first → IsUnused image ⊎ Keeps image first
      either db held (inl none) = inl (inr (db, held, none))
      either db held (inr holds) = inr (record { db = db; database = held; holds = holds })

  pub older_or : (old : Image) (m n : Contents) (keeps : KeepsOlder old m) → ((db : Trees) → recovers it db → (db ≡ keeps.db) ⊎ Holds db n) → ∥ KeepsOlder image m ⊎ Keeps image n ∥₁
  older_or old m n keeps obeys = ∥∥₁_map (holds_some it (λ db. (db ≡ keeps.db) ⊎ Holds db n) numbered sound obeys image may) (λ found. either found.0 found.1 found.2)
    where
      either : (db : Trees) → HoldsDatabase image db → (db ≡ keeps.db) ⊎ Holds db n → KeepsOlder image m ⊎ Keeps image n
      either db held (inl same) = inl (older_in old image m keeps (subst (HoldsDatabase image) same held))
      either db held (inr holds) = inr (record { db = db; database = held; holds = holds })
