-- What a start leaves of the files of the number.
use Rattle.std.proofs.Common.{◌≡◌, ◌⊎◌, ℕ, refl, inl, inr, IsTrue}
use Rattle.dav_last.specs.Crashes.{StillNames}
use Rattle.davd.specs.Failing.{KeepsNumber}
use Rattle.sqlite_disk.specs.declared.Disk as disk
use Rattle.sqlite_disk.specs.declared.Files.{Files}
use Rattle.sqlite_wal.specs.Reads.{OnlyReadsBoth}

-- files of which none was called were only read
pub unread_number : {L : Type 0} (l : disk.Ghosts L) (files : Files L) → IsTrue (l.is_usable files.log) → IsTrue (l.is_usable files.db) → KeepsNumber l files files
unread_number l files log db = record {
  read = files;
  reads = (
    record { seen = refl; clean = λ is. is; usable = log; key = refl; rot = refl; crash = λ c may. may },
    record { seen = refl; clean = λ is. is; usable = db; key = refl; rot = refl; crash = λ c may. may },
  );
  still = inl refl;
}

module _ {L : Type 0} (l : disk.Ghosts L) (old read : Files L) (reads : OnlyReadsBoth l (old.log, old.db) (read.log, read.db)) where
  -- they were only read
  pub only_read_number : KeepsNumber l old read
  only_read_number = record { read = read; reads = reads; still = inl refl }

  -- then a number was written, or not
  pub kept_number : (new : Files L) (key number : ℕ) → (new ≡ read) ⊎ StillNames l key number (read.log, read.db) (new.log, new.db) → KeepsNumber l old new
  kept_number new key number either = record {
    read = read;
    reads = reads;
    still = elim either [
      | inl same ↦ inl same
      | inr still ↦ inr (key, number, still)
    ];
  }
