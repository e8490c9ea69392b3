-- What a crash leaves of the slots: this project's own choice.
use Rattle.std.specs.Prelude.{◌≡◌, ◌⊎◌, ◌+◌, ℕ, Bool, List, length, IsTrue}
use Rattle.sqlite_disk.specs.declared.Disk.{Ghosts}
use Rattle.sqlite_disk.specs.Disk.{Only}
use Rattle.sqlite_wal.specs.Reads.{are_clean, OnlyReads}
use Rattle.dav_last.specs.Images.{image_of_number, named, IsMixOf}
use Rattle.dav_last.specs.Slots.{last_in, number_in}

module _ {D : Type 0} (g : Ghosts D) where
  -- a crash leaves the image of the number, and nothing else
  abbrev pub LeavesOnly : ℕ → ℕ → D → Type 0
  LeavesOnly key number file = Only (image_of_number key number) (g.may_leave file)

  -- a crash leaves 16 bytes
  abbrev pub LeavesWhole : D → Type 0
  LeavesWhole file = (c : List ℕ) → g.may_leave file c → length c ≡ 16

  -- a crash leaves bytes of images of numbers up to this one
  abbrev pub LeavesMixes : ℕ → ℕ → D → Type 0
  LeavesMixes key most file = (c : List ℕ) → g.may_leave file c → IsMixOf key most c

  -- after a crash, each byte below the old end is an old or a written one, on every disk of this type
  abbrev pub IsMixingType : Type 0
  IsMixingType = (file : D) → IsTrue (g.is_mixing file)

  -- how many calls of two disks have failed
  abbrev pub faults_in : D × D → ℕ
  faults_in files = g.faults files.0 + g.faults files.1

  -- a crash leaves the first slot with this number alone, or the second slot was not called
  abbrev pub LeavesFirstOrKeepsSecond : ℕ → ℕ → D → D → D → Type 0
  LeavesFirstOrKeepsSecond key number first old new = LeavesOnly key number first ⊎ (new ≡ old)

  -- the first of two slots was only read, and names the greatest number of both, unless a wrong answer was taken as true
  pub record KeepsGreatest (key : ℕ) (is_clean : Bool) (kept other new : D) : Type 0 where
    pub reads : OnlyReads g kept new
    pub greatest : IsTrue is_clean → number_in (last_in key (g.seen kept) (g.seen other)) ≡ named key (g.seen kept)

  -- a crash leaves one of two slots with this number alone, or one was only read and names the greatest number of both
  abbrev pub StillNames : ℕ → ℕ → D × D → D × D → Type 0
  StillNames key number old new =
      (LeavesOnly key number new.0 ⊎ LeavesOnly key number new.1)
      ⊎ (KeepsGreatest key (are_clean g new.0 new.1) old.0 old.1 new.0 ⊎ KeepsGreatest key (are_clean g new.0 new.1) old.1 old.0 new.1)
