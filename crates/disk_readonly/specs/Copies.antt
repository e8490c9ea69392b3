-- What contracts see of a copy: this project's own choice.
use Rattle.std.specs.Prelude.{◌≡◌, ◌⊎◌, ℕ, List}
use Rattle.std.specs.declared.io.Error.{Error}
use Rattle.sqlite_disk.specs.declared.Disk.{Ghosts}
use Rattle.sqlite_disk.specs.Disk.{MoreFaults}
use Rattle.sqlite_wal.specs.Reads.{IsClean}
use Rattle.disk_readonly.specs.declared.copied.Copied.{Copied}
use Rattle.disk_readonly.specs.declared.error.CopyError.{CopyError}
use Rattle.disk_readonly.specs.declared.error.CopyError.TheVariants.{Memory, Disk}

abbrev pub contents_of : Copied → List ℕ
contents_of copy = copy.bytes.items

-- how many calls have failed
abbrev pub faults_of : Copied → ℕ
faults_of copy = copy.faults

-- if no wrong answer was taken as true, the copy has the contents of the disk
abbrev pub IsCopyOf : {D : Type 0} → Ghosts D → D → D → Copied → Type 0
IsCopyOf g old new copy = IsClean g new → contents_of copy ≡ g.seen old

-- memory ran out, or a call of the disk failed
abbrev pub IsExcused : ℕ → ℕ → CopyError → Type 0
IsExcused old new e = (e ≡ Memory) ⊎ ((cause : Error) × (e ≡ Disk cause) × MoreFaults old new)
