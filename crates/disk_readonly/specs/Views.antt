-- What contracts see of a disk that refuses each change: this project's own choice.
use Rattle.std.specs.Prelude.{ℕ, List}
use Rattle.sqlite_disk.specs.declared.Disk.{Ghosts}
use Rattle.disk_readonly.specs.Padded.{padded}
use Rattle.disk_readonly.specs.declared.read_only.ReadOnly.{ReadOnly}

module _ {D : Type 0} {g : Ghosts D} where
  -- the disk that is read
  abbrev pub inner_of : ReadOnly D g → D
  inner_of it = it.inner

  -- its contents, as long as they were at first
  abbrev pub contents_of : ReadOnly D g → List ℕ
  contents_of it = padded it.len (g.seen it.inner)
