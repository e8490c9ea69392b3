-- Why the store of a folder is not opened.
use Rattle.std.specs.Prelude.{⊤}
use Rattle.dav_folder.specs.declared.error.OpenError.{OpenError}
use Rattle.dav_folder.specs.declared.error.OpenError.TheVariants.{Damaged, Foreign, NoDatabase, Data, Database, Memory}

-- it may come after the database was opened for writing: memory ran out, or the database cannot be read or written
abbrev pub IsLate : OpenError → Type 0
IsLate Damaged = ⊥
IsLate Foreign = ⊥
IsLate NoDatabase = ⊥
IsLate (Data error) = ⊥
IsLate (Database error) = ⊤
IsLate Memory = ⊤
