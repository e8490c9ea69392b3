-- What contracts see of a folder.
use Rattle.std.specs.Prelude.{ℕ}
use Rattle.sqlite_trees.specs.declared.store.Store as store
use Rattle.dav_keep.specs.declared.keeping.Keeping.{Keeping}
use Rattle.dav_folder.specs.declared.folder.Folder.{Folder}

-- the keeper of its database
abbrev pub keeping_of : {S : Type 0} {rows : store.Ghosts S} → Folder S rows → Keeping S rows
keeping_of folder = folder.keeping

-- the number of the last batch that changed something
abbrev pub batch_of : {S : Type 0} {rows : store.Ghosts S} → Folder S rows → ℕ
batch_of folder = folder.batch
