-- What lookups find among what is kept: this project's own choice.
use Rattle.std.specs.Prelude.{◌≡◌, ◌≢◌, ℕ, Bool, false, Option, Some, None, MatchOption}
use Rattle.std.specs.FinMap.{get}
use Rattle.dav_key.specs.Key.{Key}
use Rattle.dav_store.specs.Store.{Directory}
use Rattle.dav_tree.specs.Memory.{Stored, tree_of, is_directory}
use Rattle.dav_tree.specs.Kept.{Kept, IsAt, IsAbsent, IsFound}
use Rattle.dav_tree.specs.declared.entries.Place.{Place}

-- a lookup finds the place of a key, or nothing
abbrev pub Finds : Kept → Key → Option Place → Type 0
Finds kept key found = MatchOption found (IsAbsent kept key) (λ place. IsFound kept key place.number place.directory)

-- there is a file at a key, under this number
pub record IsFileFound (kept : Kept) (key : Key) (number : ℕ) : Type 0 where
  pub stored : Stored
  pub at : IsAt kept key number stored
  pub file : is_directory stored.node ≡ false

-- there is a directory at a key, under this number
pub record IsDirectoryAt (kept : Kept) (key : Key) (number : ℕ) : Type 0 where
  pub directory : get (tree_of kept.resources) key ≡ Some Directory
  pub numbered : get kept.numbers key ≡ Some number

-- a lookup finds the number of the directory at a key, or there is no directory
abbrev pub FindsDirectory : Kept → Key → Option ℕ → Type 0
FindsDirectory kept key found = MatchOption found (get (tree_of kept.resources) key ≢ Some Directory) (IsDirectoryAt kept key)

-- the place is a directory's
abbrev pub directory_in : Option Place → Bool
directory_in None = false
directory_in (Some place) = place.directory
