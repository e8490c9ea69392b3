-- What a check of a store finds: this project's own choice.
use Rattle.std.specs.Prelude.{◌≡◌, ◌⊎◌, ℕ, ◌+◌, Bool, List, [], ◌∷◌, ◌++◌, length, map, Some}
use Rattle.std.specs.FinMap.{get}
use Rattle.dav_key.specs.Key.{Key}
use Rattle.dav_resource.specs.PathText.{PathValue}
use Rattle.dav_store.specs.Store.{Store, Contents, File}
use Rattle.dav_store.specs.Calls.{Reads, bytes_at}
use Rattle.dav_store.specs.Members.{IsIn, AreDistinct}
use Rattle.dav_check.specs.Reading.{IsRead, IsReadBelow, WasRefused}
use Rattle.dav_check.specs.declared.checking.Checked.{Checked}
use Rattle.dav_check.specs.declared.pending.Pending.{Pending}

-- a file exists at the key
abbrev pub IsFile : Contents → Key → Type 0
IsFile contents key = (bytes : List ℕ) × (get contents.tree key ≡ Some (File bytes))

-- the file at the key is named as one that cannot be read
abbrev pub IsNamed : Checked → Key → Type 0
IsNamed checked key = (path : PathValue) × IsIn path checked.damaged.items × (path.key ≡ key)

-- the file was read to its end, and its bytes count
pub record CountsFile (file : Pending) (old new : Checked) : Type 0 where
  pub bytes : new.bytes ≡ old.bytes + file.meta.len
  pub damaged : new.damaged ≡ old.damaged

-- the file is named, and its bytes do not count
pub record NamesFile (file : Pending) (old new : Checked) : Type 0 where
  pub bytes : new.bytes ≡ old.bytes
  pub damaged : new.damaged.items ≡ old.damaged.items ++ file.path ∷ []

-- a file was read to its end, or a read of it was refused
pub record ChecksFile {F : Type 0} (seen : F → Store) (reads : F → Reads) (contents : Contents) (file : Pending) (old new : Checked) : Type 0 where
  pub files : new.files ≡ old.files + 1
  pub outcome : (IsReadBelow seen reads contents file.path.key file.meta.len × CountsFile file old new) ⊎ (WasRefused seen reads contents file.path.key × NamesFile file old new)

-- each path that is named is that of a file
abbrev pub NamesFiles : Contents → Checked → Type 0
NamesFiles contents checked = (path : PathValue) → IsIn path checked.damaged.items → IsFile contents path.key

module _ {F : Type 0} (seen : F → Store) (reads : F → Reads) (contents : Contents) (checked : Checked) where
  -- a read of each file that is named was refused
  abbrev pub WereRefused : Type 0
  WereRefused = (path : PathValue) → IsIn path checked.damaged.items → WasRefused seen reads contents path.key

  -- each file is named, or each of its bytes was read
  abbrev pub AreNamedOrRead : Type 0
  AreNamedOrRead = (key : Key) → IsFile contents key → IsNamed checked key ⊎ IsRead seen reads contents key

-- ---- how many

-- the keys of the files that are named
abbrev pub named_keys : Checked → List Key
named_keys checked = map (λ (path : PathValue). path.key) checked.damaged.items

-- the number of bytes in the files at these keys
abbrev pub bytes_in : Contents → List Key → ℕ
bytes_in contents [] = 0
bytes_in contents (key ∷ keys) = length (bytes_at (get contents.tree key)) + bytes_in contents keys

-- the files of the store, each once, are the ones that are not named, and then the named ones: so many files, and so many bytes in the former
pub record CountsAll (contents : Contents) (checked : Checked) : Type 0 where
  pub whole : List Key
  pub once : AreDistinct (whole ++ named_keys checked)
  pub all : (key : Key) → IsFile contents key → IsIn key (whole ++ named_keys checked)
  pub only : (key : Key) → IsIn key (whole ++ named_keys checked) → IsFile contents key
  pub files : checked.files ≡ length (whole ++ named_keys checked)
  pub bytes : checked.bytes ≡ bytes_in contents whole
