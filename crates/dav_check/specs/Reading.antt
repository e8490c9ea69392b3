-- What was read of a file: this project's own choice. `seen` is what contracts see of a store, and `reads` what it says of the bytes that it returns.
use Rattle.std.specs.Prelude.{◌≡◌, ◌≢◌, ◌⊎◌, ℕ, ◌+◌, ◌<◌, ◌≤◌, length, Ok, Err, Vec}
use Rattle.std.specs.declared.alloc.Global.{Global}
use Rattle.std.specs.FinMap.{get}
use Rattle.dav_key.specs.Key.{Key}
use Rattle.dav_resource.specs.declared.error.FsError.{FsError}
use Rattle.dav_resource.specs.declared.error.FsError.TheVariants.{Memory}
use Rattle.dav_store.specs.Store.{Store, Contents}
use Rattle.dav_store.specs.Calls.{Reads, ReadsBytes, bytes_at}

module _ {F : Type 0} (seen : F → Store) (reads : F → Reads) (contents : Contents) (key : Key) where
  -- a call of `read_bytes` on a store with these contents has returned the byte of the file at this offset
  pub record WasRead (place : ℕ) : Type 0 where
    pub before : F
    pub after : F
    pub start : ℕ
    pub count : ℕ
    pub bytes : Vec ℕ Global
    pub same : (seen before).contents ≡ contents
    pub behind : start ≤ place
    pub ahead : place < start + count
    pub returned : ReadsBytes (reads after) (seen before) key start count (Ok bytes) (seen after)

  -- each byte from the first offset to before the second was read
  abbrev pub IsReadBetween : ℕ → ℕ → Type 0
  IsReadBetween start end = (place : ℕ) → start ≤ place → place < end → WasRead place

  -- each of so many bytes was read
  abbrev pub IsReadBelow : ℕ → Type 0
  IsReadBelow end = (place : ℕ) → place < end → WasRead place

  -- each byte of the file was read
  abbrev pub IsRead : Type 0
  IsRead = IsReadBelow (length (bytes_at (get contents.tree key)))

  -- a call of `read_bytes` on a store with these contents has returned an error for the file, and memory had not run out
  pub record WasRefused : Type 0 where
    pub before : F
    pub after : F
    pub start : ℕ
    pub count : ℕ
    pub error : FsError
    pub same : (seen before).contents ≡ contents
    pub cause : error ≢ Memory
    pub refused : ReadsBytes (reads after) (seen before) key start count (Err error) (seen after)

  -- an error with which a read of the file ends
  abbrev pub IsFailure : FsError → Type 0
  IsFailure error = (error ≡ Memory) ⊎ WasRefused
