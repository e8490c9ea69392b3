-- What the program does over a folder: what a start finds there, and what a run leaves.
use Rattle.std.specs.Prelude.{◌≡◌, ◌≤◌, ◌<◌, ⊤, ℕ, true, List, [], string_bytes, Option, Some, None}
use Rattle.std.specs.FinMap.{empty, insert}
use Rattle.std.specs.Option.{option_map}
use Rattle.dav_data.specs.declared.claim.Claim as claim
use Rattle.dav_data.specs.declared.claimed_file.ClaimedFile.{ClaimedFile}
use Rattle.dav_folder.specs.Files.{KeptStore, kept_at, Hold}
use Rattle.dav_folder.specs.Lasting.{At, Lasts, IsSameKept, HasCleanDatabase}
use Rattle.dav_folder.specs.Opening.{opened_at}
use Rattle.dav_folder.specs.Folders.{batch_of}
use Rattle.dav_folder.specs.Numbered.{folder_of, last_of, LastsNumbered, LastsEitherNumbered}
use Rattle.dav_folder.specs.declared.numbered.Numbered.{Numbered}
use Rattle.dav_folder.specs.declared.opening.Opened.{Opened}
use Rattle.dav_folder.specs.declared.reading.Found.{Found}
use Rattle.dav_keep.specs.Images.{StandForImage}
use Rattle.dav_keep.specs.Loading.{first_image}
use Rattle.dav_last.specs.Batches.{Names, HasCleanSlots}
use Rattle.dav_last.specs.Slots.{last_in}
use Rattle.dav_last.specs.declared.last_batch.LastBatch.{LastBatch}
use Rattle.dav_last.specs.declared.reading.Last.{Last}
use Rattle.dav_last.specs.declared.reading.Last.TheVariants.{Nothing, Unreadable, Number}
use Rattle.dav_memls.specs.MemLs.{locks_of}
use Rattle.dav_memls.specs.declared.memory_locks.MemLs.{MemLs}
use Rattle.dav_pieces.specs.declared.piece.Piece.{Piece}
use Rattle.dav_rows.specs.Contents.{Contents}
use Rattle.dav_rows.specs.Creating.{first}
use Rattle.dav_rows.specs.declared.change.Change.{Change}
use Rattle.dav_rows_files.specs.Starting.{Keeps, IsVacant}
use Rattle.dav_seal.specs.Seals.{IsSealed}
use Rattle.dav_server.specs.Keeping.{snapshot_of, RunsAndKeeps, StopsAfterKept}
use Rattle.dav_server.specs.State.{Rules, ServerState, first_rules, state_of, store_in}
use Rattle.dav_server.specs.Snapshots.{state_at}
use Rattle.dav_server.specs.declared.server.Options.{Options}
use Rattle.dav_server.specs.declared.server.Server.{Server}
use Rattle.dav_folder.specs.declared.folder.Folder.{Folder}
use Rattle.dav_store.specs.Store as store_specs
use Rattle.dav_tree.specs.Memory.{fresh}
use Rattle.dav_tree.specs.TreeFs.{memory_of, store_of, before_of, honest_of, reads_of}
use Rattle.dav_tree.specs.declared.medium.Medium.{Ghosts}
use Rattle.dav_tree.specs.declared.tree_fs.TreeFs.{TreeFs}
use Rattle.sqlite.specs.Recovery as files
use Rattle.sqlite_disk.specs.declared.Disk as disk
use Rattle.sqlite_trees.specs.declared.store.Store as store

-- the rules of a server with these options
abbrev pub rules_for : Options → Rules
rules_for options = first_rules (string_bytes options.prefix) options.anyone_unlocks

-- ---- servers over a folder

module _ {M : Type 0} where
  -- a server over a store on this medium
  abbrev pub Serving : Ghosts M (List Piece) → Type 0
  Serving g = Server (TreeFs M (List Piece) g) MemLs

  module _ {g : Ghosts M (List Piece)} where
    -- its state
    abbrev pub state_now : Serving g → ServerState
    state_now server = state_of (store_of {g = g}) locks_of server

    -- the state of one that goes on from here, without access rules
    abbrev pub state_from : At g → ServerState
    state_from snapshot = state_at (store_of {g = g}) locks_of None snapshot

-- ---- what a start finds

-- what the files of the last number say does not exceed this number: there is nothing in them, or a number up to it
abbrev pub IsUpTo : ℕ → Last → Type 0
IsUpTo batch Nothing = ⊤
IsUpTo batch Unreadable = ⊥
IsUpTo batch (Number number) = number ≤ batch

-- a store with this key, whose last batch has this number, is not older than these contents of the two files say
abbrev pub IsNotOlder : ℕ → ℕ → List ℕ → List ℕ → Type 0
IsNotOlder key batch other last = IsUpTo batch (last_in key other last)

-- the files of the last number name one
abbrev pub IsNumber : Last → Type 0
IsNumber Nothing = ⊥
IsNumber Unreadable = ⊥
IsNumber (Number number) = ⊤

-- the files of the number, which held this, name one under the key of a store, unless its last batch has the number 0
abbrev pub IsNumbered : ℕ → ℕ → files.Image → Type 0
IsNumbered key batch said = 0 < batch → IsNumber (last_in key said.log said.db)

-- if the files held the tables of a store of this version, and its last batch has another number than 0, the files of the number name one
abbrev pub FoundNumbered : {M : Type 0} {g : Ghosts M (List Piece)} → files.Image → files.Image → Found M (List Piece) g → Type 0
FoundNumbered left said found = (tables : Contents) → Keeps left tables → IsNumbered found.key found.last said

-- the files of the number, which held this, name one under the key of a store
abbrev pub IsNamed : ℕ → files.Image → Type 0
IsNamed key said = IsNumber (last_in key said.log said.db)

-- if the files held the tables of a store of this version, the files of the number name one
abbrev pub FoundNamed : {M : Type 0} {g : Ghosts M (List Piece)} → files.Image → files.Image → Found M (List Piece) g → Type 0
FoundNamed left said found = (tables : Contents) → Keeps left tables → IsNamed found.key said

-- a new store: the root, made at time 0, without locks, before batch 1
abbrev pub first_kept : KeptStore
first_kept = record { resources = insert empty [] (fresh store_specs.Directory 0 0); counter = 0; locks = []; time = 0; batch = 0 }

-- the changes make the tables of a new store with this key
abbrev pub MakesFirst : ℕ → List Change → Type 0
MakesFirst key changes = StandForImage (first changes) (first_image key)

module _ {S E C : Type 0} {e : disk.Ghosts E} {c : claim.Ghosts C} {rows : store.Ghosts S} {g : Ghosts (ClaimedFile E C e c) (List Piece)} where
  -- what is opened is kept
  abbrev pub IsOpenedAsKept : Opened S (ClaimedFile E C e c) (List Piece) rows g → Type 0
  IsOpenedAsKept opened = Lasts c opened.folder (before_of opened.store) (opened_at opened)

  -- the server goes on from what was opened
  pub record BeginsOpened (first : Serving g) (opened : Opened S (ClaimedFile E C e c) (List Piece) rows g) : Type 0 where
    pub snapshot : snapshot_of first ≡ Some (opened_at opened)
    pub state : state_now first ≡ state_from (opened_at opened)

  -- this store is opened, with this limit, and it is kept
  pub record IsFound (limit : Option (Option ℕ)) (kept : KeptStore) (opened : Opened S (ClaimedFile E C e c) (List Piece) rows g) : Type 0 where
    pub lasts : IsOpenedAsKept opened
    pub is : kept_at (opened_at opened) ≡ kept
    pub limit_is : (memory_of opened.store).limit ≡ limit

  -- so it is if the disk of the database is clean
  abbrev pub IsFoundIfClean : Option (Option ℕ) → KeptStore → Opened S (ClaimedFile E C e c) (List Piece) rows g → Type 0
  IsFoundIfClean limit kept opened = HasCleanDatabase opened.folder → IsFound limit kept opened

  -- if the files held a store, it is found
  abbrev pub FindsHeld : files.Image → List ℕ → Option (Option ℕ) → Opened S (ClaimedFile E C e c) (List Piece) rows g → Type 0
  FindsHeld left file limit opened = (kept : KeptStore) → Hold c left file kept → IsFoundIfClean limit kept opened

  -- if the files had no table, a new store is found, with this key, and the data file had no byte if it is honest
  pub record FindsNew (left : files.Image) (file : List ℕ) (limit : Option (Option ℕ)) (key : ℕ) (opened : Opened S (ClaimedFile E C e c) (List Piece) rows g) : Type 0 where
    pub found : IsVacant left → IsFoundIfClean limit first_kept opened
    pub keyed : IsVacant left → HasCleanDatabase opened.folder → opened.key ≡ key
    pub empty : IsVacant left → HasCleanDatabase opened.folder → honest_of opened.store ≡ true → file ≡ []

  -- the same with a quota
  abbrev pub FindsKept : files.Image → List ℕ → Option ℕ → Opened S (ClaimedFile E C e c) (List Piece) rows g → Type 0
  FindsKept left file quota = FindsHeld left file (option_map Some quota)

  abbrev pub FindsFirst : files.Image → List ℕ → Option ℕ → ℕ → Opened S (ClaimedFile E C e c) (List Piece) rows g → Type 0
  FindsFirst left file quota = FindsNew left file (option_map Some quota)

  -- the tables that the files held are sealed under the key that was found
  abbrev pub HeldSealed : files.Image → Opened S (ClaimedFile E C e c) (List Piece) rows g → Type 0
  HeldSealed left opened = (tables : Contents) → Keeps left tables → HasCleanDatabase opened.folder → IsSealed opened.key tables

  -- what is opened is not older than the files of the number said, which held this, if their disks are clean now
  abbrev pub OpensUpToDate : {L : Type 0} {l : disk.Ghosts L} → files.Image → Opened S (ClaimedFile E C e c) (List Piece) rows g → LastBatch L l → Type 0
  OpensUpToDate said opened last = HasCleanSlots last → IsNotOlder opened.key opened.last said.log said.db

  -- the same of what is opened, if the disk of the database is clean
  abbrev pub HeldNumbered : files.Image → files.Image → Opened S (ClaimedFile E C e c) (List Piece) rows g → Type 0
  HeldNumbered left said opened = (tables : Contents) → Keeps left tables → HasCleanDatabase opened.folder → IsNumbered opened.key opened.last said

  -- the files of the number name one, if the disk of the database is clean
  abbrev pub HeldNamed : files.Image → files.Image → Opened S (ClaimedFile E C e c) (List Piece) rows g → Type 0
  HeldNamed left said opened = (tables : Contents) → Keeps left tables → HasCleanDatabase opened.folder → IsNamed opened.key said

  -- they name one as `HeldNumbered` says, if the disks of the files of the number are clean now
  abbrev pub OpensNumbered : {L : Type 0} {l : disk.Ghosts L} → files.Image → files.Image → Opened S (ClaimedFile E C e c) (List Piece) rows g → LastBatch L l → Type 0
  OpensNumbered left said opened last = HasCleanSlots last → HeldNumbered left said opened

  -- ---- what a run leaves in the keeper

  -- the keepers of a run: it begins with the folder that was opened, and ends with this one; `L` is the disk of the last number
  pub record Keep {L : Type 0} (l : disk.Ghosts L) (opened : Opened S (ClaimedFile E C e c) (List Piece) rows g) (last : Folder S rows) : Type 0 where
    pub keeper : Numbered S L rows l
    pub keeper' : Numbered S L rows l
    pub begins : folder_of keeper ≡ opened.folder
    pub named : Names (batch_of (folder_of keeper)) (last_of keeper)
    pub ends : folder_of keeper' ≡ last

  -- a run of a server that goes on from what was opened, and what its keeper keeps then
  pub record ServesOpened {L : Type 0} (l : disk.Ghosts L) (rules : Rules) (opened : Opened S (ClaimedFile E C e c) (List Piece) rows g) (kept : Folder S rows × TreeFs (ClaimedFile E C e c) (List Piece) g)
      (input input' output output' : Option (List ℕ)) : Type 0 where
    pub first : Serving g
    pub last : Serving g
    pub begins : BeginsOpened first opened
    pub ends : store_in last ≡ kept.1
    pub keep : Keep l opened kept.0
    pub runs : RunsAndKeeps (store_of {g = g}) locks_of (LastsNumbered c) IsSameKept reads_of rules keep.keeper keep.keeper' first last input input' output output'

  -- such a run that an error stops
  pub record StopsOpened {L : Type 0} (l : disk.Ghosts L) (rules : Rules) (opened : Opened S (ClaimedFile E C e c) (List Piece) rows g) (kept : Folder S rows × TreeFs (ClaimedFile E C e c) (List Piece) g)
      (output output' : Option (List ℕ)) : Type 0 where
    pub first : Serving g
    pub last : Serving g
    pub begins : BeginsOpened first opened
    pub ends : store_in last ≡ kept.1
    pub keep : Keep l opened kept.0
    pub stops : StopsAfterKept (store_of {g = g}) locks_of (LastsNumbered c) (LastsEitherNumbered c) IsSameKept reads_of rules keep.keeper keep.keeper' first last output output'
