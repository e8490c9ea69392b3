-- What the program does.
use Rattle.std.specs.Prelude.{◌≡◌, ℕ, Bool, true, false, List, [], Option, Some, None, Result, Ok, Err}
use Rattle.std.specs.Option.{option_map}
use Rattle.dav_tree.specs.TreeFs.{memory_of, store_of, reads_of}
use Rattle.dav_tree.specs.Memory.{first_memory}
use Rattle.dav_tree.specs.declared.medium.Medium.{Ghosts}
use Rattle.dav_tree.specs.declared.tree_fs.TreeFs.{TreeFs}
use Rattle.dav_memls.specs.MemLs.{list_of, locks_of}
use Rattle.dav_memls.specs.declared.memory_locks.MemLs.{MemLs}
use Rattle.dav_server.specs.Exchanges.{Runs}
use Rattle.dav_server.specs.State.{Rules, ServerState, first_rules, first_state}
use Rattle.dav_data.specs.declared.claim.Claim as claim
use Rattle.dav_data.specs.declared.claimed_file.ClaimedFile.{ClaimedFile}
use Rattle.dav_last.specs.declared.last_batch.LastBatch.{LastBatch}
use Rattle.dav_pieces.specs.declared.piece.Piece.{Piece}
use Rattle.sqlite.specs.Recovery as database
use Rattle.sqlite_disk.specs.declared.Disk as disk
use Rattle.sqlite_store.specs.declared.store.FileStore.{FileStore}
use Rattle.davd.specs.Failing.{IsUntouched}
use Rattle.davd.specs.declared.folder.Unserved.{Unserved}
use Rattle.davd.specs.Leaving.{GoesOn, GoesOnWithLog, GoesOnAndStops}
use Rattle.davd.specs.Options.{OptionsValue, options_of}
use Rattle.davd.specs.declared.folder.StartOptions.{StartOptions}
use Rattle.davd.specs.declared.program.Refusal.{Refusal}
use Rattle.davd.specs.declared.program.Refusal.TheVariants as refusals
use Rattle.davd.specs.declared.program.Stopped.{Stopped}
use Rattle.davd.specs.declared.program.Stopped.TheVariants.{Usage, Stream, Memory, Refused, InUse, Disk, Full, NotKept, Damaged, WithLog, Unnumbered}

-- ---- runs in memory

-- a run by these rules, which begins with a store that has only its root, with this quota and this part of the entity tags, without locks, at time 0 and
-- before batch 1; the store marks each directory that gains or loses a member
pub record ServesInMemory {M B : Type 0} (medium : Ghosts M B) (rules : Rules) (quota tag_part : Option ℕ) (input input' output output' : Option (List ℕ)) : Type 0 where
  pub store : TreeFs M B medium
  pub locks : MemLs
  pub empty : memory_of store ≡ record (first_memory 0 (option_map Some quota)) { tag_part = tag_part; marks = true }
  pub unlocked : list_of locks ≡ []
  pub final : ServerState
  pub runs : Runs (store_of {g = medium}) reads_of rules (first_state (store_of store) (locks_of locks)) final input input' output output'

-- the rules that the options say
abbrev pub rules_in : OptionsValue → Rules
rules_in options = first_rules options.prefix options.anyone_unlocks

-- such a run with the options that the arguments say
pub record ServesAll {M B : Type 0} (medium : Ghosts M B) (arguments : List (List ℕ)) (input input' output output' : Option (List ℕ)) : Type 0 where
  pub options : OptionsValue
  pub read : options_of arguments ≡ Some options
  pub serves : ServesInMemory medium (rules_in options) options.quota options.tag_part input input' output output'

-- the arguments do not say a folder
abbrev pub HaveNoFolder : List (List ℕ) → Type 0
HaveNoFolder arguments = (options : OptionsValue) → options_of arguments ≡ Some options → options.folder ≡ None

-- the arguments say that a folder is checked, and not served
abbrev pub DoCheck : List (List ℕ) → Type 0
DoCheck arguments = (options : OptionsValue) × (folder : List ℕ) × (options_of arguments ≡ Some options) × (options.checks ≡ true) × (options.folder ≡ Some folder)

-- ---- runs over a folder

-- the arguments say these options, with which a folder is served
abbrev pub SayFolder : List (List ℕ) → OptionsValue → Type 0
SayFolder arguments options = (options_of arguments ≡ Some options) × (options.checks ≡ false) × ((folder : List ℕ) × (options.folder ≡ Some folder))

-- how its folder is opened
abbrev pub start_of : OptionsValue → StartOptions
start_of options = record { quota = options.quota; accepts_loss = options.accepts_loss; key = options.key; seed = options.seed; tag_part = options.tag_part }

-- `left` and `file` are what the files of its database and its data file held; `L` is the disk of the number of the last batch, whose files held `said`
module _ {D E L C : Type 0} (d : disk.Ghosts D) (l : disk.Ghosts L) {e : disk.Ghosts E} {c : claim.Ghosts C} (medium : Ghosts (ClaimedFile E C e c) (List Piece)) (left : database.Image)
    (file : List ℕ) (said : database.Image) (options : OptionsValue) where
  -- a run goes on from what they held
  pub record ServesFolder (input input' output output' : Option (List ℕ)) : Type 0 where
    pub files : FileStore D d × ClaimedFile E C e c
    pub number : LastBatch L l
    pub goes_on : GoesOn left file files said number medium (rules_in options) (start_of options) input input' output output'

  -- such a run, after which the log is not copied into the database file, or the number of the last batch is not on the disk
  pub record ServesWithLog (input input' output output' : Option (List ℕ)) : Type 0 where
    pub files : FileStore D d × ClaimedFile E C e c
    pub number : LastBatch L l
    pub goes_on : GoesOnWithLog left file files said number medium (rules_in options) (start_of options) input input' output output'

  -- an error stops such a run
  pub record StopsInFolder (output output' : Option (List ℕ)) : Type 0 where
    pub files : FileStore D d × ClaimedFile E C e c
    pub number : LastBatch L l
    pub stops : GoesOnAndStops left file files said number medium (rules_in options) (start_of options) output output'

-- the folder is refused with this error, and whatever a crash leaves of its files is what they held
abbrev pub RefusesFolder : {D E L C : Type 0} → disk.Ghosts D → disk.Ghosts E → disk.Ghosts L → claim.Ghosts C → database.Image → List ℕ → database.Image → Stopped → Type 0
RefusesFolder {D} {E} {L} {C} d e l c left file said stopped = (unserved : Unserved D E L C d e c) × (unserved.start.stopped ≡ stopped) × IsUntouched l left file said unserved

-- no input is read, and no output written
abbrev pub HasNotBegun : {I O : Type 0} → I → I → O → O → Type 0
HasNotBegun input input' output output' = (input' ≡ input) × (output' ≡ output)

-- ---- how the program ends

-- another reason than wrong arguments
abbrev pub IsNotUsage : Stopped → Type 0
IsNotUsage stopped = stopped ≡ Usage → ⊥

-- the folder is refused for what its files hold, and not for which there are or who has them open
abbrev pub is_by_content : Refusal → Bool
is_by_content refusals.Damaged = true
is_by_content refusals.Foreign = true
is_by_content refusals.NoTables = true
is_by_content refusals.ShortData = true
is_by_content refusals.Older = true
is_by_content refusals.NoNumber = true
is_by_content _ = false

-- the program ends because it has judged the files of its folder, and refuses it
abbrev pub is_judged : Stopped → Bool
is_judged (Refused refusal) = is_by_content refusal
is_judged _ = false

-- the exit status: 0 at the end of the input, 2 for wrong arguments, 3 if a stream failed or memory ran out; over a folder 4 if it is not one of a store,
-- 5 if it is in use, 6 if its disk fails, 7 if the disk is full, and 8 if a batch is not kept for another reason; 1 if a check
-- has found a damaged file; 9 at the end of the input if the log is not copied into the database file, and 10 if the number of the last batch is not on
-- the disk
abbrev pub status_of : Result (Unit {0}) Stopped → ℕ
status_of (Ok done) = 0
status_of (Err Usage) = 2
status_of (Err (Stream error)) = 3
status_of (Err Memory) = 3
status_of (Err (Refused refusal)) = 4
status_of (Err InUse) = 5
status_of (Err (Disk error)) = 6
status_of (Err Full) = 7
status_of (Err NotKept) = 8
status_of (Err Damaged) = 1
status_of (Err WithLog) = 9
status_of (Err Unnumbered) = 10
