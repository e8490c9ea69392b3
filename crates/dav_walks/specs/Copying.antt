-- COPY (RFC 4918, section 9.8) of Depth infinity: what it calls, makes, reports and misses. A key at or below the source s is given by the path x
-- from s down to it. Its destination is the key to which x leads from the destination d.
use Rattle.std.specs.Prelude.{◌≡◌, ◌≢◌, ◌⊎◌, ◌≤◌, ◌*◌, ◌&&◌, not, filter, ℕ, Bool, true, false, if◌then◌else◌, List, [], ◌∷◌, ◌++◌, Option, Some, None, length, map, option_map, IsPermutation}
use Rattle.std.specs.FinMap.{get}
use Rattle.std.specs.List.{cons_option}
use Rattle.dav_key.specs.Key.{Key, parent}
use Rattle.dav_resource.specs.PathText.{PathValue}
use Rattle.dav_resource.specs.Errors.{fs_status}
use Rattle.dav_resource.specs.declared.record.Op.{Op}
use Rattle.dav_resource.specs.declared.record.Op.TheVariants.{Metadata, Copy, CreateDir, ReadDir, Entry}
use Rattle.dav_resource.specs.declared.record.Outcome.{Outcome}
use Rattle.dav_resource.specs.declared.record.Outcome.TheVariants.{Granted}
use Rattle.dav_key.specs.Below.{is_at_or_below}
use Rattle.dav_store.specs.Logged.{Logged, logged}
use Rattle.dav_store.specs.Store.{Contents, Node, File, Directory, Tree, PropertyMap}
use Rattle.dav_store.specs.Calls.{IsLawful, error_of, limit_of}
use Rattle.dav_store.specs.Members.{IsIn, AreDistinct, member}
use Rattle.dav_messages.specs.Multistatus.{Item}
use Rattle.dav_walks.specs.KeyCall.{standing, keys_below}
use Rattle.dav_walks.specs.Deletion.{Subtree, WasRefused, path_at, is_call}
use Rattle.dav_walks.specs.Trace.{HasKind}

-- ---- the snapshot

-- the nodes at the source and below it, without those at the top destination or below that
abbrev pub snapshot : Tree → Key → Key → Subtree
snapshot tree s top = λ x. if is_at_or_below (s ++ x) top then None else get tree (s ++ x)

-- the keys of the snapshot
abbrev pub keys_of_snapshot : Tree → Key → Key → List Key
keys_of_snapshot tree s top = filter (λ key. not (is_at_or_below key top)) (keys_below tree s)

-- ---- the calls

-- a call on a key or its destination, and the outcome
pub record CopyStep : Type 0 where
  pub at : Key
  pub op : Op
  pub outcome : Outcome

-- `create_dir` is called on the destination, `copy` on the key and its destination, every other call on the key
abbrev pub keys_of_step : Op → Key → Key → List Key
keys_of_step Copy from to = from ∷ to ∷ []
keys_of_step CreateDir from to = to ∷ []
keys_of_step _ from to = from ∷ []

-- its record in the store's log
abbrev pub logged_step : Key → Key → CopyStep → Logged
logged_step s d step = logged step.op (keys_of_step step.op (s ++ step.at) (d ++ step.at)) step.outcome

-- on this key such a call had this outcome (`HasOutcome`), was made, was granted, or was not granted
abbrev pub HasOutcome : Op → Outcome → Key → List CopyStep → Type 0
HasOutcome op outcome x steps = IsIn (record { at = x; op = op; outcome = outcome }) steps

abbrev pub IsAsked : Op → Key → List CopyStep → Type 0
IsAsked op x steps = (outcome : Outcome) × HasOutcome op outcome x steps

abbrev pub IsGranted : Op → Key → List CopyStep → Type 0
IsGranted op x steps = HasOutcome op Granted x steps

abbrev pub IsDenied : Op → Key → List CopyStep → Type 0
IsDenied op x steps = (outcome : Outcome) × WasRefused outcome × HasOutcome op outcome x steps

-- the store did not list some member of the key
abbrev pub HasUnseen : Key → List CopyStep → Type 0
HasUnseen x steps = (name : List ℕ) × IsDenied Entry (member x name) steps

-- the copy of the key was made: a file was copied, or a directory made
abbrev pub IsMade : Key → List CopyStep → Type 0
IsMade x steps = IsGranted Copy x steps ⊎ IsGranted CreateDir x steps

-- no copy was made
abbrev pub NothingMade : List CopyStep → Type 0
NothingMade steps = (x : Key) → IsMade x steps → ⊥

-- the key is directly below a directory whose listing was granted
abbrev pub IsListed : Key → List CopyStep → Type 0
IsListed x steps = (above : Key) × (name : List ℕ) × (x ≡ member above name) × IsGranted ReadDir above steps

-- When a call is made: the source and the members of listed directories are looked up. After that a file is copied, or a directory is made at its
-- destination and, once it is made, the source directory is listed.
abbrev pub IsCalledFor : Subtree → Op → Key → List CopyStep → Type 0
IsCalledFor snap Metadata x steps = (snap x ≢ None) × ((x ≡ []) ⊎ IsListed x steps)
IsCalledFor snap Copy x steps = HasKind false (snap x) × IsGranted Metadata x steps
IsCalledFor snap CreateDir x steps = HasKind true (snap x) × IsGranted Metadata x steps
IsCalledFor snap ReadDir x steps = HasKind true (snap x) × IsGranted CreateDir x steps
IsCalledFor snap Entry x steps = IsListed x steps
IsCalledFor snap _ x steps = ⊥

-- ---- what a copy may call and change at any time

-- what the copy is: a file has the same bytes and properties, a directory has no properties
abbrev pub copied : Option Node × Option PropertyMap → Option Node × Option PropertyMap
copied (Some (File bytes), properties) = (Some (File bytes), properties)
copied (Some Directory, properties) = (Some Directory, None)
copied (None, properties) = (None, None)

pub record IsLawfulCopy (s top d : Key) (old new : Contents) (steps : List CopyStep) : Type 0 where
  -- Each call is called for, and no kind of call is made twice on a key. In all at most three are made for each key of the snapshot.
  pub called_for : (step : CopyStep) → IsIn step steps → IsCalledFor (snapshot old.tree s top) step.op step.at steps
  pub once : AreDistinct {X = Key × Op} (map (λ step. (step.at, step.op)) steps)
  pub bound : length (filter (λ step. is_call step.op) steps) ≤ 3 * length (keys_of_snapshot old.tree s top)
  -- no call is barred, each refusal is an error of the store's own, and no `Entry` is granted
  pub free : (step : CopyStep) → IsIn step steps → IsLawful None step.outcome
  pub unseen : (x : Key) → IsGranted Entry x steps → ⊥
  -- Each copy that was made is at its destination. No other node and no other properties change, and the quota keeps its limit.
  pub made : (x : Key) → IsMade x steps → standing new (d ++ x) ≡ copied (standing old (s ++ x))
  pub others : (key : Key) → ((x : Key) → IsMade x steps → key ≢ d ++ x) → standing new key ≡ standing old key
  pub limit : limit_of new ≡ limit_of old
  -- if no copy was made, nothing at all changes
  pub untouched : NothingMade steps → new ≡ old

-- ---- what is reported

abbrev pub is_directory_node : Option Node → Bool
is_directory_node (Some Directory) = true
is_directory_node (Some (File bytes)) = false
is_directory_node None = false

-- A call that was not granted reports the path of its key, except that `create_dir` reports the destination. A member that the store did not list
-- reports the directory above it.
abbrev pub path_of_step : PathValue → PathValue → Subtree → Op → Key → PathValue
path_of_step source dest snap CreateDir x = path_at dest true (dest.key ++ x)
path_of_step source dest snap Entry x = path_at source true (source.key ++ parent x)
path_of_step source dest snap _ x = path_at source (is_directory_node (snap x)) (source.key ++ x)

-- It is reported with the status of the error. A granted call reports nothing.
abbrev pub named_by_step : PathValue → PathValue → Subtree → CopyStep → Option Item
named_by_step source dest snap step = option_map (λ e. (path_of_step source dest snap step.op step.at, fs_status e)) (error_of step.outcome)

-- of consecutive members that the store did not list only the first is reported (`after_unseen`: the step before was such a member)
abbrev pub named_once : PathValue → PathValue → Subtree → Bool → CopyStep → Option Item
named_once source dest snap after_unseen step = if after_unseen && not (is_call step.op) then None else named_by_step source dest snap step

-- The items that the steps report, in order. `after_unseen` says whether the step before them was a member that the store did not list.
abbrev pub names_behind : PathValue → PathValue → Subtree → Bool → List CopyStep → List Item
names_behind source dest snap after_unseen [] = []
names_behind source dest snap after_unseen (step ∷ steps) = cons_option (named_once source dest snap after_unseen step) (names_behind source dest snap (not (is_call step.op)) steps)

abbrev pub names_of_copy : PathValue → PathValue → Subtree → List CopyStep → List Item
names_of_copy source dest snap steps = names_behind source dest snap false steps

-- ---- a whole copy

-- Nothing is left out: each of these calls is made, whatever its outcome. The source is looked up. After a granted lookup a file is copied, and a
-- directory is made at its destination. A directory that was made is listed. Each member of a listed directory that is in the snapshot is looked up,
-- unless the store did not list some member of that directory.
pub record IsWholeCopy (snap : Subtree) (steps : List CopyStep) : Type 0 where
  pub source : IsAsked Metadata [] steps
  pub files : (x : Key) → HasKind false (snap x) → IsGranted Metadata x steps → IsAsked Copy x steps
  pub directories : (x : Key) → HasKind true (snap x) → IsGranted Metadata x steps → IsAsked CreateDir x steps
  pub listings : (x : Key) → IsGranted CreateDir x steps → IsAsked ReadDir x steps
  pub members : (x : Key) (name : List ℕ) → snap (member x name) ≢ None → IsGranted ReadDir x steps → IsAsked Metadata (member x name) steps ⊎ HasUnseen x steps

-- a reported path is that of the key or its destination, or is above one of these, up to the source or the destination
abbrev pub IsUnderName : Key → Key → Key → List Item → Type 0
IsUnderName s d x names = (y : Key) × (z : Key) × (x ≡ y ++ z) × (item : Item) × IsIn item names × ((item.0.key ≡ s ++ y) ⊎ (item.0.key ≡ d ++ y))

-- the copy of the source and everything below it, with these calls and these reported items
pub record CopiesTree (source dest : PathValue) (top : Key) (old new : Contents) (steps : List CopyStep) (names : List Item) : Type 0 where
  pub lawful : IsLawfulCopy source.key top dest.key old new steps
  pub whole : IsWholeCopy (snapshot old.tree source.key top) steps
  -- The items are those that the steps report, in some order. A key that is not copied has a reported path, as `IsUnderName` says.
  pub named : IsPermutation (names_of_copy source dest (snapshot old.tree source.key top) steps) names
  pub missed : (x : Key) → snapshot old.tree source.key top x ≢ None → IsMade x steps ⊎ IsUnderName source.key dest.key x names

-- ---- where a copy is possible

-- The source exists. Nothing exists at the destination, and its parent is a directory. The destination is the top destination or below it, and the
-- source is neither.
pub record HasRoom (s top d : Key) (old : Contents) : Type 0 where
  pub source : get old.tree s ≢ None
  pub free : get old.tree d ≡ None
  pub above : get old.tree (parent d) ≡ Some Directory
  pub within : is_at_or_below d top ≡ true
  pub apart : is_at_or_below s top ≡ false
