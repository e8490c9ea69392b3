-- DELETE (RFC 4918, section 9.6): what a deletion calls, leaves and reports. A key at or below the deleted key p is given by the path x from p down
-- to it: `old x` is the node that was there, and `calls x` are the calls on it.
use Rattle.std.specs.Prelude.{◌≡◌, ◌≢◌, ◌⊎◌, ◌≤◌, ◌*◌, filter, ℕ, Bool, true, false, if◌then◌else◌, List, [], ◌∷◌, ◌++◌, Option, Some, None, Result, Ok, Err, length, map, filter_map, option_map, IsPermutation}
use Rattle.std.specs.FinMap.{get}
use Rattle.dav_key.specs.Key.{Key, parent}
use Rattle.dav_resource.specs.PathText.{PathValue}
use Rattle.dav_resource.specs.Errors.{fs_status}
use Rattle.dav_resource.specs.declared.request.Depth.{Depth}
use Rattle.dav_resource.specs.declared.request.Depth.TheVariants.{Zero}
use Rattle.dav_resource.specs.declared.record.Op.{Op}
use Rattle.dav_resource.specs.declared.record.Op.TheVariants.{ReadDir, RemoveFile, RemoveDir, Entry}
use Rattle.dav_resource.specs.declared.record.Outcome.{Outcome}
use Rattle.dav_resource.specs.declared.record.Outcome.TheVariants.{Granted, Barred, Refused}
use Rattle.dav_resource.specs.declared.error.FsError.{FsError}
use Rattle.dav_resource.specs.declared.error.FsError.TheVariants.{Forbidden}
use Rattle.dav_resource.specs.declared.error.DavError.{DavError}
use Rattle.dav_resource.specs.declared.error.DavError.TheVariants.{Status, Memory}
use Rattle.dav_store.specs.Logged.{Logged}
use Rattle.dav_store.specs.Store.{Store, Contents, Node, File, Directory, Tree}
use Rattle.dav_store.specs.Calls.{Call, record_of, IsLawful, IsOwn, error_of, limit_of}
use Rattle.dav_store.specs.Members.{IsIn, remove_file_call, remove_dir_call, IsRemovedAt}
use Rattle.dav_messages.specs.Multistatus.{Item}
use Rattle.dav_walks.specs.KeyCall.{KeyCall, logged_call, same_key, calls_at, standing, keys_below}

-- the calls on each key, by its path from another key
abbrev pub Calls : Type 0
Calls = Key → List (Op × Outcome)

-- the node at each key, by its path from another key
abbrev pub Subtree : Type 0
Subtree = Key → Option Node

abbrev pub subtree : Tree → Key → Subtree
subtree tree p = λ x. get tree (p ++ x)

abbrev pub calls_below : List KeyCall → Key → Calls
calls_below calls p = λ x. calls_at calls (p ++ x)

-- the same, seen from the child of this name
abbrev pub under : {X : Type 0} → (Key → X) → List ℕ → Key → X
under f name = λ x. f (name ∷ x)

-- ---- members that are not listed

abbrev pub WasRefused : Outcome → Type 0
WasRefused outcome = outcome ≢ Granted

-- the store did not list the key in its directory
abbrev pub IsUnseen : List (Op × Outcome) → Type 0
IsUnseen calls = (outcome : Outcome) × IsIn (Entry, outcome) calls × WasRefused outcome

-- the listing of the key itself was not granted
abbrev pub IsUnlisted : List (Op × Outcome) → Type 0
IsUnlisted calls = (outcome : Outcome) × IsIn (ReadDir, outcome) calls × WasRefused outcome

-- the key is hidden: the store did not list it or a key above it, or a listing above it was not granted (from p downward)
abbrev pub IsHidden : Calls → Key → Type 0
IsHidden calls [] = IsUnseen (calls [])
IsHidden calls (name ∷ x) = IsUnseen (calls []) ⊎ IsUnlisted (calls []) ⊎ IsHidden (under calls name) x

-- a key that the deletion reaches: a node was there, and the key is not hidden
abbrev pub IsReached : Subtree → Calls → Key → Type 0
IsReached old calls x = (old x ≢ None) × (IsHidden calls x → ⊥)

abbrev pub IsMemberOfReached : Subtree → Calls → Key → Type 0
IsMemberOfReached old calls x = (y : Key) × (name : List ℕ) × (x ≡ y ++ name ∷ []) × IsReached old calls y

-- ---- what is reported

-- the path of a key: for the path's own key the path itself, else the same path with this key and, if `slash` is true, a trailing slash
abbrev pub path_at : PathValue → Bool → Key → PathValue
path_at path slash key = if same_key key path.key then path else record path { star = false; slash = slash; key = key }

-- A call that was not granted reports the path of its key. A member that the store did not list reports the directory above it.
abbrev pub named_path : PathValue → Op → Key → PathValue
named_path path RemoveFile key = path_at path false key
named_path path Entry key = path_at path true (parent key)
named_path path _ key = path_at path true key

-- It is reported with the status of the error. A granted call reports nothing.
abbrev pub named_by : PathValue → KeyCall → Option Item
named_by path call = option_map (λ e. (named_path path call.op call.key, fs_status e)) (error_of call.outcome)

abbrev pub named_in : PathValue → List KeyCall → List Item
named_in path calls = filter_map (named_by path) calls

-- a reported path is at the key or below it, or the key is hidden
abbrev pub IsLeft : List Item → Calls → Key → Key → Type 0
IsLeft names calls p x = ((z : Key) × (item : Item) × IsIn item names × (item.0.key ≡ (p ++ x) ++ z)) ⊎ IsHidden calls x

-- ---- the calls

-- no two calls of one kind
abbrev pub AreDifferent : List (Op × Outcome) → Type 0
AreDifferent [] = Unit {0}
AreDifferent (c ∷ cs) = ((d : Op × Outcome) → IsIn d cs → d.0 ≢ c.0) × AreDifferent cs

-- The calls that a deletion makes on such a node: a file is removed, a directory is listed and removed. Either may be a member that the store did not
-- list (`Entry`).
abbrev pub Fits : Option Node → Op → Type 0
Fits (Some node) Entry = Unit {0}
Fits (Some (File bytes)) RemoveFile = Unit {0}
Fits (Some Directory) ReadDir = Unit {0}
Fits (Some Directory) RemoveDir = Unit {0}
Fits _ _ = ⊥

abbrev pub IsRemoval : Op → Type 0
IsRemoval op = (op ≡ RemoveFile) ⊎ (op ≡ RemoveDir)

-- one of the calls on a key is its removal, and it was granted
abbrev pub WasRemoved : List (Op × Outcome) → Type 0
WasRemoved calls = (op : Op) × IsRemoval op × IsIn (op, Granted) calls

-- no removal among the calls was granted
abbrev pub NothingRemoved : List KeyCall → Type 0
NothingRemoved calls = (call : KeyCall) → IsIn call calls → IsRemoval call.op → WasRefused call.outcome

-- the call is the removal of the root, and the error is `Forbidden`
pub record IsRootRemoval (call : KeyCall) (e : FsError) : Type 0 where
  pub root : call.key ≡ []
  pub removal : call.op ≡ RemoveDir
  pub forbidden : e ≡ Forbidden

-- `Entry` is the record of a member that the store did not list, and not a call
abbrev pub is_call : Op → Bool
is_call Entry = false
is_call _ = true

-- what a deletion of p may have called and changed at any point
pub record IsLawfulRemoval (p : Key) (old new : Contents) (calls : List KeyCall) : Type 0 where
  -- Each call is on a key at or below p that the deletion reaches. Each member that the store did not list is a member of such a key.
  pub within : (call : KeyCall) → IsIn call calls → (x : Key) × (call.key ≡ p ++ x)
  pub reached : (x : Key) (c : Op × Outcome) → IsIn c (calls_below calls p x) → (c.0 ≡ Entry) ⊎ IsReached (subtree old.tree p) (calls_below calls p) x
  pub entries : (x : Key) (outcome : Outcome) → IsIn (Entry, outcome) (calls_below calls p x) → IsMemberOfReached (subtree old.tree p) (calls_below calls p) x
  -- each call fits the node that was at its key
  pub fits : (call : KeyCall) → IsIn call calls → Fits (get old.tree call.key) call.op
  -- No kind of call is made twice on a key, and at most two are made on each. In all there are at most two for each key that existed at or below p.
  pub once : (x : Key) → AreDifferent (calls_below calls p x)
  pub few : (x : Key) → length (calls_below calls p x) ≤ 2
  pub bound : length (filter (λ call. is_call call.op) calls) ≤ 2 * length (keys_below old.tree p)
  -- only the removal of the root is barred, and each refusal is an error of the store's own
  pub barred : (call : KeyCall) (e : FsError) → IsIn call calls → call.outcome ≡ Barred e → IsRootRemoval call e
  pub own : (call : KeyCall) (e : FsError) → IsIn call calls → call.outcome ≡ Refused e → IsOwn e
  -- Each key at or below p is unchanged, or is removed with its properties. Elsewhere no node and no properties change. The quota keeps its limit.
  pub kept_or_gone : (x : Key) → (standing new (p ++ x) ≡ standing old (p ++ x)) ⊎ (standing new (p ++ x) ≡ (None, None))
  pub outside : (key : Key) → ((x : Key) → key ≢ p ++ x) → standing new key ≡ standing old key
  pub limit : limit_of new ≡ limit_of old
  -- A key that existed is removed exactly if its removal was granted. If no removal was granted, nothing at all changes.
  pub removed : (x : Key) → WasRemoved (calls_below calls p x) → get new.tree (p ++ x) ≡ None
  pub gone : (x : Key) → get old.tree (p ++ x) ≢ None → get new.tree (p ++ x) ≡ None → WasRemoved (calls_below calls p x)
  pub untouched : NothingRemoved calls → new ≡ old

-- the deletion of the path and everything below it, with these calls and these reported items
pub record Deletes (path : PathValue) (old new : Contents) (calls : List KeyCall) (names : List Item) : Type 0 where
  pub lawful : IsLawfulRemoval path.key old new calls
  -- the items are those of the calls that were not granted, and of the members that the store did not list, one for each, in some order
  pub named : IsPermutation (named_in path calls) names
  -- What remains has a reported path at or below it, or is hidden. Every key of which this is true is unchanged.
  pub left : (x : Key) → get new.tree (path.key ++ x) ≢ None → IsLeft names (calls_below calls path.key) path.key x
  pub same : (x : Key) → IsLeft names (calls_below calls path.key) path.key x → standing new (path.key ++ x) ≡ standing old (path.key ++ x)

-- ---- a deletion of Depth 0

-- the call that removes only the node at a key: `remove_dir` for a directory, else `remove_file`
abbrev pub removal_call : Contents → Key → Call
removal_call old key = by_node (get old.tree key)
  where
    by_node : Option Node → Call
    by_node (Some Directory) = remove_dir_call old key
    by_node (Some (File bytes)) = remove_file_call old key
    by_node None = remove_file_call old key

-- The one call is made. If it is granted, the resource is removed. If not, the path is reported and nothing changes.
pub record RemovesAlone (path : PathValue) (old new : Contents) (records : List Logged) (names : List Item) : Type 0 where
  pub outcome : Outcome
  pub called : records ≡ record_of (removal_call old path.key) outcome ∷ []
  pub lawful : IsLawful (removal_call old path.key).bar outcome
  pub granted : outcome ≡ Granted → IsRemovedAt path.key old new × (names ≡ [])
  pub refused : (e : FsError) → error_of outcome ≡ Some e → (new ≡ old) × (names ≡ (path, fs_status e) ∷ [])

-- ---- either depth

-- the deletion of this depth, with these records and these reported items
abbrev pub Removes : Depth → PathValue → Contents → Contents → List Logged → List Item → Type 0
Removes Zero path old new records names = RemovesAlone path old new records names
Removes depth path old new records names = (calls : List KeyCall) × (records ≡ map logged_call calls) × Deletes path old new calls names

-- a deletion that may be incomplete: it was not begun, it was stopped because memory ran out, or it came to its end
abbrev pub RemovesInPart : Depth → PathValue → Contents → Contents → List Logged → Type 0
RemovesInPart Zero path old new records = ((records ≡ []) × (new ≡ old)) ⊎ ((names : List Item) × RemovesAlone path old new records names)
RemovesInPart depth path old new records = (calls : List KeyCall) × (records ≡ map logged_call calls) × IsLawfulRemoval path.key old new calls

-- some of these items, each at most as often as it is in `all`
abbrev pub AreSomeOf : List Item → List Item → Type 0
AreSomeOf names all = (missing : List Item) × IsPermutation all (names ++ missing)

-- What a deletion that was stopped has reported: with Depth 0 nothing, else items as in a whole deletion, at most one for each call or member. Some
-- may be missing.
abbrev pub NamesInPart : Depth → PathValue → List Logged → List Item → Type 0
NamesInPart Zero path records names = names ≡ []
NamesInPart depth path records names = (calls : List KeyCall) × (records ≡ map logged_call calls) × AreSomeOf names (named_in path calls)

-- the result: `Ok` if nothing is reported, else an error with the status of the first item
abbrev pub first_failure : List Item → Result (Unit {0}) DavError
first_failure [] = Ok tt
first_failure (item ∷ names) = Err (Status item.1)

-- it was stopped because memory ran out: with Depth 0 nothing was removed, and some reported items may be missing
pub record StopsRemoval (depth : Depth) (path : PathValue) (old new : Contents) (records : List Logged) (had has : List Item) : Type 0 where
  pub part : RemovesInPart depth path old new records
  pub alone : depth ≡ Zero → new ≡ old
  pub names : List Item
  pub added : has ≡ had ++ names
  pub named : NamesInPart depth path records names

-- it came to its end and added these items, or it was stopped because memory ran out
abbrev pub RemovesOrStops : Depth → PathValue → Contents → Contents → List Logged → List Item → List Item → Result (Unit {0}) DavError → Type 0
RemovesOrStops depth path old new records had has answer =
    ((names : List Item) × (has ≡ had ++ names) × Removes depth path old new records names × (answer ≡ first_failure names))
    ⊎ ((answer ≡ Err Memory) × StopsRemoval depth path old new records had has)

-- the same between two stores, with the reported items before it (`had`) and after it (`has`)
pub record Removal (depth : Depth) (path : PathValue) (old new : Store) (had has : List Item) (answer : Result (Unit {0}) DavError) : Type 0 where
  pub records : List Logged
  pub recorded : new.log ≡ old.log ++ records
  pub fixed : new.facts ≡ old.facts
  pub done : RemovesOrStops depth path old.contents new.contents records had has answer
