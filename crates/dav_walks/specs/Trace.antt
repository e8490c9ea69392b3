-- A deletion, key by key: which calls were made on each key, and what became of it. The order of calls on different keys is left open.
use Rattle.std.specs.Prelude.{◌≡◌, ◌≢◌, ℕ, Bool, true, false, List, [], ◌∷◌, ◌++◌, Option, Some, None, map, IsPermutation}
use Rattle.std.specs.FinMap.{get}
use Rattle.dav_key.specs.Key.{Key}
use Rattle.dav_resource.specs.PathText.{PathValue}
use Rattle.dav_resource.specs.declared.record.Op.{Op}
use Rattle.dav_resource.specs.declared.record.Op.TheVariants.{ReadDir, RemoveFile, RemoveDir, Entry}
use Rattle.dav_resource.specs.declared.record.Outcome.{Outcome}
use Rattle.dav_resource.specs.declared.record.Outcome.TheVariants.{Granted, Barred, Refused}
use Rattle.dav_resource.specs.declared.error.FsError.{FsError}
use Rattle.dav_store.specs.Logged.{Logged}
use Rattle.dav_store.specs.Store.{Contents, Node, File, Directory, IsWellFormed}
use Rattle.dav_store.specs.Calls.{IsOwn, limit_of}
use Rattle.dav_store.specs.Members.{IsIn}
use Rattle.dav_messages.specs.Multistatus.{Item}
use Rattle.dav_walks.specs.KeyCall.{KeyCall, logged_call, standing}
use Rattle.dav_walks.specs.Deletion.{Calls, Subtree, subtree, calls_below, under, WasRefused, named_in, IsRootRemoval, NothingRemoved, AreSomeOf, Deletes}

-- the node is a file, or a directory
abbrev pub HasKind : Bool → Option Node → Type 0
HasKind false node = (bytes : List ℕ) × (node ≡ Some (File bytes))
HasKind true node = node ≡ Some Directory

-- no call was made on the key, and its node is unchanged
pub record IsUntouched (old new : Subtree) (calls : Calls) (x : Key) : Type 0 where
  pub uncalled : calls x ≡ []
  pub same : new x ≡ old x

-- the same for every key strictly below
abbrev pub IsUntouchedBelow : Subtree → Subtree → Calls → Type 0
IsUntouchedBelow old new calls = (name : List ℕ) (x : Key) → IsUntouched old new calls (name ∷ x)

-- the node after a removal with this outcome
abbrev pub Leaves : Outcome → Option Node → Option Node → Type 0
Leaves Granted old new = new ≡ None
Leaves (Barred e) old new = new ≡ old
Leaves (Refused e) old new = new ≡ old

-- something on the key or below it was not granted (a call, or a member that the store did not list)
abbrev pub IsRefusedWithin : Calls → Type 0
IsRefusedWithin calls = (x : Key) × (c : Op × Outcome) × IsIn c (calls x) × WasRefused c.1

-- everything strictly below was granted
abbrev pub IsGrantedBelow : Calls → Type 0
IsGrantedBelow calls = (name : List ℕ) (x : Key) (c : Op × Outcome) → IsIn c (calls (name ∷ x)) → c.1 ≡ Granted

pub data Walked : Subtree → Subtree → Calls → Type 0 where
  -- no node was at the key or below it
  absent : {old new : Subtree} {calls : Calls} → ((x : Key) → old x ≡ None) → ((x : Key) → IsUntouched old new calls x) → Walked old new calls
  -- the store did not list it in its directory
  unseen : {old new : Subtree} {calls : Calls} (e : FsError) → old [] ≢ None → calls [] ≡ (Entry, Refused e) ∷ [] → new [] ≡ old [] → IsUntouchedBelow old new calls → Walked old new calls
  file : {old new : Subtree} {calls : Calls} (outcome : Outcome) → HasKind false (old []) → calls [] ≡ (RemoveFile, outcome) ∷ [] → Leaves outcome (old []) (new []) → ((name : List ℕ) (x : Key) → old (name ∷ x) ≡ None) → IsUntouchedBelow old new calls → Walked old new calls
  -- a directory whose listing was not granted
  unlisted : {old new : Subtree} {calls : Calls} (outcome : Outcome) → WasRefused outcome → old [] ≡ Some Directory → calls [] ≡ (ReadDir, outcome) ∷ [] → new [] ≡ old [] → IsUntouchedBelow old new calls → Walked old new calls
  -- a listed directory below which something was not granted: its removal is not called
  kept : {old new : Subtree} {calls : Calls} → old [] ≡ Some Directory → calls [] ≡ (ReadDir, Granted) ∷ [] → new [] ≡ old [] → IsRefusedWithin calls → ((name : List ℕ) → Walked (under old name) (under new name) (under calls name)) → Walked old new calls
  -- a listed directory below which everything was granted: its removal is called
  emptied : {old new : Subtree} {calls : Calls} (outcome : Outcome) → old [] ≡ Some Directory → calls [] ≡ (ReadDir, Granted) ∷ (RemoveDir, outcome) ∷ [] → Leaves outcome (old []) (new []) → IsGrantedBelow calls → ((name : List ℕ) → Walked (under old name) (under new name) (under calls name)) → Walked old new calls

abbrev pub AllGranted : List KeyCall → Type 0
AllGranted calls = (call : KeyCall) → IsIn call calls → call.outcome ≡ Granted

abbrev pub SomeRefused : List KeyCall → Type 0
SomeRefused calls = (call : KeyCall) × IsIn call calls × WasRefused call.outcome

-- A node that is there afterwards was there before, with the same properties. Where there is no node there are no properties. The quota keeps its
-- limit.
pub record IsKept (old new : Contents) : Type 0 where
  pub there : (key : Key) → get new.tree key ≢ None → standing new key ≡ standing old key
  pub gone : (key : Key) → get new.tree key ≡ None → get new.properties key ≡ None
  pub limit : limit_of new ≡ limit_of old

-- The walk of the key k and everything below it, in the deletion of the path, from the old contents, log and reported items to the new ones. It is
-- clean if everything in it was granted.
pub record Walks (path : PathValue) (old new : Contents) (before after : List Logged) (had has : List Item) (k : Key) (clean : Bool) : Type 0 where
  pub calls : List KeyCall
  pub log : after ≡ before ++ map logged_call calls
  pub within : (call : KeyCall) → IsIn call calls → (x : Key) × (call.key ≡ k ++ x)
  pub barred : (call : KeyCall) (e : FsError) → IsIn call calls → call.outcome ≡ Barred e → IsRootRemoval call e
  pub own : (call : KeyCall) (e : FsError) → IsIn call calls → call.outcome ≡ Refused e → IsOwn e
  pub no_entry : (outcome : Outcome) → IsIn (Entry, outcome) (calls_below calls k []) → ⊥
  pub names : List Item
  pub named : has ≡ had ++ names
  pub bag : IsPermutation (named_in path calls) names
  pub outside : (key : Key) → ((x : Key) → key ≢ k ++ x) → standing new key ≡ standing old key
  pub walked : Walked (subtree old.tree k) (subtree new.tree k) (calls_below calls k)
  pub is_kept : IsKept old new
  pub well_formed : IsWellFormed new
  pub granted : clean ≡ true → AllGranted calls
  pub refused : clean ≡ false → SomeRefused calls
  pub untouched : NothingRemoved calls → new ≡ old

-- a walk that may have been stopped: it is over, or not begun, or a directory is listed and for each member one of these is true
pub data Partly : Subtree → Subtree → Calls → Type 0 where
  over : {old new : Subtree} {calls : Calls} → Walked old new calls → Partly old new calls
  waiting : {old new : Subtree} {calls : Calls} → ((x : Key) → IsUntouched old new calls x) → Partly old new calls
  halted : {old new : Subtree} {calls : Calls} → old [] ≡ Some Directory → calls [] ≡ (ReadDir, Granted) ∷ [] → new [] ≡ old [] → ((name : List ℕ) → Partly (under old name) (under new name) (under calls name)) → Partly old new calls

-- The same, from the old contents, log and reported items to the new ones. Some reported items may be missing.
pub record Halts (path : PathValue) (old new : Contents) (before after : List Logged) (had has : List Item) (k : Key) : Type 0 where
  pub calls : List KeyCall
  pub log : after ≡ before ++ map logged_call calls
  pub within : (call : KeyCall) → IsIn call calls → (x : Key) × (call.key ≡ k ++ x)
  pub barred : (call : KeyCall) (e : FsError) → IsIn call calls → call.outcome ≡ Barred e → IsRootRemoval call e
  pub own : (call : KeyCall) (e : FsError) → IsIn call calls → call.outcome ≡ Refused e → IsOwn e
  pub no_entry : (outcome : Outcome) → IsIn (Entry, outcome) (calls_below calls k []) → ⊥
  pub outside : (key : Key) → ((x : Key) → key ≢ k ++ x) → standing new key ≡ standing old key
  pub is_kept : IsKept old new
  pub partly : Partly (subtree old.tree k) (subtree new.tree k) (calls_below calls k)
  pub names : List Item
  pub named : has ≡ had ++ names
  pub some : AreSomeOf names (named_in path calls)
  pub untouched : NothingRemoved calls → new ≡ old

-- the walk of the path's key and everything below it, stated by sets: what it calls, leaves and reports
pub record WalksWhole (path : PathValue) (old new : Contents) (before after : List Logged) (had has : List Item) (clean : Bool) : Type 0 where
  pub calls : List KeyCall
  pub log : after ≡ before ++ map logged_call calls
  pub names : List Item
  pub added : has ≡ had ++ names
  pub deletes : Deletes path old new calls names
  pub clean_is : (clean ≡ true → names ≡ []) × (names ≡ [] → clean ≡ true)
