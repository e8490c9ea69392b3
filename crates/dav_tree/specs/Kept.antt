-- What contracts see of the resources and bodies of a store: this project's own choice.
use Rattle.std.specs.Prelude.{◌≡◌, ◌≢◌, ℕ, ◌≤◌, Bool, true, false, List, [], map, Option, Some, None}
use Rattle.std.specs.Option.{ForSome}
use Rattle.std.specs.Ordering.{nat_cmp}
use Rattle.std.specs.FinMap.{FinMap, empty, from_entries, get, insert}
use Rattle.std.specs.BTreeMap as ordered
use Rattle.std.specs.BTreeMap.{BTreeMap}
use base.Stored.{Gv}
use Rattle.dav_key.specs.Key.{Key, key_cmp}
use Rattle.dav_key.specs.Below.{each, IsMoved}
use Rattle.dav_nodes.specs.Tree.{Tree, IsReplaced}
use Rattle.dav_store.specs.Store.{Directory}
use Rattle.dav_tree.specs.Memory.{Stored, Resources, Held, none_held, fresh, is_directory, used_by}
use Rattle.dav_tree.specs.Entry.{stored_by, is_held}
use Rattle.dav_tree.specs.declared.entry.Entry.{Entry}

-- the resources, the numbers under which they are found, the bodies held for requests to come, and the number of the next one; of the medium whether it
-- has returned what was written to it, whether it is faultless, and what a crash leaves of it, if it leaves nothing else (`settled`); the tree of entries
-- (`entries_code`), and that tree when it was last asked what has changed, with its resources (`past_code`), and when it was asked before that, unless
-- the medium was swept since
pub record Kept : Type 0 where
  pub resources : Resources
  pub numbers : FinMap key_cmp ℕ
  pub bodies : FinMap nat_cmp (List ℕ)
  pub next : ℕ
  pub honest : Bool
  pub faultless : Bool
  pub settled : Option (List ℕ)
  pub tree : Gv
  pub before : Gv
  pub older : Gv

-- what the calls on resources and bodies do not specify: what is said of the medium, the tree of entries, and an older tree that may still be saved
-- elsewhere
pub record Rest : Type 0 where
  pub honest : Bool
  pub faultless : Bool
  pub settled : Option (List ℕ)
  pub tree : Gv
  pub older : Gv

abbrev pub held_of : Kept → Held
held_of kept = record { bodies = λ number. get kept.bodies number; next = kept.next; before = kept.before }

-- ---- what is kept, from a tree of entries and a map of bodies

abbrev pub resources_by : {B : Type 0} → (B → List ℕ) → Tree (Entry B) → Resources
resources_by bytes tree = each (λ e. Some (stored_by bytes e)) tree.values

abbrev pub bodies_by : {B : Type 0} → (B → List ℕ) → BTreeMap ℕ B → FinMap nat_cmp (List ℕ)
bodies_by bytes bodies = from_entries (map (λ e. (e.0, bytes e.1)) bodies.entries)

abbrev pub kept_by : {B : Type 0} → (B → List ℕ) → Rest → Tree (Entry B) → BTreeMap ℕ B → ℕ → Gv → Kept
kept_by bytes rest tree bodies next before =
    record {
      resources = resources_by bytes tree;
      numbers = tree.numbers;
      bodies = bodies_by bytes bodies;
      next = next;
      honest = rest.honest;
      faultless = rest.faultless;
      settled = rest.settled;
      tree = rest.tree;
      before = before;
      older = rest.older;
    }

-- the medium holds each file's body
abbrev pub AreHeld : {B : Type 0} → (B → Bool) → Tree (Entry B) → Type 0
AreHeld {B} holds tree = (key : Key) (e : Entry B) → get tree.values key ≡ Some e → is_held holds e.content ≡ true

-- the body of the file with this number is marked
abbrev pub IsMarkedAt : {B : Type 0} → (B → Bool) → Tree (Entry B) → ℕ → Type 0
IsMarkedAt {B} marked tree number =
    (key : Key) (e : Entry B) → get tree.numbers key ≡ Some number → get tree.values key ≡ Some e → is_held marked e.content ≡ true

-- the medium holds each body that waits for a request
abbrev pub AreStored : {B : Type 0} → (B → Bool) → BTreeMap ℕ B → Type 0
AreStored {B} holds bodies = (number : ℕ) (body : B) → ordered.get nat_cmp bodies number ≡ Some body → holds body ≡ true

-- what is saved elsewhere, the tree when it was last asked what has changed, is safe
abbrev pub AreSaved : {B : Type 0} → (B → Bool) → Option (Tree (Entry B)) → Type 0
AreSaved safe before = ForSome before (AreHeld safe)

-- the invariant: the medium holds all bodies, their numbers are below the next one, and the count is the number of bytes in all files
pub record AreKept {B : Type 0} (bytes : B → List ℕ) (holds : B → Bool) (tree : Tree (Entry B)) (used : ℕ) (bodies : BTreeMap ℕ B) (next : ℕ) : Type 0 where
  pub held : AreHeld holds tree
  pub counted : used ≡ used_by (resources_by bytes tree)
  pub stored : AreStored holds bodies
  pub below : (number : ℕ) → next ≤ number → ordered.get nat_cmp bodies number ≡ None

-- ---- where a resource is

-- there is this resource at a key, under a number
pub record IsAt (kept : Kept) (key : Key) (number : ℕ) (s : Stored) : Type 0 where
  pub there : get kept.resources key ≡ Some s
  pub numbered : get kept.numbers key ≡ Some number

-- a resource has this number
abbrev pub IsNumber : Kept → ℕ → Type 0
IsNumber kept number = (key : Key) × (s : Stored) × IsAt kept key number s

-- a file has this number
abbrev pub IsFileNumber : Kept → ℕ → Type 0
IsFileNumber kept number = (key : Key) × (s : Stored) × (at : IsAt kept key number s) × (is_directory s.node ≡ false)

-- there is no resource at a key
pub record IsAbsent (kept : Kept) (key : Key) : Type 0 where
  pub missing : get kept.resources key ≡ None
  pub unnumbered : get kept.numbers key ≡ None

-- there is a resource at a key, under this number; it is a directory or not
pub record IsFound (kept : Kept) (key : Key) (number : ℕ) (directory : Bool) : Type 0 where
  pub stored : Stored
  pub at : IsAt kept key number stored
  pub kind : directory ≡ is_directory stored.node

-- ---- changes

-- these are the resources and the bodies now
pub record Has (resources : Resources) (held : Held) (kept : Kept) : Type 0 where
  pub resources_are : kept.resources ≡ resources
  pub held_are : held_of kept ≡ held

-- each key with a number keeps it
abbrev pub KeepsNumbers : Kept → Kept → Type 0
KeepsNumbers old new = (key : Key) (number : ℕ) → get old.numbers key ≡ Some number → get new.numbers key ≡ Some number

-- so does each key but one
abbrev pub KeepsOtherNumbers : Key → Kept → Kept → Type 0
KeepsOtherNumbers key old new = (other : Key) (number : ℕ) → other ≢ key → get old.numbers other ≡ Some number → get new.numbers other ≡ Some number

-- what was at and below the one key is now at and below the other, and the bodies are as before
pub record HasMoved (from to : Key) (old new : Kept) : Type 0 where
  pub resources_are : IsMoved from to old.resources new.resources
  pub held_are : held_of new ≡ held_of old

-- the entry at a key is out of the tree, and another one is in its place
pub record IsTaken {B : Type 0} (key : Key) (entry : Entry B) (old new : Tree (Entry B)) : Type 0 where
  pub other : Entry B
  pub taken : IsReplaced key entry other old new

-- only the root, and no bodies
pub record IsFirst (kept : Kept) : Type 0 where
  pub resources : kept.resources ≡ insert empty [] (fresh Directory 0 0)
  pub held : held_of kept ≡ none_held
