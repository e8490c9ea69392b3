-- What is checked of a tree of entries that is loaded: this project's own choice.
use Rattle.std.specs.Prelude.{◌≡◌, ℕ, false, List, Option, Some, None}
use Rattle.std.specs.Option.{ForSome}
use Rattle.std.specs.Coded.{Coded}
use Rattle.std.specs.FinMap.{get}
use base.Stored.{gnil}
use Rattle.dav_key.specs.Key.{Key, parent}
use Rattle.dav_resource.specs.PathText.{IsSegment}
use Rattle.dav_store.specs.Store.{AreNamed}
use Rattle.dav_nodes.specs.Tree.{Tree}
use Rattle.dav_nodes.specs.Rows.{own_name}
use Rattle.dav_tree.specs.Memory.{Held, Memory, none_held}
use Rattle.dav_tree.specs.Entry.{is_file}
use Rattle.dav_tree.specs.Kept.{Kept, held_of, resources_by}
use Rattle.dav_tree.specs.Before.{entries_code, saved_code}
use Rattle.dav_tree.specs.declared.entry.Entry.{Entry}

module _ {B : Type 0} (tree : Tree (Entry B)) where
  -- the key's last segment is valid, its parent is a directory, and the elements of its properties have the properties' names
  pub record IsSoundKey (key : Key) : Type 0 where
    pub name : ForSome (own_name key) IsSegment
    pub above : ForSome (get tree.values (parent key)) (λ e. is_file e.content ≡ false)
    pub named : ForSome (get tree.values key) (λ e. AreNamed e.properties)

  -- this is so of the key with this number
  abbrev pub IsSoundAt : ℕ → Type 0
  IsSoundAt number = (key : Key) → get tree.numbers key ≡ Some number → IsSoundKey key

  -- this is so of all keys with a number
  abbrev pub AreSoundKeys : Type 0
  AreSoundKeys = (number : ℕ) → IsSoundAt number

module _ {B : Type 0} (body : Coded B) (bytes : B → List ℕ) (tree : Tree (Entry B)) where
  -- no bodies, the first number to give is 0, and this tree is saved
  abbrev pub loaded_held : Held
  loaded_held = record none_held { before = saved_code (entries_code body tree) (resources_by bytes tree) }

  -- the resources of this tree, with this number of changes and this quota, and no part of the entity tags; no directory is marked
  abbrev pub loaded_memory : ℕ → Option (Option ℕ) → Memory
  loaded_memory version limit =
      record { resources = resources_by bytes tree; version = version; moment = 0; limit = limit; tag_part = None; marks = false; held = loaded_held }

-- the entries are those of this tree, which is saved elsewhere, and there are no bodies for requests to come
pub record IsLoaded {B : Type 0} (body : Coded B) (bytes : B → List ℕ) (tree : Tree (Entry B)) (kept : Kept) : Type 0 where
  pub resources : kept.resources ≡ resources_by bytes tree
  pub held : held_of kept ≡ loaded_held body bytes tree
  pub entries : kept.tree ≡ entries_code body tree
  pub older : kept.older ≡ gnil
