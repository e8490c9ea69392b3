-- The dump of all resources of the in-memory store: this project's own choice.
use Rattle.std.specs.Prelude.{◌≡◌, ℕ, Bool, true, false, List, Option, Some, None, Vec}
use Rattle.std.specs.List.{AllZip}
use Rattle.std.specs.FinMap.{entries}
use Rattle.std.specs.declared.alloc.Global.{Global}
use Rattle.dav_key.specs.Key.{Key}
use Rattle.dav_resource.specs.PathText.{PathValue}
use Rattle.dav_resource.specs.PathForms.{resource_path}
use Rattle.dav_resource.specs.declared.property.DavProp.{DavProp}
use Rattle.dav_store.specs.Store.{Node, File, Directory}
use Rattle.dav_tree.specs.Memory.{Stored, Resources}
use Rattle.dav_tree.specs.MemoryCalls.{IsPropertyList}

-- a path, a file's bytes, and the properties
abbrev pub Dumped : Type 0
Dumped = PathValue × Option (Vec ℕ Global) × Vec DavProp Global

abbrev pub node_of : Option (Vec ℕ Global) → Node
node_of (Some bytes) = File bytes.items
node_of None = Directory

abbrev pub is_directory : Option (Vec ℕ Global) → Bool
is_directory (Some bytes) = false
is_directory None = true

-- the dump of one resource: its path has no prefix, and a trailing slash exactly if it is a directory
pub record IsDumpOf (e : Key × Stored) (dumped : Dumped) : Type 0 where
  pub key : dumped.0.key ≡ e.0
  pub path : dumped.0 ≡ resource_path (is_directory dumped.1) dumped.0
  pub node : node_of dumped.1 ≡ e.1.node
  pub properties : IsPropertyList e.1.properties dumped.2.items

-- each resource once, in the order of the keys
abbrev pub IsDump : Resources → List Dumped → Type 0
IsDump resources dumped = AllZip IsDumpOf (entries resources) dumped
