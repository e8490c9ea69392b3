-- Paths made from a path, and tests of a path: this project's own choice.
use Rattle.std.specs.Prelude.{◌≡◌, ℕ, Bool, true, false, ◌-◌, ◌||◌, ◌==◌, List, [], ◌∷◌, ◌++◌, length, get_or, Ok}
use Rattle.dav_key.specs.Key.{Key, parent}
use Rattle.dav_resource.specs.PathText.{PathValue, read_path}

-- the root, below no prefix
abbrev pub root_path : PathValue
root_path = record { star = false; slash = true; prefix = []; key = [] }

-- the path names a collection: it has a trailing slash, or no segments
abbrev pub is_collection : PathValue → Bool
is_collection path = path.slash || length path.key == 0

-- the path with the same key, below no prefix
abbrev pub resource_path : Bool → PathValue → PathValue
resource_path collection path = record { star = false; slash = collection || length path.key == 0; prefix = []; key = path.key }

-- the path of the parent, with a trailing slash
abbrev pub parent_path : PathValue → PathValue
parent_path path = record path { slash = true; key = parent path.key }

-- the path of the member with this name, without a trailing slash
abbrev pub member_path : PathValue → List ℕ → PathValue
member_path path name = record path { star = false; slash = false; key = path.key ++ name ∷ [] }

-- the path whose key is the prefix followed by the key, below no prefix
abbrev pub prefixed : PathValue → PathValue
prefixed path = record path { prefix = []; key = path.prefix ++ path.key }

-- the last segment, empty for the root
abbrev pub file_name : Key → List ℕ
file_name key = get_or key (length key - 1) []

-- parsing the string below no prefix gives the path, without its prefix and with a trailing slash if it is a collection
abbrev pub ReadsBack : PathValue → List ℕ → Type 0
ReadsBack path text = read_path text [] ≡ Ok (record path { slash = is_collection path; prefix = [] })
