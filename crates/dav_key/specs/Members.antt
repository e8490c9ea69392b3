-- The members of a collection, by the keys of all resources: this project's own choice.
use Rattle.std.specs.Prelude.{ℕ, if◌then◌else◌, bytes_eq, List, [], ◌∷◌, ◌++◌, filter_map, Option, Some, None}
use Rattle.dav_key.specs.Key.{Key}

-- the last segment of a key that is directly in a directory
abbrev pub name_in : Key → Key → Option (List ℕ)
name_in [] [] = None
name_in [] (name ∷ []) = Some name
name_in [] (name ∷ next ∷ key) = None
name_in (segment ∷ directory) [] = None
name_in (segment ∷ directory) (first ∷ key) = if bytes_eq segment first then name_in directory key else None

-- the names of the directory's members among these keys, in the order of the keys
abbrev pub names_among : List Key → Key → List (List ℕ)
names_among keys directory = filter_map (name_in directory) keys

-- the key of a member
abbrev pub member : Key → List ℕ → Key
member directory name = directory ++ name ∷ []
