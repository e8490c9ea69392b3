-- The members of a key with their values: this project's own choice.
use Rattle.std.specs.Prelude.{◌≡◌, ◌≢◌, ℕ, true, List, [], ◌∷◌, ◌++◌, map, filter_map, Option, None, is_some, String, string_bytes}
use Rattle.std.specs.declared.alloc.Global.{Global}
use Rattle.std.specs.List.{AllByRecursion}
use Rattle.std.specs.Option.{option_map, option_and_then}
use Rattle.std.specs.BTreeMap.{BTreeMap}
use Rattle.std.specs.FinMap.{FinMap, get, entries}
use Rattle.dav_key.specs.Key.{Key, key_cmp}
use Rattle.dav_key.specs.Flat.{IsFlatSegment, IsFlatKey}
use Rattle.dav_key.specs.Members.{name_in}
use Rattle.dav_nodes.specs.Links.{place, member_at}
use Rattle.dav_nodes.specs.declared.node.Node.{Node}

-- the name and the value of an entry, if its key is that of a member of the directory
abbrev pub member_in : {X : Type 0} → Key → Key × X → Option (List ℕ × X)
member_in directory entry = option_map (λ name. (name, entry.1)) (name_in directory entry.0)

-- the members of a directory, each with its name and its value, in the order of the keys
abbrev pub members_of : {X : Type 0} → Key → FinMap key_cmp X → List (List ℕ × X)
members_of directory values = filter_map (member_in directory) (entries values)

-- the names and the numbers of a node's members
abbrev pub seen : List (String Global × ℕ) → List (List ℕ × ℕ)
seen members = map (λ member. (string_bytes member.0, member.1)) members

-- members with the values that their numbers have
abbrev pub with_values : {X : Type 0} → (ℕ → Option X) → List (List ℕ × ℕ) → List (List ℕ × X)
with_values value members = filter_map (λ member. option_map (λ x. (member.0, x)) (value member.1)) members

-- each of the members has a value
abbrev pub AllLive : {X : Type 0} → (ℕ → Option X) → List (List ℕ × ℕ) → Type 0
AllLive value members = AllByRecursion (λ member. is_some (value member.1) ≡ true) members

-- the keys of members, each with its number
abbrev pub children : Key → List (List ℕ × ℕ) → List (Key × ℕ)
children key members = map (λ member. (key ++ member.0 ∷ [], member.1)) members

-- the elements of each key with a value are such that a `FlatKey` can have them
abbrev pub HasFlatKeys : {X : Type 0} → FinMap key_cmp X → Type 0
HasFlatKeys values = (key : Key) → get values key ≢ None → IsFlatKey key

-- each name may be a segment
abbrev pub HasFlatNames : List (List ℕ × ℕ) → Type 0
HasFlatNames members = AllByRecursion (λ member. IsFlatSegment member.0) members

-- the members of the node at a key
abbrev pub node_members : {R : Type 0} → (ℕ → Option (Node R)) → Key → Option (BTreeMap (String Global) ℕ)
node_members nodes key = option_map (λ node. node.members) (option_and_then nodes (place (member_at nodes) key))
