-- What changes of single nodes do to values, members and spots: this project's own choice.
use Rattle.std.specs.Prelude.{◌≡◌, ◌≢◌, ℕ, List, Option, Some, None}
use Rattle.std.specs.Option.{option_map}
use Rattle.dav_nodes.specs.Links.{value_at, member_at, spot_at}
use Rattle.dav_nodes.specs.declared.node.Node.{Node}

module _ {R : Type 0} (old new : ℕ → Option (Node R)) where
  -- a new node with this number and value, and without members, is the member with this name of the node `above`
  pub record AddsNode (above : ℕ) (name : List ℕ) (number : ℕ) (value : R) : Type 0 where
    pub unused : value_at old number ≡ None
    pub added : value_at new number ≡ Some value
    pub values : (other : ℕ) → other ≢ number → value_at new other ≡ value_at old other
    pub childless : (s : List ℕ) → member_at new s number ≡ None
    pub entered : member_at new name above ≡ Some number
    pub names : (s : List ℕ) → s ≢ name → member_at new s above ≡ member_at old s above
    pub others : (s : List ℕ) (n : ℕ) → n ≢ above → n ≢ number → member_at new s n ≡ member_at old s n
    pub spot : spot_at new number ≡ Some (above, name)
    pub spots : (n : ℕ) → n ≢ number → spot_at new n ≡ spot_at old n

  -- a node has this value
  pub record SetsValue (number : ℕ) (value : R) : Type 0 where
    pub set : value_at new number ≡ Some value
    pub values : (other : ℕ) → other ≢ number → value_at new other ≡ value_at old other
    pub members : (s : List ℕ) (n : ℕ) → member_at new s n ≡ member_at old s n
    pub spots : (n : ℕ) → spot_at new n ≡ spot_at old n

  -- the node `above` has no member with this name, and the node of that member is gone
  pub record RemovesNode (above : ℕ) (name : List ℕ) (number : ℕ) : Type 0 where
    pub gone : value_at new number ≡ None
    pub values : (other : ℕ) → other ≢ number → value_at new other ≡ value_at old other
    pub left : member_at new name above ≡ None
    pub names : (s : List ℕ) → s ≢ name → member_at new s above ≡ member_at old s above
    pub others : (s : List ℕ) (n : ℕ) → n ≢ above → n ≢ number → member_at new s n ≡ member_at old s n
    pub spots : (n : ℕ) → n ≢ number → spot_at new n ≡ spot_at old n

  -- the node of a member becomes a member of another node, under another name
  pub record MovesNode (from : ℕ) (name : List ℕ) (to : ℕ) (new_name : List ℕ) : Type 0 where
    pub values : (n : ℕ) → value_at new n ≡ value_at old n
    pub entered : member_at new new_name to ≡ member_at old name from
    pub left : member_at new name from ≡ None
    pub others : (s : List ℕ) (n : ℕ) → (n ≡ to → s ≢ new_name) → (n ≡ from → s ≢ name) → member_at new s n ≡ member_at old s n
    pub spot : (n : ℕ) → member_at old name from ≡ Some n → spot_at new n ≡ option_map (λ _. (to, new_name)) (spot_at old n)
    pub spots : (n : ℕ) → member_at old name from ≢ Some n → spot_at new n ≡ spot_at old n

  -- the node `above` has this member with this name, or none
  pub record SetsMember (above : ℕ) (name : List ℕ) (number : Option ℕ) : Type 0 where
    pub values : (n : ℕ) → value_at new n ≡ value_at old n
    pub set : member_at new name above ≡ number
    pub names : (s : List ℕ) → s ≢ name → member_at new s above ≡ member_at old s above
    pub others : (s : List ℕ) (n : ℕ) → n ≢ above → member_at new s n ≡ member_at old s n
    pub spots : (n : ℕ) → spot_at new n ≡ spot_at old n

  -- the node with this number, if there is one, has this spot
  pub record SetsSpot (number above : ℕ) (name : List ℕ) : Type 0 where
    pub values : (n : ℕ) → value_at new n ≡ value_at old n
    pub members : (s : List ℕ) (n : ℕ) → member_at new s n ≡ member_at old s n
    pub spot : spot_at new number ≡ option_map (λ _. (above, name)) (spot_at old number)
    pub spots : (n : ℕ) → n ≢ number → spot_at new n ≡ spot_at old n

  -- all values, members and spots are as before
  pub record SameNodes : Type 0 where
    pub values : (n : ℕ) → value_at new n ≡ value_at old n
    pub members : (s : List ℕ) (n : ℕ) → member_at new s n ≡ member_at old s n
    pub spots : (n : ℕ) → spot_at new n ≡ spot_at old n
