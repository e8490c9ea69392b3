-- What contracts see of values by key whose changes are noted: this project's own choice.
use Rattle.std.specs.Prelude.{◌≡◌, ℕ, Option, Some}
use Rattle.std.specs.Option.{option_map}
use Rattle.std.specs.FinMap.{get}
use Rattle.dav_key.specs.Key.{Key}
use Rattle.dav_nodes.specs.Tree.{Tree, IsReplaced}
use Rattle.dav_nodes.specs.declared.noted.NotedNodes.{NotedNodes}

module _ {R : Type 0} where
  -- the values and the numbers
  abbrev pub tree_of : NotedNodes R → Tree R
  tree_of noted = noted.nodes

  -- the tree when it was last asked what has changed, if it ever was
  abbrev pub before_of : NotedNodes R → Option (Tree R)
  before_of noted = option_map (λ s. s.value) noted.before

  -- the value with a number is replaced
  abbrev pub IsReplacedAt : ℕ → R → R → NotedNodes R → NotedNodes R → Type 0
  IsReplacedAt number before after old new =
      (key : Key) → get (tree_of old).numbers key ≡ Some number → IsReplaced key before after (tree_of old) (tree_of new)

  -- the tree is the same, and so is what is noted of it
  pub record IsSame (old new : NotedNodes R) : Type 0 where
    pub tree : tree_of new ≡ tree_of old
    pub before : before_of new ≡ before_of old
    pub changes : new.changes ≡ old.changes
