-- Values by key, and the numbers of their nodes: this project's own choice.
use Rattle.std.specs.Prelude.{◌≡◌, ◌≢◌, ℕ, List, [], ◌∷◌, ◌++◌, Some, None}
use Rattle.std.specs.FinMap.{FinMap, empty, get, insert, remove}
use Rattle.dav_key.specs.Key.{Key, key_cmp}
use Rattle.dav_key.specs.Below.{IsMoved}

-- the values of the keys, and the numbers of their nodes
pub record Tree (R : Type 0) : Type 0 where
  pub values : FinMap key_cmp R
  pub numbers : FinMap key_cmp ℕ

module _ {R : Type 0} where
  -- only the root has a value; its number is 0
  abbrev pub root_tree : R → Tree R
  root_tree value = record { values = insert empty [] value; numbers = insert empty [] 0 }

  -- a key without a value gets this one, under a number that no key has
  pub record IsAdded (key : Key) (number : ℕ) (value : R) (old new : Tree R) : Type 0 where
    pub unused : (other : Key) → get old.numbers other ≢ Some number
    pub values : new.values ≡ insert old.values key value
    pub numbers : new.numbers ≡ insert old.numbers key number

  -- the key with this number gets this value in place of the other
  pub record IsReplaced (key : Key) (before after : R) (old new : Tree R) : Type 0 where
    pub there : get old.values key ≡ Some before
    pub values : new.values ≡ insert old.values key after
    pub numbers : new.numbers ≡ old.numbers

  -- the key has neither a value nor a number any more
  pub record IsRemoved (key : Key) (old new : Tree R) : Type 0 where
    pub values : new.values ≡ remove old.values key
    pub numbers : new.numbers ≡ remove old.numbers key

  -- what is at the one key, and everything below it, is at and below the other, with its numbers
  pub record IsTreeMoved (from to : Key) (old new : Tree R) : Type 0 where
    pub values : IsMoved from to old.values new.values
    pub numbers : IsMoved from to old.numbers new.numbers

  -- no key below this one has a value
  abbrev pub HasNoMember : Key → Tree R → Type 0
  HasNoMember key tree = (name : List ℕ) → get tree.values (key ++ name ∷ []) ≡ None
