-- The calls of a walk, each on one key of a store, and the state of a key: this project's own choice.
use Rattle.std.specs.Prelude.{Bool, List, [], ◌∷◌, cond, Option, Some, None, bytes_eq, if◌then◌else◌, filter, is_some}
use Rattle.std.specs.Ordering.{eq_by_cmp}
use Rattle.std.specs.FinMap.{FinMap, get, keys}
use Rattle.dav_key.specs.Key.{Key, key_cmp}
use Rattle.dav_resource.specs.Tree as elements
use Rattle.dav_resource.specs.declared.record.Op.{Op}
use Rattle.dav_resource.specs.declared.record.Outcome.{Outcome}
use Rattle.dav_store.specs.Logged.{Logged, logged}
use Rattle.dav_store.specs.Store.{Node, Tree, Contents}

-- a call on a key, and its outcome
pub record KeyCall : Type 0 where
  pub key : Key
  pub op : Op
  pub outcome : Outcome

-- its record in the store's log
abbrev pub logged_call : KeyCall → Logged
logged_call call = logged call.op (call.key ∷ []) call.outcome

abbrev pub same_key : Key → Key → Bool
same_key j k = eq_by_cmp key_cmp j k

-- the calls on one key, in order
abbrev pub calls_at : List KeyCall → Key → List (Op × Outcome)
calls_at [] key = []
calls_at (call ∷ calls) key = cond (same_key call.key key) ((call.op, call.outcome) ∷ calls_at calls key) (calls_at calls key)

-- the node at a key and its properties, where it has them
abbrev pub standing : Contents → Key → Option Node × Option (FinMap key_cmp elements.Tree)
standing contents key = (get contents.tree key, get contents.properties key)

-- the path from a key down to another, `None` unless the other is that key or below it
abbrev pub path_to : Key → Key → Option Key
path_to [] key = Some key
path_to (segment ∷ above) [] = None
path_to (segment ∷ above) (first ∷ key) = if bytes_eq segment first then path_to above key else None

-- the tree's keys at or below a key
abbrev pub keys_below : Tree → Key → List Key
keys_below tree top = filter (λ key. is_some (path_to top key)) (keys tree)
