-- Walks from node to node, and the numbers of keys.
use Rattle.std.proofs.Common.{◌≡◌, ℕ, List, [], ◌∷◌, ◌++◌, Option, Some, None, refl, sym, ap, ◌∙◌, append_assoc}
use Rattle.std.proofs.lemmas.List.{append-nil}
use Rattle.std.specs.Option.{option_and_then}
use Rattle.std.specs.FinMap.{FinMap, get}
use Rattle.dav_key.specs.Key.{Key, key_cmp}
use Rattle.dav_nodes.specs.Tree.{Tree}
use Rattle.dav_nodes.specs.Links.{walk, place, AreLinked}

-- from nowhere no name leads anywhere
pub walk-none : (member : List ℕ → ℕ → Option ℕ) (key : Key) → walk member None key ≡ None
walk-none member [] = refl
walk-none member (s ∷ key) = walk-none member key

-- one name more
pub walk-push : (member : List ℕ → ℕ → Option ℕ) (from : Option ℕ) (key : Key) (s : List ℕ) → walk member from (key ++ s ∷ []) ≡ option_and_then (member s) (walk member from key)
walk-push member from [] s = refl
walk-push member from (t ∷ key) s = walk-push member (option_and_then (member t) from) key s

-- the root's number is 0, and each other key's number is that of the member with its last name
pub record AreNumbered (member : List ℕ → ℕ → Option ℕ) (numbers : FinMap key_cmp ℕ) : Type 0 where
  pub root : get numbers [] ≡ Some 0
  pub step : (key : Key) (s : List ℕ) → get numbers (key ++ s ∷ []) ≡ option_and_then (member s) (get numbers key)

from_key : (member : List ℕ → ℕ → Option ℕ) (g : Key → Option ℕ) → ((key : Key) (s : List ℕ) → g (key ++ s ∷ []) ≡ option_and_then (member s) (g key)) → (a key : Key) → g (a ++ key) ≡ walk member (g a) key
from_key member g step a [] = ap g (append-nil a)
from_key member g step a (s ∷ key) =
    ap g (sym (append_assoc a (s ∷ []) key)) ∙ from_key member g step (a ++ s ∷ []) key ∙ ap (λ o. walk member o key) (step a s)

-- such numbers are those of the walks
pub numbered_by : (member : List ℕ → ℕ → Option ℕ) (numbers : FinMap key_cmp ℕ) → AreNumbered member numbers → (key : Key) → get numbers key ≡ place member key
numbered_by member numbers are key = from_key member (get numbers) are.step [] key ∙ ap (λ o. walk member o key) are.root

module _ {R : Type 0} (value : ℕ → Option R) (member : List ℕ → ℕ → Option ℕ) (tree : Tree R) (linked : AreLinked value member tree) where
  -- the numbers of linked nodes are such
  pub are_numbered : AreNumbered member tree.numbers
  are_numbered = record {
    root = linked.numbered [];
    step = λ key s.
        linked.numbered (key ++ s ∷ []) ∙ walk-push member (Some 0) key s ∙ ap (option_and_then (member s)) (sym (linked.numbered key));
  }
