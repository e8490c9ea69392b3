-- Trees keep keys whose elements a `FlatKey` can have.
use Rattle.std.proofs.Common.{ℕ, ◌≡◌, ◌∙◌, ◌⊎◌, inl, inr, false, [], ◌∷◌, ◌++◌, Some, None, sym, ap, subst}
use Rattle.std.specs.FinMap.{FinMap, empty, get, insert, remove, get-empty}
use Rattle.dav_key.specs.Key.{Key, key_cmp}
use Rattle.dav_key.specs.Below.{is_at_or_below, IsMoved}
use Rattle.dav_key.specs.Flat.{IsFlatKey}
use Rattle.dav_key.proofs.FlatLemmas.{IsFlatKey-append}
use Rattle.dav_nodes.specs.Tree.{Tree, root_tree, IsAdded, IsReplaced, IsRemoved, IsTreeMoved}
use Rattle.dav_nodes.specs.Listing.{HasFlatKeys}
use Rattle.dav_nodes.proofs.KeyMaps.{key_same_or_not, insert-elsewhere, remove-here, remove-elsewhere}
use Rattle.dav_nodes.proofs.BelowKeys.{below_or_not}

-- what follows a key's front
flat_tail : (a b : Key) → IsFlatKey (a ++ b) → IsFlatKey b
flat_tail [] b is = is
flat_tail (s ∷ a) b is = flat_tail a b is.1

module _ {X : Type 0} where
  -- a value is put at such a key
  flat_insert : (m : FinMap key_cmp X) (key : Key) (x : X) → IsFlatKey key → HasFlatKeys m → HasFlatKeys (insert m key x)
  flat_insert m key x is flat q there = elim (key_same_or_not q key) [
    | inl same ↦ subst IsFlatKey (sym same) is
    | inr apart ↦ flat q (λ none. there (insert-elsewhere m key x q apart ∙ none))
  ]

  -- a key is taken out
  flat_remove : (m : FinMap key_cmp X) (key : Key) → HasFlatKeys m → HasFlatKeys (remove m key)
  flat_remove m key flat q there = elim (key_same_or_not q key) [
    | inl same ↦ absurd (there (ap (get (remove m key)) same ∙ remove-here m key))
    | inr apart ↦ flat q (λ none. there (remove-elsewhere m key q apart ∙ none))
  ]

  -- keys are moved
  flat_move : (from to : Key) (old new : FinMap key_cmp X) → IsFlatKey to → IsMoved from to old new → HasFlatKeys old → HasFlatKeys new
  flat_move from to old new is moved flat q there = by (below_or_not to q) (below_or_not from q)
    where
      by : ((w : Key) × (q ≡ to ++ w)) ⊎ (is_at_or_below q to ≡ false) → ((w : Key) × (q ≡ from ++ w)) ⊎ (is_at_or_below q from ≡ false) → IsFlatKey q
      by (inl (w, at)) other =
          let was = flat (from ++ w) (λ none. there (ap (get new) at ∙ moved.moved w ∙ none)) in
          subst IsFlatKey (sym at) (IsFlatKey-append to w is (flat_tail from w was))
      by (inr out) (inl (w, at)) = absurd (there (ap (get new) at ∙ moved.gone w))
      by (inr out) (inr away) = flat q (λ none. there (moved.rest q away out ∙ none))

module _ {R : Type 0} where
  -- the root has no elements
  pub flat_root : (x : R) → HasFlatKeys (root_tree x).values
  flat_root x = flat_insert empty [] x tt (λ q there. absurd (there (get-empty key_cmp q)))

  -- the key that is added may be one
  pub flat_added : (key : Key) (number : ℕ) (x : R) (old new : Tree R) → IsFlatKey key → IsAdded key number x old new → HasFlatKeys old.values → HasFlatKeys new.values
  flat_added key number x old new is added flat = subst HasFlatKeys (sym added.values) (flat_insert old.values key x is flat)

  -- a value is replaced
  pub flat_replaced : (key : Key) (before after : R) (old new : Tree R) → IsReplaced key before after old new → HasFlatKeys old.values → HasFlatKeys new.values
  flat_replaced key before after old new replaced flat =
      let is = flat key (λ none. absurd (let both : None ≡ Some before = sym none ∙ replaced.there in cc)) in
      subst HasFlatKeys (sym replaced.values) (flat_insert old.values key after is flat)

  -- a key is removed
  pub flat_removed : (key : Key) (old new : Tree R) → IsRemoved key old new → HasFlatKeys old.values → HasFlatKeys new.values
  flat_removed key old new removed flat = subst HasFlatKeys (sym removed.values) (flat_remove old.values key flat)

  -- keys are moved to and below a key that may be one
  pub flat_moved : (from to : Key) (old new : Tree R) → IsFlatKey to → IsTreeMoved from to old new → HasFlatKeys old.values → HasFlatKeys new.values
  flat_moved from to old new is moved flat = flat_move from to old.values new.values is moved.values flat
