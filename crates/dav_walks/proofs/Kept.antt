-- What a deletion leaves of the contents: each key stands as it did, with its properties, or has neither.
use Rattle.std.proofs.Common.{◌≡◌, ◌≢◌, ◌⊎◌, Option, None, Some, refl, sym, ap, ◌∙◌, inl, inr}
use Rattle.std.specs.FinMap.{get}
use Rattle.dav_key.specs.Key.{Key}
use Rattle.dav_store.specs.Store.{Contents, Node, IsWellFormed}
use Rattle.dav_store.specs.Members.{IsRemovedAt}
use Rattle.dav_walks.specs.KeyCall.{standing}
use Rattle.dav_walks.specs.Trace.{IsKept}
use Rattle.dav_walks.proofs.Keys.{same_or, look_removed, look_others}

pub none_or : (node : Option Node) → (node ≡ None) ⊎ (node ≢ None)
none_or None = inl refl
none_or (Some node) = inr (λ p. cc)

-- a key at which nothing stands and that has no properties
pub standing_none : (contents : Contents) (key : Key) → get contents.tree key ≡ None → get contents.properties key ≡ None → standing contents key ≡ (None, None)
standing_none contents key bare plain = λ i. (bare i, plain i)

pub kept_itself : (contents : Contents) → IsWellFormed contents → IsKept contents contents
kept_itself contents formed = record { there = λ key there. refl; gone = formed.properties; limit = refl }

pub kept_further : (old mid new : Contents) → IsKept old mid → IsKept mid new → IsKept old new
kept_further old mid new first then = record {
  there = λ key there. then.there key there ∙ first.there key (λ none. there (ap (λ s. s.0) (then.there key there) ∙ none));
  gone = then.gone;
  limit = then.limit ∙ first.limit;
}

-- a removal leaves all other keys
pub removal_others : (key : Key) (old new : Contents) → IsRemovedAt key old new → (q : Key) → q ≢ key → standing new q ≡ standing old q
removal_others key old new removed q apart =
    let node : get new.tree q ≡ get old.tree q = ap (λ t. get t q) removed.tree ∙ look_others old.tree key q apart in
    let properties : get new.properties q ≡ get old.properties q = ap (λ t. get t q) removed.properties ∙ look_others old.properties key q apart in
    λ i. (node i, properties i)

pub removal_keeps : (key : Key) (old new : Contents) → IsWellFormed old → IsRemovedAt key old new → IsKept old new
removal_keeps key old new formed removed = record { there = there; gone = gone; limit = removed.limit }
  where
    there : (q : Key) → get new.tree q ≢ None → standing new q ≡ standing old q
    there q stands = go (same_or q key)
      where
        go : (q ≡ key) ⊎ (q ≢ key) → standing new q ≡ standing old q
        go (inl e) = absurd (stands (ap (get new.tree) e ∙ ap (λ t. get t key) removed.tree ∙ look_removed old.tree key))
        go (inr apart) = removal_others key old new removed q apart

    gone : (q : Key) → get new.tree q ≡ None → get new.properties q ≡ None
    gone q none = go (same_or q key)
      where
        go : (q ≡ key) ⊎ (q ≢ key) → get new.properties q ≡ None
        go (inl e) = ap (get new.properties) e ∙ ap (λ t. get t key) removed.properties ∙ look_removed old.properties key
        go (inr apart) =
            let same = removal_others key old new removed q apart in
            ap (λ s. s.1) same ∙ formed.properties q (sym (ap (λ s. s.0) same) ∙ none)

pub kept_or_gone : (old new : Contents) → IsKept old new → (key : Key) → (standing new key ≡ standing old key) ⊎ (standing new key ≡ (None, None))
kept_or_gone old new kept key = go (none_or (get new.tree key))
  where
    go : (get new.tree key ≡ None) ⊎ (get new.tree key ≢ None) → (standing new key ≡ standing old key) ⊎ (standing new key ≡ (None, None))
    go (inl none) = inr (standing_none new key none (kept.gone key none))
    go (inr there) = inl (kept.there key there)

-- where the node is the same the properties are
pub kept_same : (old new : Contents) → IsWellFormed old → IsKept old new → (key : Key) → get new.tree key ≡ get old.tree key → standing new key ≡ standing old key
kept_same old new formed kept key same = go (none_or (get new.tree key))
  where
    go : (get new.tree key ≡ None) ⊎ (get new.tree key ≢ None) → standing new key ≡ standing old key
    go (inl none) =
        let bare = sym same ∙ none in
        standing_none new key none (kept.gone key none) ∙ sym (standing_none old key bare (formed.properties key bare))
    go (inr there) = kept.there key there
