-- A key at which something stands is among the tree's keys.
use Rattle.std.proofs.Common.{◌≡◌, ◌≢◌, Bool, true, false, List, [], ◌∷◌, Option, None, Some, refl, sym, ◌∙◌, inl, inr}
use Rattle.std.specs.Prelude.{is_some, ◌||◌}
use Rattle.std.specs.List.{list_any}
use Rattle.std.specs.FinMap.{get, keys, contains_key-keys}
use Rattle.dav_key.specs.Key.{Key}
use Rattle.dav_store.specs.Store.{Node, Tree}
use Rattle.dav_store.specs.Members.{IsIn}
use Rattle.dav_walks.specs.KeyCall.{same_key}
use Rattle.dav_walks.proofs.Keys.{same_key_is}

found : (ks : List Key) (q : Key) → list_any (same_key q) ks ≡ true → IsIn q ks
found [] q e = absurd (let p : false ≡ true = e in cc)
found (k ∷ ks) q e = go (same_key q k) refl e (found ks q)
  where
    go : (b : Bool) → same_key q k ≡ b → (b || list_any (same_key q) ks) ≡ true → (list_any (same_key q) ks ≡ true → IsIn q ks) → IsIn q (k ∷ ks)
    go true s e further = inl (sym (same_key_is q k s))
    go false s e further = inr (further e)

is_there : (o : Option Node) → o ≢ None → is_some o ≡ true
is_there None there = absurd (there refl)
is_there (Some n) there = refl

pub stands_among : (tree : Tree) (k : Key) → get tree k ≢ None → IsIn k (keys tree)
stands_among tree k there = found (keys tree) k (sym (contains_key-keys tree k) ∙ is_there _ there)
