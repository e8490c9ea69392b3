-- What a map of keys holds after one key was set or removed: at that key, and at every other key.
use Rattle.std.proofs.Common.{◌≡◌, ◌≢◌, ◌∙◌, Bool, true, false, cond, Some, None, Option, ap, refl}
use Rattle.std.specs.Ordering.{eq_by_cmp}
use Rattle.std.specs.FinMap.{FinMap, get, insert, get-insert, get-remove}
use Rattle.dav_key.specs.Key.{Key, key_cmp, key_cmp_total, tied_decides}
use Rattle.dav_key.specs.Below.{put_at}

same_key : (k : Key) → eq_by_cmp key_cmp k k ≡ true
same_key k = (tied_decides k k).1 refl

another_key : (k q : Key) → q ≢ k → eq_by_cmp key_cmp q k ≡ false
another_key k q apart = go (eq_by_cmp key_cmp q k) refl
  where
    go : (b : Bool) → eq_by_cmp key_cmp q k ≡ b → b ≡ false
    go true e = absurd (apart ((tied_decides q k).0 e))
    go false e = refl

module _ {X : Type 0} (m : FinMap key_cmp X) (k : Key) where
  pub put_here : (x : X) → get (insert m k x) k ≡ Some x
  put_here x = get-insert key_cmp_total m k x k ∙ ap (λ b. cond b (Some x) (get m k)) (same_key k)

  pub put_elsewhere : (q : Key) (x : X) → q ≢ k → get (insert m k x) q ≡ get m q
  put_elsewhere q x apart = get-insert key_cmp_total m k x q ∙ ap (λ b. cond b (Some x) (get m q)) (another_key k q apart)

  pub put_at_here : (o : Option X) → get (put_at m k o) k ≡ o
  put_at_here None = get-remove key_cmp_total m k k ∙ ap (λ b. cond b None (get m k)) (same_key k)
  put_at_here (Some x) = put_here x

  pub put_at_elsewhere : (q : Key) (o : Option X) → q ≢ k → get (put_at m k o) q ≡ get m q
  put_at_elsewhere q None apart = get-remove key_cmp_total m k q ∙ ap (λ b. cond b None (get m q)) (another_key k q apart)
  put_at_elsewhere q (Some x) apart = put_elsewhere q x apart
