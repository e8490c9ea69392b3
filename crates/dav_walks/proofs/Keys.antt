-- Keys, the calls at one key, and what a removal leaves of a tree.
use Rattle.std.proofs.Common.{◌≡◌, ◌≢◌, ◌⊎◌, ℕ, ◌+◌, ◌-◌, Bool, true, false, cond, List, [], ◌∷◌, ◌++◌, length, take, drop, None, refl, sym, ap, ◌∙◌, subst, inl, inr, append_assoc, arith, length-append}
use Rattle.std.specs.FinMap.{FinMap, get, remove, get-remove}
use Rattle.std.proofs.lemmas.List.{append_cancel_left, append-nil, take-append-drop}
use Rattle.std.proofs.Math.Seq.{take-append-add}
use Rattle.dav_key.specs.Key.{Key, key_cmp, parent, key_cmp_total, tied_decides}
use Rattle.dav_store.specs.Members.{IsIn, member}
use Rattle.dav_walks.specs.KeyCall.{KeyCall, same_key, calls_at}

pub same_key_is : (j k : Key) → same_key j k ≡ true → j ≡ k
same_key_is j k = (tied_decides j k).0

pub same_key_itself : (k : Key) → same_key k k ≡ true
same_key_itself k = (tied_decides k k).1 refl

pub other_key : (j k : Key) → j ≢ k → same_key j k ≡ false
other_key j k apart = go (same_key j k) refl
  where
    go : (b : Bool) → same_key j k ≡ b → b ≡ false
    go true e = absurd (apart (same_key_is j k e))
    go false e = refl

pub same_or : (j k : Key) → (j ≡ k) ⊎ (j ≢ k)
same_or j k = go (same_key j k) refl
  where
    go : (b : Bool) → same_key j k ≡ b → (j ≡ k) ⊎ (j ≢ k)
    go true e = inl (same_key_is j k e)
    go false e = inr (λ p. let q : true ≡ false = sym (same_key_itself k) ∙ ap (λ i. same_key i k) (sym p) ∙ e in cc)

-- what stands where a key was removed, and elsewhere
module _ {X : Type 0} where
  pub look_removed : (tree : FinMap key_cmp X) (k : Key) → get (remove tree k) k ≡ None
  look_removed tree k = get-remove key_cmp_total tree k k ∙ ap (λ b. cond b None (get tree k)) (same_key_itself k)

  pub look_others : (tree : FinMap key_cmp X) (k q : Key) → q ≢ k → get (remove tree k) q ≡ get tree q
  look_others tree k q apart = get-remove key_cmp_total tree k q ∙ ap (λ b. cond b None (get tree q)) (other_key q k apart)

pub child_below : (k : Key) (n : List ℕ) (x : Key) → member k n ++ x ≡ k ++ n ∷ x
child_below k n x = append_assoc k (n ∷ []) x

pub below_cancel : (k x y : Key) → k ++ x ≡ k ++ y → x ≡ y
below_cancel = append_cancel_left

pub append-nothing : (k : Key) → k ++ [] ≡ k
append-nothing = append-nil

-- a key stands at or below its parent
pub parent_above : (k : Key) → (x : Key) × (k ≡ parent k ++ x)
parent_above k = (drop (length k - 1) k, sym (take-append-drop (length k - 1) k))

pub parent-append : (k : Key) (n : List ℕ) (x : Key) → parent (k ++ n ∷ x) ≡ k ++ parent (n ∷ x)
parent-append k n x =
    let long : length (k ++ n ∷ x) - 1 ≡ length k + (length (n ∷ x) - 1) = omega (arith, length-append k (n ∷ x)) in
    ap (λ i. take i (k ++ n ∷ x)) long ∙ take-append-add k (n ∷ x) (length (n ∷ x) - 1)

pub parent-child : (k : Key) (n : List ℕ) → parent (member k n) ≡ k
parent-child k n = parent-append k n [] ∙ append-nothing k

module _ {X : Type 0} where
  pub IsIn-left : (x : X) (xs ys : List X) → IsIn x xs → IsIn x (xs ++ ys)
  IsIn-left x [] ys i = absurd i
  IsIn-left x (y ∷ xs) ys (inl e) = inl e
  IsIn-left x (y ∷ xs) ys (inr i) = inr (IsIn-left x xs ys i)

  pub IsIn-right : (x : X) (xs ys : List X) → IsIn x ys → IsIn x (xs ++ ys)
  IsIn-right x [] ys i = i
  IsIn-right x (y ∷ xs) ys i = inr (IsIn-right x xs ys i)

  pub IsIn-append : (x : X) (xs ys : List X) → IsIn x (xs ++ ys) → IsIn x xs ⊎ IsIn x ys
  IsIn-append x [] ys i = inr i
  IsIn-append x (y ∷ xs) ys (inl e) = inl (inl e)
  IsIn-append x (y ∷ xs) ys (inr i) = further (IsIn-append x xs ys i)
    where
      further : IsIn x xs ⊎ IsIn x ys → IsIn x (y ∷ xs) ⊎ IsIn x ys
      further (inl j) = inl (inr j)
      further (inr j) = inr j

pub calls_at-append : (rs ss : List KeyCall) (k : Key) → calls_at (rs ++ ss) k ≡ calls_at rs k ++ calls_at ss k
calls_at-append [] ss k = refl
calls_at-append (r ∷ rs) ss k = go (calls_at-append rs ss k) (same_key r.key k)
  where
    go : calls_at (rs ++ ss) k ≡ calls_at rs k ++ calls_at ss k → (b : Bool) → cond b ((r.op, r.outcome) ∷ calls_at (rs ++ ss) k) (calls_at (rs ++ ss) k) ≡ cond b ((r.op, r.outcome) ∷ calls_at rs k) (calls_at rs k) ++ calls_at ss k
    go further true = ap (λ cs. (r.op, r.outcome) ∷ cs) further
    go further false = further

-- where none of the calls is on the key
pub calls_at-none : (rs : List KeyCall) (k : Key) → ((r : KeyCall) → IsIn r rs → r.key ≢ k) → calls_at rs k ≡ []
calls_at-none [] k none = refl
calls_at-none (r ∷ rs) k none = ap (λ b. cond b ((r.op, r.outcome) ∷ calls_at rs k) (calls_at rs k)) (other_key r.key k (none r (inl refl))) ∙ calls_at-none rs k (λ s i. none s (inr i))

-- a call stands among its key's
pub calls_at-IsIn : (rs : List KeyCall) (r : KeyCall) → IsIn r rs → IsIn (r.op, r.outcome) (calls_at rs r.key)
calls_at-IsIn [] r i = absurd i
calls_at-IsIn (s ∷ rs) r (inl e) = subst (λ (t : KeyCall). IsIn (r.op, r.outcome) (cond (same_key t.key r.key) ((t.op, t.outcome) ∷ calls_at rs r.key) (calls_at rs r.key))) (sym e)
    (subst (λ b. IsIn (r.op, r.outcome) (cond b ((r.op, r.outcome) ∷ calls_at rs r.key) (calls_at rs r.key))) (sym (same_key_itself r.key)) (inl refl))
calls_at-IsIn (s ∷ rs) r (inr i) = go (same_key s.key r.key) (calls_at-IsIn rs r i)
  where
    go : (b : Bool) → IsIn (r.op, r.outcome) (calls_at rs r.key) → IsIn (r.op, r.outcome) (cond b ((s.op, s.outcome) ∷ calls_at rs r.key) (calls_at rs r.key))
    go true j = inr j
    go false j = j
