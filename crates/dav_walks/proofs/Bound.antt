-- How many calls a deletion makes: two at most for each key at or below the one that is deleted.
use Rattle.std.proofs.Common.{◌≡◌, ◌⊎◌, ◌≤◌, ◌+◌, ◌*◌, ℕ, Bool, true, false, cond, List, [], ◌∷◌, ◌++◌, length, refl, sym, ap, ◌∙◌, subst, inl, inr, arith}
use Rattle.std.specs.Prelude.{filter, is_some}
use Rattle.std.specs.FinMap as trees
use Rattle.dav_key.specs.Key.{Key}
use Rattle.dav_resource.specs.declared.record.Op.{Op}
use Rattle.dav_resource.specs.declared.record.Op.TheVariants.{Entry}
use Rattle.dav_resource.specs.declared.record.Outcome.{Outcome}
use Rattle.dav_store.specs.Store.{Tree}
use Rattle.dav_store.specs.Members.{IsIn}
use Rattle.dav_walks.specs.KeyCall.{KeyCall, same_key, calls_at, path_to, keys_below}
use Rattle.dav_walks.specs.Deletion.{subtree, calls_below, IsReached, is_call}
use Rattle.dav_walks.proofs.Keys.{same_key_itself, calls_at-IsIn}
use Rattle.dav_walks.specs.Counting.{total, one}
use Rattle.dav_walks.proofs.Counting.{total-plus, total-same, total-most, total-at_least, path_below, path_is}
use Rattle.dav_walks.proofs.Among.{stands_among}

pub IsIn-filter : {X : Type 0} (p : X → Bool) (x : X) (xs : List X) → IsIn x xs → p x ≡ true → IsIn x (filter p xs)
IsIn-filter p x [] i e = absurd i
IsIn-filter {X} p x (y ∷ xs) (inl q) e = subst (λ b. IsIn x (cond b (y ∷ filter p xs) (filter p xs))) (sym (ap p q ∙ e)) (inl q)
IsIn-filter {X} p x (y ∷ xs) (inr i) e = go (p y) (IsIn-filter p x xs i e)
  where
    go : (b : Bool) → IsIn x (filter p xs) → IsIn x (cond b (y ∷ filter p xs) (filter p xs))
    go true j = inr j
    go false j = j

pub filter-IsIn : {X : Type 0} (p : X → Bool) (x : X) (xs : List X) → IsIn x (filter p xs) → IsIn x xs × (p x ≡ true)
filter-IsIn p x [] i = absurd i
filter-IsIn {X} p x (y ∷ xs) i = go (p y) refl i (filter-IsIn p x xs)
  where
    go : (b : Bool) → p y ≡ b → IsIn x (cond b (y ∷ filter p xs) (filter p xs)) → (IsIn x (filter p xs) → IsIn x xs × (p x ≡ true)) → IsIn x (y ∷ xs) × (p x ≡ true)
    go true e (inl q) further = (inl q, ap p (sym q) ∙ e)
    go true e (inr j) further = let f = further j in (inr f.0, f.1)
    go false e j further = let f = further j in (inr f.0, f.1)

abbrev calls_in : List KeyCall → Key → ℕ
calls_in rs q = length (calls_at (filter (λ r. is_call r.op) rs) q)

fewer_calls : (rs : List KeyCall) (q : Key) → calls_in rs q ≤ length (calls_at rs q)
fewer_calls [] q = omega arith
fewer_calls (r ∷ rs) q = go (is_call r.op) (same_key r.key q) (fewer_calls rs q)
  where
    go : (b t : Bool) → length (calls_at (filter (λ s. is_call s.op) rs) q) ≤ length (calls_at rs q)
        → length (calls_at (cond b (r ∷ filter (λ s. is_call s.op) rs) (filter (λ s. is_call s.op) rs)) q) ≤ length (cond (same_key r.key q) ((r.op, r.outcome) ∷ calls_at rs q) (calls_at rs q))
    go false t h = more (same_key r.key q)
      where
        more : (u : Bool) → length (calls_at (filter (λ s. is_call s.op) rs) q) ≤ length (cond u ((r.op, r.outcome) ∷ calls_at rs q) (calls_at rs q))
        more true = omega arith
        more false = h
    go true t h = both (same_key r.key q)
      where
        both : (u : Bool) → length (cond u ((r.op, r.outcome) ∷ calls_at (filter (λ s. is_call s.op) rs) q) (calls_at (filter (λ s. is_call s.op) rs) q)) ≤ length (cond u ((r.op, r.outcome) ∷ calls_at rs q) (calls_at rs q))
        both true = omega arith
        both false = h

-- each record is counted at its key
counted_at_keys : (ws : List KeyCall) (keys : List Key) → ((r : KeyCall) → IsIn r ws → IsIn r.key keys) → length ws ≤ total (λ q. length (calls_at ws q)) keys
counted_at_keys [] keys there = omega arith
counted_at_keys (r ∷ ws) keys there =
    let split : total (λ q. length (calls_at (r ∷ ws) q)) keys ≡ total (λ q. one (same_key r.key q)) keys + total (λ q. length (calls_at ws q)) keys
    = total-same _ (λ q. one (same_key r.key q) + length (calls_at ws q)) (λ q. split_at (same_key r.key q) q) keys ∙ total-plus _ _ keys in
    let here : one (same_key r.key r.key) ≤ total (λ q. one (same_key r.key q)) keys = total-at_least (λ q. one (same_key r.key q)) r.key keys (there r (inl refl)) in
    let itself : one (same_key r.key r.key) ≡ 1 = ap one (same_key_itself r.key) in
    omega (arith, counted_at_keys ws keys (λ s i. there s (inr i)))
  where
    split_at : (b : Bool) (q : Key) → length (cond b ((r.op, r.outcome) ∷ calls_at ws q) (calls_at ws q)) ≡ one b + length (calls_at ws q)
    split_at true q = omega arith
    split_at false q = omega arith

no_entry_call : (op : Op) → is_call op ≡ true → op ≡ Entry → ⊥
no_entry_call op e is = let p : false ≡ true = ap is_call (sym is) ∙ e in cc

pub call_bound : (old : Tree) (p : Key) (calls : List KeyCall) → ((r : KeyCall) → IsIn r calls → (x : Key) × (r.key ≡ p ++ x))
    → ((x : Key) (c : Op × Outcome) → IsIn c (calls_below calls p x) → (c.0 ≡ Entry) ⊎ IsReached (subtree old p) (calls_below calls p) x)
    → ((x : Key) → length (calls_below calls p x) ≤ 2) → length (filter (λ r. is_call r.op) calls) ≤ 2 * length (keys_below old p)
call_bound old p calls within reached few =
    let works = filter (λ (r : KeyCall). is_call r.op) calls in
    let counted : length works ≤ total (λ q. length (calls_at works q)) (keys_below old p) = counted_at_keys works (keys_below old p) there in
    let most : total (λ q. length (calls_at works q)) (keys_below old p) ≤ 2 * length (keys_below old p) = total-most (λ q. length (calls_at works q)) 2 (keys_below old p) two in
    omega arith
  where
    there : (r : KeyCall) → IsIn r (filter (λ s. is_call s.op) calls) → IsIn r.key (keys_below old p)
    there r i =
        let f = filter-IsIn (λ (s : KeyCall). is_call s.op) r calls i in
        let w = within r f.0 in
        let c : IsIn (r.op, r.outcome) (calls_below calls p w.0) = subst (λ (k : Key). IsIn (r.op, r.outcome) (calls_at calls k)) w.1 (calls_at-IsIn calls r f.0) in
        go w.0 w.1 f.1 (reached w.0 (r.op, r.outcome) c)
      where
        go : (x : Key) → r.key ≡ p ++ x → is_call r.op ≡ true → (r.op ≡ Entry) ⊎ IsReached (subtree old p) (calls_below calls p) x → IsIn r.key (keys_below old p)
        go x e call (inl entry) = absurd (no_entry_call r.op call entry)
        go x e call (inr is) = subst (λ k. IsIn k (keys_below old p)) (sym e) (IsIn-filter (λ q. is_some (path_to p q)) (p ++ x) (trees.keys old) (stands_among old (p ++ x) is.0) (ap is_some (path_below p x)))

    two : (q : Key) → IsIn q (keys_below old p) → length (calls_at (filter (λ r. is_call r.op) calls) q) ≤ 2
    two q i =
        let f = filter-IsIn (λ q. is_some (path_to p q)) q (trees.keys old) i in let x = path_is p q f.1 in
        let h : length (calls_at calls q) ≤ 2 = subst (λ k. length (calls_at calls k) ≤ 2) (sym x.1) (few x.0) in
        let less : length (calls_at (filter (λ r. is_call r.op) calls) q) ≤ length (calls_at calls q) = fewer_calls calls q in
        omega arith
