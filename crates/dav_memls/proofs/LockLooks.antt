-- What the looks into the index of locks answer.
use Rattle.std.proofs.Common.{◌≡◌, ◌∙◌, ℕ, Bool, true, false, cond, ◌&&◌, ◌||◌, List, [], ◌∷◌, Option, Some, None, refl, sym, ap, ap₂, subst, slice_get}
use Rattle.std.specs.List.{AllByRecursion, filter, list_any}
use Rattle.std.specs.Map.{keys_of, values_of}
use Rattle.std.specs.Option.{IsSomeAnd, MatchOption, option_to_list}
use Rattle.dav_key.specs.Key.{Key, same_key_decides}
use Rattle.dav_store.specs.declared.lock.DavLock.{DavLock}
use Rattle.dav_store.specs.Locks.{has_token, is_at_or_below}
use Rattle.dav_store.specs.LockCalls.{is_named, has_named}
use Rattle.dav_memls.specs.declared.memory_locks.index.Register.{Register}
use Rattle.dav_memls.specs.LockIndex.{Row, among, belongs, numbers_of, lock_of, locks_of_numbers, is_of_key, is_within, StandsBelow}
use Rattle.dav_memls.proofs.Ascending.{Rises}
use Rattle.dav_memls.proofs.LockRows.{locks_found, all_held}

-- ---- the lock that is named

-- whether one is named is whether one with the token is
pub named_token : (key : Key) (token : List ℕ) (ls : List DavLock) → has_named key token ls ≡ list_any (is_named key token) (filter (has_token token) ls)
named_token key token [] = refl
named_token key token (l ∷ ls) =
    elim (has_token token l) as (λ b. has_token token l ≡ b → (is_named key token l || has_named key token ls) ≡ list_any (is_named key token) (cond b (l ∷ filter (has_token token) ls) (filter (has_token token) ls))) [
      | true ↦ λ e. ap (λ b. is_named key token l || b) (named_token key token ls)
      | false ↦ λ e. ap (λ b. (b && is_at_or_below key l.path.key) || has_named key token ls) e ∙ named_token key token ls
    ] refl

-- none with the token is, or the one with it isn't
pub not_named : (key : Key) (token : List ℕ) (ls : List DavLock) (o : Option DavLock) → option_to_list o ≡ filter (has_token token) ls → MatchOption o (Unit {0}) (λ l. is_named key token l ≡ false) → has_named key token ls ≡ false
not_named key token ls o is fails = named_token key token ls ∙ ap (list_any (is_named key token)) (sym is) ∙ none o fails
  where
    none : (o : Option DavLock) → MatchOption o (Unit {0}) (λ l. is_named key token l ≡ false) → list_any (is_named key token) (option_to_list o) ≡ false
    none None e = refl
    none (Some l) e = ap (λ b. b || false) e

-- ---- a lock at a key or below it

-- the first number at a key that is the given one or below it is that of a lock there
pub some_stands : (key own : Key) (rows : List Row) (xs : List ℕ) (n : ℕ) → Rises (keys_of rows) → xs ≡ numbers_of (is_of_key own) rows → is_at_or_below own key ≡ true → slice_get xs 0 ≡ Some n → StandsBelow key rows n
some_stands key own rows [] n h is below first = absurd cc
some_stands key own rows (x ∷ xs) n h is below first =
    let at : x ≡ n = cc in
    within (lock_of n rows) (subst (λ m. IsSomeAnd (lock_of m rows) (λ l. is_of_key own l ≡ true)) at (subst (AllByRecursion (λ m. IsSomeAnd (lock_of m rows) (λ l. is_of_key own l ≡ true))) (sym is) (all_held (is_of_key own) rows h)).0)
  where
    within : (o : Option DavLock) → IsSomeAnd o (λ l. is_of_key own l ≡ true) → IsSomeAnd o (λ l. is_within key l ≡ true)
    within None e = e
    within (Some l) e = subst (λ k. is_at_or_below k key ≡ true) ((same_key_decides own l.path.key).0 e) below

-- ---- a look at one key

among_any : (register : Register) (p t : DavLock → Bool) (ls : List DavLock) → list_any p (filter (among register t) ls) ≡ list_any (among register p) (filter t ls)
among_any register p t [] = refl
among_any register p t (l ∷ ls) = split (belongs register l) (t l) refl (among_any register p t ls)
  where
    split : (b c : Bool) → belongs register l ≡ b → list_any p (filter (among register t) ls) ≡ list_any (among register p) (filter t ls) → list_any p (cond (b && c) (l ∷ filter (among register t) ls) (filter (among register t) ls)) ≡ list_any (among register p) (cond c (l ∷ filter t ls) (filter t ls))
    split true true has more = ap₂ (λ x y. (x && p l) || y) (sym has) more
    split true false has more = more
    split false true has more = ap₂ (λ x y. (x && p l) || y) (sym has) more
    split false false has more = more

-- the numbers that a register has at a key tell of its locks there
pub at_key : (register : Register) (p : DavLock → Bool) (key : Key) (xs : List ℕ) (rows : List Row) → Rises (keys_of rows) → xs ≡ numbers_of (among register (is_of_key key)) rows → list_any p (locks_of_numbers xs rows) ≡ list_any (among register p) (filter (is_of_key key) (values_of rows))
at_key register p key xs rows r is =
    ap (list_any p) (ap (λ ys. locks_of_numbers ys rows) is ∙ locks_found (among register (is_of_key key)) rows r)
    ∙ among_any register p (is_of_key key) (values_of rows)
