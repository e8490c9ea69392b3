-- Lists of locks: what a filter and a new lock leave of their distinct tokens, what a new lock and a refreshed one leave of their standing together, and what the number of a lock that is named tells.
use Rattle.std.proofs.Common.{◌≡◌, ◌∙◌, ℕ, Bool, true, false, cond, not, List, [], ◌∷◌, ◌++◌, map, Option, Some, None, Result, Ok, Err, OnOk, OnErr, refl, sym, ap, ap₂, subst, ◌&&◌, ◌||◌, ◌<◌, length, arith, bytes_eq, nat_cmp}
use Rattle.std.proofs.lemmas.Bool.{and_from}
use Rattle.std.proofs.lemmas.List.{map-append}
use Rattle.std.proofs.lemmas.Map.Keys.{IsDistinct-head, IsDistinct-tail, IsDistinct-cons, IsDistinct-push}
use Rattle.std.proofs.lemmas.Slice.Eq.{bytes_eq-Decides}
use Rattle.std.proofs.lemmas.Cmp.{nat_list_eq_equiv}
use Rattle.std.specs.BTreeMap.{is_at}
use Rattle.std.specs.List.{IsDistinct, AllByRecursion, filter, find, list_any}
use Rattle.std.specs.Map.{keys_of, values_of, remove_entry}
use Rattle.std.specs.Option.{IsSomeAnd, option_map}
use Rattle.std.specs.Ordering.{is_eq}
use Rattle.dav_key.specs.Key.{Key}
use Rattle.dav_store.specs.declared.lock.DavLock.{DavLock}
use Rattle.dav_store.specs.Locks.{is_at_or_below, at_or_below, elsewhere, has_token, grants, AreCompatible}
use Rattle.dav_store.specs.LockCalls.{HasDistinctTokens, is_named, has_named, without_named, refreshed, with_refreshed}
use Rattle.dav_store.specs.LockLaws.{compatible_without, compatible_granted, compatible_with_refreshed}
use Rattle.dav_memls.specs.LockIndex.{Row, lock_of, locks_without, locks_refreshed, is_within, StandsBelow}
use Rattle.dav_memls.proofs.Ascending.{Rises, rises-head, rises-tail, is_eq-same, at_number}
use Rattle.dav_memls.proofs.LockRows.{refreshed_none}
use Rattle.dav_memls.proofs.Reached.{bytes_eq-sym, at_itself}

-- ---- distinct tokens

pub distinct-none : HasDistinctTokens []
unfolding IsDistinct
distinct-none = tt

abbrev token_of : DavLock → List ℕ
token_of lock = lock.token

all-filter : (P : List ℕ → Type 0) (test : DavLock → Bool) (locks : List DavLock) → AllByRecursion P (map token_of locks) → AllByRecursion P (map token_of (filter test locks))
all-filter P test [] h = h
all-filter P test (lock ∷ locks) h = elim (test lock) as (λ b. AllByRecursion P (map token_of (cond b (lock ∷ filter test locks) (filter test locks)))) [ true ↦ (h.0, all-filter P test locks h.1) | false ↦ all-filter P test locks h.1 ]

pub distinct-filter : (test : DavLock → Bool) (locks : List DavLock) → HasDistinctTokens locks → HasDistinctTokens (filter test locks)
distinct-filter test [] h = h
distinct-filter test (lock ∷ locks) h =
    let rest = distinct-filter test locks (IsDistinct-tail bytes_eq _ _ h) in
    elim (test lock) as (λ b. HasDistinctTokens (cond b (lock ∷ filter test locks) (filter test locks))) [
      | true ↦ IsDistinct-cons bytes_eq lock.token _ (all-filter _ test locks (IsDistinct-head bytes_eq _ _ h)) rest
      | false ↦ rest
    ]

any_token : (token : List ℕ) (locks : List DavLock) → list_any (has_token token) locks ≡ list_any (bytes_eq token) (map token_of locks)
any_token token [] = refl
any_token token (lock ∷ locks) = ap (λ b. bytes_eq token lock.token || b) (any_token token locks)

-- a lock whose token is free goes behind the others, where it goes in at all
pub distinct-push : (added : Bool) (locks : List DavLock) (lock : DavLock) → HasDistinctTokens locks → list_any (has_token lock.token) locks ≡ false → HasDistinctTokens (cond added (locks ++ lock ∷ []) locks)
distinct-push true locks lock distinct free =
    subst (IsDistinct bytes_eq) (sym (map-append token_of locks (lock ∷ [])))
    (IsDistinct-push nat_list_eq_equiv (map token_of locks) lock.token distinct (sym (any_token lock.token locks) ∙ free))
distinct-push false locks lock distinct free = distinct

-- a lock that is granted has a free token
pub free_token : (taken above below : Bool) → (not taken && above && below) ≡ true → taken ≡ false
free_token true above below e = absurd cc
free_token false above below e = refl

-- ---- locks that stand together

-- a lock that is granted goes behind the others, where it goes in at all
pub compatible-push : (added : Bool) (locks : List DavLock) (lock : DavLock) → grants locks lock ≡ true → AreCompatible locks → AreCompatible (cond added (locks ++ lock ∷ []) locks)
compatible-push true locks lock granted together = compatible_granted lock locks granted together
compatible-push false locks lock granted together = together

pub compatible-refreshed : (key : Key) (token : List ℕ) (timeout : Option ℕ) (now : ℕ) (old new : List DavLock) → AreCompatible old → new ≡ with_refreshed key token timeout now old → AreCompatible new
compatible-refreshed key token timeout now old new together is = subst AreCompatible (sym is) (compatible_with_refreshed key token timeout now old together)

-- ---- a lock that is named

-- no lock but that of the token is refreshed
others_kept : (key : Key) (token : List ℕ) (timeout : Option ℕ) (now : ℕ) (locks : List DavLock) → AllByRecursion (λ t. bytes_eq token t ≡ false) (map token_of locks) → with_refreshed key token timeout now locks ≡ locks
others_kept key token timeout now [] h = refl
others_kept key token timeout now (lock ∷ locks) h =
    ap (λ b. cond (b && is_at_or_below key lock.path.key) (refreshed timeout now lock) lock ∷ with_refreshed key token timeout now locks) h.0
    ∙ ap (λ more. lock ∷ more) (others_kept key token timeout now locks h.1)

-- a refreshed lock keeps its token
pub tokens-refreshed : (key : Key) (token : List ℕ) (timeout : Option ℕ) (now : ℕ) (locks : List DavLock) → map token_of (with_refreshed key token timeout now locks) ≡ map token_of locks
tokens-refreshed key token timeout now [] = refl
tokens-refreshed key token timeout now (lock ∷ locks) =
    elim (is_named key token lock) as (λ b. token_of (cond b (refreshed timeout now lock) lock) ∷ map token_of (with_refreshed key token timeout now locks) ≡ lock.token ∷ map token_of locks) [
      | true ↦ ap (λ ts. lock.token ∷ ts) (tokens-refreshed key token timeout now locks)
      | false ↦ ap (λ ts. lock.token ∷ ts) (tokens-refreshed key token timeout now locks)
    ]

-- a lock that is named has the token
has_it : (token : List ℕ) (lock : DavLock) (at : Bool) → (has_token token lock && at) ≡ true → token ≡ lock.token
has_it token lock at named = (bytes_eq-Decides token lock.token).0 (first_true (has_token token lock) named)
  where
    first_true : (b : Bool) → (b && at) ≡ true → b ≡ true
    first_true true e = refl
    first_true false e = absurd cc

others_stay : (key : Key) (token : List ℕ) (locks : List DavLock) → AllByRecursion (λ t. bytes_eq token t ≡ false) (map token_of locks) → without_named key token locks ≡ locks
others_stay key token [] h = refl
others_stay key token (lock ∷ locks) h =
    ap (λ b. cond (not (b && is_at_or_below key lock.path.key)) (lock ∷ without_named key token locks) (without_named key token locks)) h.0
    ∙ ap (λ more. lock ∷ more) (others_stay key token locks h.1)

held_token : (P : List ℕ → Type 0) (rows : List Row) (n : ℕ) (lock : DavLock) → AllByRecursion P (map token_of (values_of rows)) → lock_of n rows ≡ Some lock → P lock.token
held_token P [] n lock a held = absurd cc
held_token P (row ∷ rows) n lock a held =
    elim (is_eq (nat_cmp n row.0)) as (λ b. cond b (Some row.1) (lock_of n rows) ≡ Some lock → P lock.token) [
      | true ↦ λ e. subst (λ l. P (token_of l)) (let one : row.1 ≡ lock = cc in one) a.0
      | false ↦ λ e. held_token P rows n lock a.1 e
    ] held

-- where tokens are distinct, the lock that is named is the only one: what its number tells of the others
pub record IsOnlyNamed (key : Key) (token : List ℕ) (rows : List Row) (n : ℕ) (lock : DavLock) : Type 0 where
  pub found : find (is_named key token) (values_of rows) ≡ Some lock
  pub has : has_named key token (values_of rows) ≡ true
  pub rest : locks_without n rows ≡ without_named key token (values_of rows)
  pub changed : (timeout : Option ℕ) (now : ℕ) → locks_refreshed n timeout now rows ≡ with_refreshed key token timeout now (values_of rows)

pub only_named : (key : Key) (token : List ℕ) (rows : List Row) (n : ℕ) (lock : DavLock) → HasDistinctTokens (values_of rows) → Rises (keys_of rows) → lock_of n rows ≡ Some lock → is_named key token lock ≡ true → IsOnlyNamed key token rows n lock
only_named key token [] n lock distinct rises held named = absurd cc
only_named key token (row ∷ rows) n lock distinct rises held named =
    elim (is_eq (nat_cmp n row.0)) as (λ b. is_eq (nat_cmp n row.0) ≡ b → cond b (Some row.1) (lock_of n rows) ≡ Some lock → IsOnlyNamed key token (row ∷ rows) n lock) [
      | true ↦ λ at e. first at (let one : row.1 ≡ lock = cc in one)
      | false ↦ λ at e. later at (other e) (only_named key token rows n lock (IsDistinct-tail bytes_eq (token_of row.1) (map token_of (values_of rows)) distinct) (rises-tail row.0 (keys_of rows) rises) e named)
    ] refl held
  where
    apart : AllByRecursion (λ t. bytes_eq (token_of row.1) t ≡ false) (map token_of (values_of rows))
    apart = IsDistinct-head bytes_eq (token_of row.1) (map token_of (values_of rows)) distinct

    first : is_eq (nat_cmp n row.0) ≡ true → row.1 ≡ lock → IsOnlyNamed key token (row ∷ rows) n lock
    first at one =
        let is : is_named key token row.1 ≡ true = ap (is_named key token) one ∙ named in
        let others : AllByRecursion (λ t. bytes_eq token t ≡ false) (map token_of (values_of rows)) = (
        let P : List ℕ → Type 0 = λ k. AllByRecursion (λ other. bytes_eq k other ≡ false) (map token_of (values_of rows)) in
        subst P (sym (has_it token row.1 (is_at_or_below key row.1.path.key) is)) apart) in
        record {
          found = ap (λ b. cond b (Some row.1) (find (is_named key token) (values_of rows))) is ∙ ap Some one;
          has = ap (λ b. b || has_named key token (values_of rows)) is;
          rest =
              ap (λ b. values_of (cond b rows (row ∷ remove_entry (is_at (nat_cmp n)) rows))) at
              ∙ sym (others_stay key token (values_of rows) others)
              ∙ sym (ap (λ b. cond (not b) (row.1 ∷ without_named key token (values_of rows)) (without_named key token (values_of rows))) is);
          changed = λ timeout now.
              ap₂ (λ b more. cond b (refreshed timeout now row.1) row.1 ∷ more) (sym (is_eq-same n row.0) ∙ at ∙ sym is)
              (refreshed_none n timeout now rows (subst (λ m. AllByRecursion (λ k. m < k) (keys_of rows)) (sym (at_number n row.0 at)) (rises-head row.0 (keys_of rows) rises))
              ∙ sym (others_kept key token timeout now (values_of rows) others));
        }

    -- the first lock has another token
    other : lock_of n rows ≡ Some lock → is_named key token row.1 ≡ false
    other e =
        ap (λ b. b && is_at_or_below key row.1.path.key)
        (ap (λ t. bytes_eq t (token_of row.1)) (has_it token lock (is_at_or_below key lock.path.key) named) ∙ bytes_eq-sym (token_of lock) (token_of row.1) ∙ held_token (λ t. bytes_eq (token_of row.1) t ≡ false) rows n lock apart e)

    later : is_eq (nat_cmp n row.0) ≡ false → is_named key token row.1 ≡ false → IsOnlyNamed key token rows n lock → IsOnlyNamed key token (row ∷ rows) n lock
    later at fails only = record {
      found = ap (λ b. cond b (Some row.1) (find (is_named key token) (values_of rows))) fails ∙ only.found;
      has = ap (λ b. b || has_named key token (values_of rows)) fails ∙ only.has;
      rest =
          ap (λ b. values_of (cond b rows (row ∷ remove_entry (is_at (nat_cmp n)) rows))) at
          ∙ ap (λ more. row.1 ∷ more) only.rest
          ∙ sym (ap (λ b. cond (not b) (row.1 ∷ without_named key token (values_of rows)) (without_named key token (values_of rows))) fails);
      changed = λ timeout now. ap₂ (λ b more. cond b (refreshed timeout now row.1) row.1 ∷ more) (sym (is_eq-same n row.0) ∙ at ∙ sym fails) (only.changed timeout now);
    }

pub distinct-refreshed : (key : Key) (token : List ℕ) (timeout : Option ℕ) (now : ℕ) (old new : List DavLock) → HasDistinctTokens old → new ≡ with_refreshed key token timeout now old → HasDistinctTokens new
distinct-refreshed key token timeout now old new distinct is = subst (IsDistinct bytes_eq) (sym (ap (map token_of) is ∙ tokens-refreshed key token timeout now old)) distinct

pub found-refreshed : (key : Key) (token : List ℕ) (timeout : Option ℕ) (now : ℕ) (rows : List Row) (n : ℕ) (held copy lock : DavLock) → IsOnlyNamed key token rows n held → copy ≡ held → lock ≡ refreshed timeout now copy
    → option_map (refreshed timeout now) (find (is_named key token) (values_of rows)) ≡ Some lock
found-refreshed key token timeout now rows n held copy lock only same is = ap (option_map (refreshed timeout now)) only.found ∙ ap (λ l. Some (refreshed timeout now l)) (sym same) ∙ ap Some (sym is)

-- ---- a lock that is removed

pub distinct-without : (key : Key) (token : List ℕ) (old new : List DavLock) → HasDistinctTokens old → new ≡ without_named key token old → HasDistinctTokens new
distinct-without key token old new distinct is = subst HasDistinctTokens (sym is) (distinct-filter (λ l. not (is_named key token l)) old distinct)

pub compatible-without : (key : Key) (token : List ℕ) (old new : List DavLock) → AreCompatible old → new ≡ without_named key token old → AreCompatible new
compatible-without key token old new together is = subst AreCompatible (sym is) (compatible_without key token old together)

-- ---- the locks at a key or below it

-- where the lock of a number does not pass the test, the locks that pass are those that pass without it
pub filter-removed : (test : DavLock → Bool) (rows : List Row) (n : ℕ) (lock : DavLock) → lock_of n rows ≡ Some lock → test lock ≡ false → filter test (locks_without n rows) ≡ filter test (values_of rows)
filter-removed test [] n lock held fails = absurd cc
filter-removed test (row ∷ rows) n lock held fails =
    elim (is_eq (nat_cmp n row.0)) as (λ b. cond b (Some row.1) (lock_of n rows) ≡ Some lock → filter test (values_of (cond b rows (row ∷ remove_entry (is_at (nat_cmp n)) rows))) ≡ filter test (values_of (row ∷ rows))) [
      | true ↦ λ e. sym (ap (λ b. cond b (row.1 ∷ filter test (values_of rows)) (filter test (values_of rows))) (ap test (let one : row.1 ≡ lock = cc in one) ∙ fails))
      | false ↦ λ e. ap (λ more. cond (test row.1) (row.1 ∷ more) more) (filter-removed test rows n lock e fails)
    ] held

-- there are fewer locks without that of a number
pub fewer : (rows : List Row) (n : ℕ) (lock : DavLock) → lock_of n rows ≡ Some lock → length (locks_without n rows) < length (values_of rows)
fewer [] n lock held = absurd cc
fewer (row ∷ rows) n lock held =
    elim (is_eq (nat_cmp n row.0)) as (λ b. cond b (Some row.1) (lock_of n rows) ≡ Some lock → length (values_of (cond b rows (row ∷ remove_entry (is_at (nat_cmp n)) rows))) < length (values_of (row ∷ rows))) [
      | true ↦ λ e. omega arith
      | false ↦ λ e. let h = fewer rows n lock e in omega arith
    ] held

-- what a number of a lock there tells of the locks without it
pub record IsGone (key : Key) (rows : List Row) (n : ℕ) : Type 0 where
  pub fewer : length (locks_without n rows) < length (values_of rows)
  pub elsewhere : elsewhere (locks_without n rows) key ≡ elsewhere (values_of rows) key
  pub distinct : HasDistinctTokens (locks_without n rows)
  pub compatible : AreCompatible (locks_without n rows)

pub is_gone : (key : Key) (rows : List Row) (n : ℕ) → HasDistinctTokens (values_of rows) → AreCompatible (values_of rows) → Rises (keys_of rows) → StandsBelow key rows n → IsGone key rows n
is_gone key rows n distinct together rises at = held (lock_of n rows) refl at
  where
    held : (o : Option DavLock) → lock_of n rows ≡ o → IsSomeAnd o (λ lock. is_within key lock ≡ true) → IsGone key rows n
    held None e below = absurd below
    held (Some lock) e below =
        let named : is_named lock.path.key lock.token lock ≡ true = and_from _ _ ((bytes_eq-Decides lock.token lock.token).1 refl) (at_itself lock.path.key) in
        let only = only_named lock.path.key lock.token rows n lock distinct rises e named in
        record {
          fewer = fewer rows n lock e;
          elsewhere = filter-removed (λ l. not (is_within key l)) rows n lock e (ap not below);
          distinct = distinct-without lock.path.key lock.token (values_of rows) (locks_without n rows) distinct only.rest;
          compatible = compatible-without lock.path.key lock.token (values_of rows) (locks_without n rows) together only.rest;
        }

pub elsewhere-all : (key : Key) (locks : List DavLock) → at_or_below locks key ≡ [] → elsewhere locks key ≡ locks
elsewhere-all key [] none = refl
elsewhere-all key (lock ∷ locks) none =
    elim (is_at_or_below lock.path.key key) as (λ b. cond b (lock ∷ at_or_below locks key) (at_or_below locks key) ≡ [] → cond (not b) (lock ∷ elsewhere locks key) (elsewhere locks key) ≡ lock ∷ locks) [
      | true ↦ λ e. absurd cc
      | false ↦ λ e. ap (λ more. lock ∷ more) (elsewhere-all key locks e)
    ] none

-- ---- a call that may lack memory

pub either_way : {A E : Type 0} (r : Result A E) (P : List DavLock → Type 0) (old new changed : List DavLock) → OnOk r (new ≡ changed) → OnErr r (new ≡ old) → P changed → P old → P new
either_way (Ok a) P old new changed ok err more same = subst P (sym ok) more
either_way (Err e) P old new changed ok err more same = subst P (sym err) same
