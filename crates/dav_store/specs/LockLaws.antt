-- Compatible locks (RFC 4918, section 6.2) stay compatible after each call of a lock system. A lock that is granted and then removed by its token at
-- its own path leaves the other locks as they were.
use Rattle.std.proofs.Common.{◌≡◌, ◌∙◌, ℕ, Bool, true, false, cond, not, ◌&&◌, ◌||◌, List, [], ◌∷◌, ◌++◌, map, filter, Option, refl, sym, ap, ap₂, subst}
use Rattle.std.proofs.lemmas.Bool.{and_parts, and_from, not-true}
use Rattle.std.proofs.lemmas.List.Folds.{list_all-append, list_all-map}
use Rattle.std.proofs.lemmas.Slice.Eq.{bytes_eq-Decides}
use Rattle.std.specs.List.{list_all, list_any}
use Rattle.dav_key.specs.Key.{Key, is_same_key, same_key_decides}
use Rattle.dav_store.specs.declared.lock.DavLock.{DavLock}
use Rattle.dav_store.specs.Locks.{Locks, is_at_or_below, covers, covering, at_or_below, elsewhere, conflicts, has_token, grants, meet, stand_together, are_compatible, AreCompatible}
use Rattle.dav_store.specs.LockCalls.{AddsLock, is_named, has_named, without_named, RemovesLock, refreshed, with_refreshed, RefreshesLock}

-- ---- tests of lists

neither : (a b : Bool) → (a || b) ≡ false → (a ≡ false) × (b ≡ false)
neither true b e = absurd cc
neither false b e = (refl, e)

all_filtered : (test kept : DavLock → Bool) (locks : List DavLock) → list_all test locks ≡ true → list_all test (filter kept locks) ≡ true
all_filtered test kept [] h = refl
all_filtered test kept (lock ∷ locks) h =
    let both = and_parts (test lock) (list_all test locks) h in
    let rest = all_filtered test kept locks both.1 in
    elim (kept lock) as (λ b. list_all test (cond b (lock ∷ filter kept locks) (filter kept locks)) ≡ true) [ true ↦ and_from _ _ both.0 rest | false ↦ rest ]

-- if no kept lock passes the test, then the first lock, if kept, does not pass it, nor do the rest
none_kept : (asked : Bool) (test kept : DavLock → Bool) (lock : DavLock) (locks : List DavLock) → (asked && list_any test (filter kept (lock ∷ locks))) ≡ false
    → (((asked && kept lock) && test lock) ≡ false) × ((asked && list_any test (filter kept locks)) ≡ false)
none_kept false test kept lock locks h = (refl, refl)
none_kept true test kept lock locks h =
    elim (kept lock) as (λ b. list_any test (cond b (lock ∷ filter kept locks) (filter kept locks)) ≡ false → ((b && test lock) ≡ false) × (list_any test (filter kept locks) ≡ false)) [
      | true ↦ λ e. neither (test lock) _ e
      | false ↦ λ e. (refl, e)
    ] h

-- ---- two locks

below_itself : (key : Key) → is_at_or_below key key ≡ true
below_itself [] = refl
below_itself (segment ∷ key) = and_from _ _ ((bytes_eq-Decides segment segment).1 refl) (below_itself key)

covers_itself : (lock : DavLock) → covers lock lock.path.key ≡ true
covers_itself lock = elim lock.deep as (λ b. cond b (is_at_or_below lock.path.key lock.path.key) (is_same_key lock.path.key lock.path.key) ≡ true) [ true ↦ below_itself lock.path.key | false ↦ (same_key_decides lock.path.key lock.path.key).1 refl ]

-- two locks meet exactly if the first covers the key of the second, or the second is deep and the key of the first is at or below its key
meet-is : (a b : DavLock) → meet a b ≡ (covers a b.path.key || (b.deep && is_at_or_below a.path.key b.path.key))
meet-is a b = elim b.deep as (λ d. (covers a b.path.key || cond d (is_at_or_below a.path.key b.path.key) (is_same_key a.path.key b.path.key)) ≡ (covers a b.path.key || (d && is_at_or_below a.path.key b.path.key))) [
  | true ↦ refl
  | false ↦ at_one_key (covers a b.path.key) (is_same_key a.path.key b.path.key) (λ same. sym (ap (covers a) ((same_key_decides a.path.key b.path.key).0 same)) ∙ covers_itself a)
]
  where
    at_one_key : (c s : Bool) → (s ≡ true → c ≡ true) → (c || s) ≡ (c || false)
    at_one_key true s h = refl
    at_one_key false true h = sym (h refl)
    at_one_key false false h = refl

conflicts-sym : (a b : DavLock) → conflicts a b ≡ conflicts b a
conflicts-sym a b = turned a.shared b.shared
  where
    turned : (x y : Bool) → not (x && y) ≡ not (y && x)
    turned true true = refl
    turned true false = refl
    turned false true = refl
    turned false false = refl

-- a lock that does not conflict with another in the two ways that `grants` checks stands together with it
beside : (lock other : DavLock) → (covers other lock.path.key && conflicts lock other) ≡ false → ((lock.deep && is_at_or_below other.path.key lock.path.key) && conflicts lock other) ≡ false → stand_together other lock ≡ true
beside lock other above below = ap₂ (λ m c. not (m && c)) (meet-is other lock) (conflicts-sym other lock) ∙ never (covers other lock.path.key) (lock.deep && is_at_or_below other.path.key lock.path.key) (conflicts lock other) above below
  where
    never : (c b k : Bool) → (c && k) ≡ false → (b && k) ≡ false → not ((c || b) && k) ≡ true
    never true b true above below = absurd cc
    never true b false above below = refl
    never false true true above below = absurd cc
    never false true false above below = refl
    never false false k above below = refl

-- ---- lists of locks

-- the token of a granted lock is not in use, and no lock conflicts with it
granted_parts : (taken above below : Bool) → (not taken && not above && not below) ≡ true → (taken ≡ false) × (above ≡ false) × (below ≡ false)
granted_parts true above below e = absurd cc
granted_parts false true below e = absurd cc
granted_parts false false below e = (refl, refl, not-true below e)

beside_each : (lock : DavLock) (locks : List DavLock) → list_any (conflicts lock) (covering locks lock.path.key) ≡ false → (lock.deep && list_any (conflicts lock) (at_or_below locks lock.path.key)) ≡ false → list_all (λ other. stand_together other lock) locks ≡ true
beside_each lock [] above below = refl
beside_each lock (other ∷ locks) above below =
    let over = none_kept true (conflicts lock) (λ o. covers o lock.path.key) other locks above in
    let under = none_kept lock.deep (conflicts lock) (λ o. is_at_or_below o.path.key lock.path.key) other locks below in
    and_from _ _ (beside lock other over.0 under.0) (beside_each lock locks over.1 under.1)

compatible_push : (lock : DavLock) (locks : List DavLock) → list_all (λ other. stand_together other lock) locks ≡ true → AreCompatible locks → AreCompatible (locks ++ lock ∷ [])
compatible_push lock [] each h = refl
compatible_push lock (first ∷ locks) each h =
    let one = and_parts (stand_together first lock) _ each in
    let both = and_parts (list_all (stand_together first) locks) (are_compatible locks) h in
    and_from _ _ (list_all-append (stand_together first) locks (lock ∷ []) ∙ and_from _ _ both.0 (and_from _ _ one.0 refl)) (compatible_push lock locks one.1 both.1)

-- compatible locks stay compatible when some are left out
pub compatible_filtered : (kept : DavLock → Bool) (locks : List DavLock) → AreCompatible locks → AreCompatible (filter kept locks)
compatible_filtered kept [] h = refl
compatible_filtered kept (lock ∷ locks) h =
    let both = and_parts (list_all (stand_together lock) locks) (are_compatible locks) h in
    let rest = compatible_filtered kept locks both.1 in
    elim (kept lock) as (λ b. are_compatible (cond b (lock ∷ filter kept locks) (filter kept locks)) ≡ true) [ true ↦ and_from _ _ (all_filtered (stand_together lock) kept locks both.0) rest | false ↦ rest ]

-- locks stay compatible after a change that keeps which locks stand together
compatible-map : (change : DavLock → DavLock) → ((a b : DavLock) → stand_together (change a) (change b) ≡ stand_together a b) → (locks : List DavLock) → are_compatible (map change locks) ≡ are_compatible locks
compatible-map change same [] = refl
compatible-map change same (lock ∷ locks) =
    ap₂ (λ a b. a && b) (list_all-map (stand_together (change lock)) change locks ∙ (λ i. list_all (λ other. same lock other i) locks)) (compatible-map change same locks)

together-refreshed : (timeout : Option ℕ) (now : ℕ) (a b : DavLock) (x y : Bool) → stand_together (cond x (refreshed timeout now a) a) (cond y (refreshed timeout now b) b) ≡ stand_together a b
together-refreshed timeout now a b true true = refl
together-refreshed timeout now a b true false = refl
together-refreshed timeout now a b false true = refl
together-refreshed timeout now a b false false = refl

-- a granted lock is compatible with the others
pub compatible_granted : (lock : DavLock) (locks : List DavLock) → grants locks lock ≡ true → AreCompatible locks → AreCompatible (locks ++ lock ∷ [])
compatible_granted lock locks granted h =
    let parts = granted_parts (list_any (has_token lock.token) locks) _ _ granted in
    compatible_push lock locks (beside_each lock locks parts.1 parts.2) h

pub compatible_without : (key : Key) (token : List ℕ) (locks : List DavLock) → AreCompatible locks → AreCompatible (without_named key token locks)
compatible_without key token locks h = compatible_filtered (λ lock. not (is_named key token lock)) locks h

pub compatible_with_refreshed : (key : Key) (token : List ℕ) (timeout : Option ℕ) (now : ℕ) (locks : List DavLock) → AreCompatible locks → AreCompatible (with_refreshed key token timeout now locks)
compatible_with_refreshed key token timeout now locks h = compatible-map _ (λ a b. together-refreshed timeout now a b (is_named key token a) (is_named key token b)) locks ∙ h

pub compatible_elsewhere : (locks : List DavLock) (key : Key) → AreCompatible locks → AreCompatible (elsewhere locks key)
compatible_elsewhere locks key h = compatible_filtered (λ lock. not (is_at_or_below lock.path.key key)) locks h

-- ---- a lock identified by its own token and path

pub names_itself : (lock : DavLock) → is_named lock.path.key lock.token lock ≡ true
names_itself lock = and_from _ _ ((bytes_eq-Decides lock.token lock.token).1 refl) (below_itself lock.path.key)

pub granted_named : (lock : DavLock) (locks : List DavLock) → has_named lock.path.key lock.token (locks ++ lock ∷ []) ≡ true
granted_named lock [] = ap (λ b. b || false) (names_itself lock)
granted_named lock (other ∷ locks) = ap (λ b. is_named lock.path.key lock.token other || b) (granted_named lock locks) ∙ either (is_named lock.path.key lock.token other)
  where
    either : (b : Bool) → (b || true) ≡ true
    either true = refl
    either false = refl

free_without : (lock : DavLock) (locks : List DavLock) → list_any (has_token lock.token) locks ≡ false → without_named lock.path.key lock.token (locks ++ lock ∷ []) ≡ locks
free_without lock [] free = ap (λ b. cond (not b) (lock ∷ []) []) (names_itself lock)
free_without lock (other ∷ locks) free =
    let apart = neither (has_token lock.token other) (list_any (has_token lock.token) locks) free in
    let rest = without_named lock.path.key lock.token (locks ++ lock ∷ []) in
    ap (λ b. cond (not (b && is_at_or_below lock.path.key other.path.key)) (other ∷ rest) rest) apart.0 ∙ ap (λ more. other ∷ more) (free_without lock locks apart.1)

-- its token was not in use, so no other lock is removed
pub granted_without : (lock : DavLock) (locks : List DavLock) → grants locks lock ≡ true → without_named lock.path.key lock.token (locks ++ lock ∷ []) ≡ locks
granted_without lock locks granted = free_without lock locks (granted_parts (list_any (has_token lock.token) locks) _ _ granted).0

-- ---- the calls keep compatible locks compatible

pub compatible_added : (lock : DavLock) (old new : Locks) → AddsLock lock old new → AreCompatible old.list → AreCompatible new.list
compatible_added lock old new adds h = subst AreCompatible (sym (ap (λ (locks : Locks). locks.list) adds.added)) (compatible_granted lock old.list adds.granted h)

pub compatible_removed : (key : Key) (token : List ℕ) (old new : Locks) → RemovesLock key token old new → AreCompatible old.list → AreCompatible new.list
compatible_removed key token old new removes h = subst AreCompatible (sym (ap (λ (locks : Locks). locks.list) removes.removed)) (compatible_without key token old.list h)

pub compatible_refreshed : (key : Key) (token : List ℕ) (timeout : Option ℕ) (now : ℕ) (lock : DavLock) (old new : Locks) → RefreshesLock key token timeout now lock old new → AreCompatible old.list → AreCompatible new.list
compatible_refreshed key token timeout now lock old new refreshes h = subst AreCompatible (sym (ap (λ (locks : Locks). locks.list) refreshes.refreshed_alone)) (compatible_with_refreshed key token timeout now old.list h)

-- ---- a lock that is added and then removed

pub added_named : (lock : DavLock) (old new : Locks) → AddsLock lock old new → has_named lock.path.key lock.token new.list ≡ true
added_named lock old new adds = ap (λ (locks : Locks). has_named lock.path.key lock.token locks.list) adds.added ∙ granted_named lock old.list

-- the locks are as they were
pub added_removed : (lock : DavLock) (old mid new : Locks) → AddsLock lock old mid → RemovesLock lock.path.key lock.token mid new → new ≡ old
added_removed lock old mid new adds removes =
    removes.removed
    ∙ ap (λ (locks : Locks). record locks { list = without_named lock.path.key lock.token locks.list }) adds.added
    ∙ ap (λ (list : List DavLock). record old { list = list }) (granted_without lock old.list adds.granted)
