-- Locks that cover one key and stand together (RFC 4918, section 6.2): an exclusive one stands alone, or all are shared. So one of them tells of all.
use Rattle.std.proofs.Common.{◌≡◌, ◌∙◌, inl, inr, ⊎_elim, Bool, true, false, cond, not, ◌&&◌, ◌||◌, ◌==◌, List, [], ◌∷◌, length, refl, sym, ap, ap₂, subst, bytes_eq, arith}
use Rattle.std.proofs.lemmas.Bool.{and_from, and_parts}
use Rattle.std.proofs.lemmas.Bool.Decides.{nat_tests}
use Rattle.std.proofs.lemmas.Slice.Eq.{bytes_eq-Decides}
use Rattle.std.specs.List.{filter, list_all, list_any}
use Rattle.dav_key.specs.Key.{Key, is_same_key, same_key_decides}
use Rattle.dav_store.specs.declared.lock.DavLock.{DavLock}
use Rattle.dav_store.specs.Locks.{is_at_or_below, covers, covering, conflicts, meet, permits_at, stand_together, are_compatible, AreCompatible}
use Rattle.dav_store.specs.LockLaws.{compatible_filtered}
use Rattle.dav_store.specs.Members.{IsIn}
use Rattle.dav_memls.specs.declared.memory_locks.index.Register.TheVariants.{Exclusive}
use Rattle.dav_memls.specs.LockIndex.{among}

-- ---- tests of lists

pub any_agree : {X : Type 0} (p q : X → Bool) → ((x : X) → p x ≡ q x) → (xs : List X) → list_any p xs ≡ list_any q xs
any_agree p q h [] = refl
any_agree p q h (x ∷ xs) = ap₂ (λ a b. a || b) (h x) (any_agree p q h xs)

pub any_filter : {X : Type 0} (p test : X → Bool) (xs : List X) → list_any p (filter test xs) ≡ list_any (λ x. test x && p x) xs
any_filter p test [] = refl
any_filter p test (x ∷ xs) = elim (test x) as (λ b. list_any p (cond b (x ∷ filter test xs) (filter test xs)) ≡ ((b && p x) || list_any (λ x. test x && p x) xs)) [
  | true ↦ ap (λ b. p x || b) (any_filter p test xs)
  | false ↦ any_filter p test xs
]

pub any_or : {X : Type 0} (p q : X → Bool) (xs : List X) → list_any (λ x. p x || q x) xs ≡ (list_any p xs || list_any q xs)
any_or p q [] = refl
any_or p q (x ∷ xs) = ap (λ b. (p x || q x) || b) (any_or p q xs) ∙ paired (p x) (q x) (list_any p xs) (list_any q xs)
  where
    paired : (a b c d : Bool) → ((a || b) || (c || d)) ≡ ((a || c) || (b || d))
    paired true b c d = refl
    paired false true true d = refl
    paired false true false d = refl
    paired false false c d = refl

or_false : (b : Bool) → (b || false) ≡ b
or_false true = refl
or_false false = refl

or_right : (a b : Bool) → b ≡ true → (a || b) ≡ true
or_right true b e = refl
or_right false b e = e

-- what holds of all holds of one of them
pub all_in : (q : DavLock → Bool) (ls : List DavLock) (l : DavLock) → list_all q ls ≡ true → IsIn l ls → q l ≡ true
all_in q [] l all in_ = absurd in_
all_in q (x ∷ xs) l all in_ = let both = and_parts (q x) (list_all q xs) all in ⊎_elim (λ same. ap q (sym same) ∙ both.0) (λ more. all_in q xs l both.1 more) in_

all_kept : (q : DavLock → Bool) (ls : List DavLock) → list_all q (filter q ls) ≡ true
all_kept q [] = refl
all_kept q (l ∷ ls) = elim (q l) as (λ b. q l ≡ b → list_all q (cond b (l ∷ filter q ls) (filter q ls)) ≡ true) [
  | true ↦ λ e. and_from _ _ e (all_kept q ls)
  | false ↦ λ e. all_kept q ls
] refl

-- ---- two locks that cover one key

comparable : (key a b : Key) → is_at_or_below key a ≡ true → is_at_or_below key b ≡ true → (is_at_or_below b a || is_at_or_below a b) ≡ true
comparable key [] b over under = refl
comparable key (x ∷ a) [] over under = refl
comparable [] (x ∷ a) (y ∷ b) over under = absurd cc
comparable (s ∷ key) (x ∷ a) (y ∷ b) over under =
    let first = and_parts (bytes_eq x s) (is_at_or_below key a) over in
    let second = and_parts (bytes_eq y s) (is_at_or_below key b) under in
    let same : x ≡ y = (bytes_eq-Decides x s).0 first.0 ∙ sym ((bytes_eq-Decides y s).0 second.0) in
    ap₂ (λ c d. (c && is_at_or_below b a) || (d && is_at_or_below a b)) ((bytes_eq-Decides x y).1 same) ((bytes_eq-Decides y x).1 (sym same))
    ∙ comparable key a b first.1 second.1

-- one of them covers the other's own key
meet_at : (key : Key) (a b : DavLock) → covers a key ≡ true → covers b key ≡ true → meet a b ≡ true
meet_at key a b over under = split a.deep b.deep over under
  where
    split : (x y : Bool) → cond x (is_at_or_below key a.path.key) (is_same_key key a.path.key) ≡ true → cond y (is_at_or_below key b.path.key) (is_same_key key b.path.key) ≡ true → (cond x (is_at_or_below b.path.key a.path.key) (is_same_key b.path.key a.path.key) || cond y (is_at_or_below a.path.key b.path.key) (is_same_key a.path.key b.path.key)) ≡ true
    split true true o u = comparable key a.path.key b.path.key o u
    split true false o u = ap (λ c. c || is_same_key a.path.key b.path.key) (subst (λ k. is_at_or_below k a.path.key ≡ true) ((same_key_decides key b.path.key).0 u) o)
    split false y o u = or_right _ _ (subst (λ k. cond y (is_at_or_below k b.path.key) (is_same_key k b.path.key) ≡ true) ((same_key_decides key a.path.key).0 o) u)

-- so both are shared, where they stand together
both_shared : (key : Key) (a b : DavLock) → covers a key ≡ true → covers b key ≡ true → stand_together a b ≡ true → (a.shared ≡ true) × (b.shared ≡ true)
both_shared key a b over under together = parts (meet a b) a.shared b.shared (meet_at key a b over under) together
  where
    parts : (m x y : Bool) → m ≡ true → not (m && not (x && y)) ≡ true → (x ≡ true) × (y ≡ true)
    parts true true true e t = (refl, refl)
    parts true true false e t = absurd cc
    parts true false y e t = absurd cc
    parts false x y e t = absurd cc

-- ---- locks that cover one key

abbrev all_cover : Key → List DavLock → Bool
all_cover key ls = list_all (λ l. covers l key) ls

none_beside : (key : Key) (lock : DavLock) (ls : List DavLock) → covers lock key ≡ true → all_cover key ls ≡ true → list_all (stand_together lock) ls ≡ true → lock.shared ≡ false → ls ≡ []
none_beside key lock [] over all together alone = refl
none_beside key lock (l ∷ ls) over all together alone = absurd (let no : true ≡ false = sym (both_shared key lock l over (and_parts _ _ all).0 (and_parts _ _ together).0).0 ∙ alone in cc)

-- an exclusive one stands alone
alone_there : (key : Key) (ls : List DavLock) (l : DavLock) → all_cover key ls ≡ true → AreCompatible ls → IsIn l ls → l.shared ≡ false → ls ≡ l ∷ []
alone_there key [] l all together in_ alone = absurd in_
alone_there key (x ∷ xs) l all together in_ alone =
    let over = and_parts (covers x key) (all_cover key xs) all in
    let beside = and_parts (list_all (stand_together x) xs) (are_compatible xs) together in
    ⊎_elim
    (λ same. ap₂ (λ y ys. y ∷ ys) same (none_beside key x xs over.0 over.1 beside.0 (ap (λ y. y.shared) same ∙ alone)))
    (λ more. absurd (let no : true ≡ false = sym (both_shared key x l over.0 (all_in (λ y. covers y key) xs l over.1 more) (all_in (stand_together x) xs l beside.0 more)).1 ∙ alone in cc))
    in_

shared_beside : (key : Key) (lock : DavLock) (ls : List DavLock) → covers lock key ≡ true → all_cover key ls ≡ true → list_all (stand_together lock) ls ≡ true → list_all (λ l. l.shared) ls ≡ true
shared_beside key lock [] over all together = refl
shared_beside key lock (l ∷ ls) over all together =
    let here = and_parts (covers l key) (all_cover key ls) all in
    let beside = and_parts (stand_together lock l) (list_all (stand_together lock) ls) together in
    and_from _ _ (both_shared key lock l over here.0 beside.0).1 (shared_beside key lock ls over here.1 beside.1)

-- with a shared one all are
shared_there : (key : Key) (ls : List DavLock) (l : DavLock) → all_cover key ls ≡ true → AreCompatible ls → IsIn l ls → l.shared ≡ true → list_all (λ l. l.shared) ls ≡ true
shared_there key [] l all together in_ shared = absurd in_
shared_there key (x ∷ xs) l all together in_ shared =
    let over = and_parts (covers x key) (all_cover key xs) all in
    let beside = and_parts (list_all (stand_together x) xs) (are_compatible xs) together in
    ⊎_elim
    (λ same. and_from _ _ (ap (λ y. y.shared) same ∙ shared) (shared_beside key x xs over.0 over.1 beside.0))
    (λ more. and_from _ _ (both_shared key x l over.0 (all_in (λ y. covers y key) xs l over.1 more) (all_in (stand_together x) xs l beside.0 more)).0 (shared_there key xs l over.1 beside.1 more shared))
    in_

module _ (key : Key) (ls : List DavLock) (l : DavLock) (together : AreCompatible ls) (in_ : IsIn l (covering ls key)) where
  pub exclusive_alone : l.shared ≡ false → covering ls key ≡ l ∷ []
  exclusive_alone alone = alone_there key (covering ls key) l (all_kept (λ x. covers x key) ls) (compatible_filtered (λ x. covers x key) ls together) in_ alone

  pub shared_all : l.shared ≡ true → list_all (λ x. x.shared) (covering ls key) ≡ true
  shared_all shared = shared_there key (covering ls key) l (all_kept (λ x. covers x key) ls) (compatible_filtered (λ x. covers x key) ls together) in_ shared

-- ---- what they permit

not_empty : (ls : List DavLock) (l : DavLock) → IsIn l ls → (length ls == 0) ≡ false
not_empty [] l in_ = absurd in_
not_empty (x ∷ xs) l in_ = search (arith, nat_tests)

all_weaker : (p q : DavLock → Bool) → ((l : DavLock) → p l ≡ true → q l ≡ true) → (ls : List DavLock) → list_all p ls ≡ true → list_all q ls ≡ true
all_weaker p q h [] all = refl
all_weaker p q h (l ∷ ls) all = let both = and_parts (p l) (list_all p ls) all in and_from _ _ (h l both.0) (all_weaker p q h ls both.1)

pub permits_shared : (p : DavLock → Bool) (ls : List DavLock) (l : DavLock) → IsIn l ls → list_all (λ x. x.shared) ls ≡ true → permits_at ls p ≡ list_any p ls
permits_shared p ls l in_ shared =
    ap₂ (λ a b. a && (b || list_any p ls)) (all_weaker (λ x. x.shared) (λ x. x.shared || p x) (λ x e. ap (λ b. b || p x) e) ls shared) (not_empty ls l in_)

pub permits_alone : (p : DavLock → Bool) (ls : List DavLock) (l : DavLock) → ls ≡ l ∷ [] → l.shared ≡ false → permits_at ls p ≡ p l
permits_alone p ls l is alone =
    ap (λ xs. permits_at xs p) is
    ∙ ap (λ b. ((b || p l) && true) && (false || (p l || false))) alone
    ∙ once (p l)
  where
    once : (b : Bool) → (((false || b) && true) && (false || (b || false))) ≡ b
    once true = refl
    once false = refl

pub permits_none : (p : DavLock → Bool) (ls : List DavLock) → ls ≡ [] → permits_at ls p ≡ true
permits_none p ls is = ap (λ xs. permits_at xs p) is

-- ---- what a lock conflicts with

any_same : (p : DavLock → Bool) (b : Bool) (ls : List DavLock) (l : DavLock) → ((x : DavLock) → IsIn x ls → p x ≡ b) → IsIn l ls → list_any p ls ≡ b
any_same p b [] l h in_ = absurd in_
any_same p b (x ∷ []) l h in_ = ap (λ c. c || false) (h x (inl refl)) ∙ or_false b
any_same p b (x ∷ y ∷ ys) l h in_ = ap₂ (λ a c. a || c) (h x (inl refl)) (any_same p b (y ∷ ys) y (λ z more. h z (inr more)) (inl refl)) ∙ or_same b
  where
    or_same : (c : Bool) → (c || c) ≡ c
    or_same true = refl
    or_same false = refl

-- of those that cover a key with one, or with all
pub conflicts_with : (lock : DavLock) (key : Key) (ls : List DavLock) (l : DavLock) → AreCompatible ls → IsIn l (covering ls key) → conflicts lock l ≡ list_any (conflicts lock) (covering ls key)
conflicts_with lock key ls l together in_ =
    elim l.shared as (λ b. l.shared ≡ b → conflicts lock l ≡ list_any (conflicts lock) (covering ls key)) [
      | true ↦ λ shared. sym (any_same (conflicts lock) (conflicts lock l) (covering ls key) l (λ x there. ap (λ b. not (lock.shared && b)) (all_in (λ y. y.shared) (covering ls key) x (shared_all key ls l together in_ shared) there ∙ sym shared)) in_)
      | false ↦ λ alone. sym (ap (list_any (conflicts lock)) (exclusive_alone key ls l together in_ alone) ∙ or_false (conflicts lock l))
    ] refl

pub conflicts_none : (lock : DavLock) (ls : List DavLock) → ls ≡ [] → false ≡ list_any (conflicts lock) ls
conflicts_none lock ls is = sym (ap (list_any (conflicts lock)) is)

pub shared_conflicts_below : (lock : DavLock) (ls : List DavLock) → lock.shared ≡ true → list_any (among Exclusive (conflicts lock)) ls ≡ list_any (conflicts lock) ls
shared_conflicts_below lock ls is = any_agree (among Exclusive (conflicts lock)) (conflicts lock) (λ l. ap (λ b. not l.shared && not (b && l.shared)) is ∙ twice (not l.shared) ∙ sym (ap (λ b. not (b && l.shared)) is)) ls
  where
    twice : (b : Bool) → (b && b) ≡ b
    twice true = refl
    twice false = refl
