-- The look for a lock that covers a key: at the key, and then for a deep one from the root on.
use Rattle.std.proofs.Common.{◌≡◌, ◌∙◌, inl, inr, ⊎_elim, ℕ, zero, suc, Bool, true, false, cond, ◌||◌, List, [], ◌∷◌, Some, None, refl, sym, ap, ap₂}
use Rattle.std.proofs.lemmas.Bool.{and_parts}
use Rattle.std.specs.List.{AllByRecursion, filter, find, list_any}
use Rattle.dav_key.specs.Key.{Key, is_same_key, same_key_decides}
use Rattle.dav_store.specs.declared.lock.DavLock.{DavLock}
use Rattle.dav_store.specs.Locks.{is_at_or_below, covers, covering}
use Rattle.dav_store.specs.Members.{IsIn}
use Rattle.dav_memls.specs.declared.memory_locks.index.Register.TheVariants.{Deep}
use Rattle.dav_memls.specs.LockIndex.{among, is_of_key}
use Rattle.dav_memls.specs.KeyText.{ends_at}
use Rattle.dav_memls.proofs.CoveringLocks.{any_agree, any_or}
use Rattle.dav_memls.proofs.CoveringNumbers.{reached_covers, covers_own, covers_more, covers_same}
use Rattle.dav_memls.proofs.Reached.{at_itself}

-- ---- the first lock that passes a test

pub find_none : (test : DavLock → Bool) (ls : List DavLock) → None ≡ find test ls → list_any test ls ≡ false
find_none test [] e = refl
find_none test (l ∷ ls) e = elim (test l) as (λ b. None ≡ cond b (Some l) (find test ls) → (b || list_any test ls) ≡ false) [
  | true ↦ λ e. absurd cc
  | false ↦ λ e. find_none test ls e
] e

pub find_some : (test : DavLock → Bool) (ls : List DavLock) (l : DavLock) → Some l ≡ find test ls → (test l ≡ true) × IsIn l ls
find_some test [] l e = absurd cc
find_some test (x ∷ xs) l e = elim (test x) as (λ b. test x ≡ b → Some l ≡ cond b (Some x) (find test xs) → (test l ≡ true) × IsIn l (x ∷ xs)) [
  | true ↦ λ is e. (let same : x ≡ l = cc in (ap test (sym same) ∙ is, inl same))
  | false ↦ λ is e. (let more = find_some test xs l e in (more.0, inr more.1))
] refl e

-- ---- it covers the key

pub in_covering : (key : Key) (ls : List DavLock) (l : DavLock) → covers l key ≡ true → IsIn l ls → IsIn l (covering ls key)
in_covering key [] l over in_ = absurd in_
in_covering key (x ∷ xs) l over in_ = elim (covers x key) as (λ b. covers x key ≡ b → IsIn l (cond b (x ∷ covering xs key) (covering xs key))) [
  | true ↦ λ is. ⊎_elim (λ same. inl same) (λ more. inr (in_covering key xs l over more)) in_
  | false ↦ λ is. ⊎_elim (λ same. absurd (let no : true ≡ false = sym over ∙ ap (λ y. covers y key) (sym same) ∙ is in cc)) (λ more. in_covering key xs l over more) in_
] refl

-- as one at it does
pub own_covers : (key : Key) (l : DavLock) → is_of_key key l ≡ true → covers l key ≡ true
own_covers key l e = elim l.deep as (λ b. cond b (is_at_or_below key l.path.key) (is_same_key key l.path.key) ≡ true) [
  | true ↦ ap (is_at_or_below key) (sym ((same_key_decides key l.path.key).0 e)) ∙ at_itself key
  | false ↦ e
]

-- and a deep one above it
pub deep_covers : (n : ℕ) (key before : Key) (l : DavLock) → ((above : Key) → ends_at key n above ≡ is_same_key before above) → among Deep (is_of_key before) l ≡ true → covers l key ≡ true
deep_covers n key before l only e =
    let both = and_parts l.deep (is_of_key before l) e in
    ap (λ b. cond b (is_at_or_below key l.path.key) (is_same_key key l.path.key)) both.0
    ∙ (and_parts (is_at_or_below key l.path.key) _ (only l.path.key ∙ both.1)).0

-- ---- none does

pub none_at : (key : Key) (ls : List DavLock) → list_any (is_of_key key) ls ≡ false → list_any (reached_covers zero key) ls ≡ false
none_at key ls none = any_agree (reached_covers zero key) (is_of_key key) (λ l. sym (covers_own key l)) ls ∙ none

pub none_more : (n : ℕ) (key before : Key) (ls : List DavLock) → ((above : Key) → ends_at key n above ≡ is_same_key before above) → list_any (reached_covers n key) ls ≡ false → list_any (among Deep (is_of_key before)) ls ≡ false → list_any (reached_covers (suc n) key) ls ≡ false
none_more n key before ls only earlier here =
    any_agree (reached_covers (suc n) key) (λ l. reached_covers n key l || among Deep (is_of_key before) l) (λ l. sym (covers_more n key before l (only l.path.key))) ls
    ∙ any_or (reached_covers n key) (among Deep (is_of_key before)) ls
    ∙ ap₂ (λ x y. x || y) earlier here

pub none_same : (n : ℕ) (key : Key) (ls : List DavLock) → ((above : Key) → ends_at key n above ≡ false) → list_any (reached_covers n key) ls ≡ false → list_any (reached_covers (suc n) key) ls ≡ false
none_same n key ls none earlier = any_agree (reached_covers (suc n) key) (reached_covers n key) (λ l. sym (covers_same n key l (none l.path.key))) ls ∙ earlier

pub none_covers : (m : ℕ) (key : Key) (ls : List DavLock) → AllByRecursion (λ (l : DavLock). reached_covers m key l ≡ covers l key) ls → list_any (reached_covers m key) ls ≡ false → covering ls key ≡ []
none_covers m key ls all none = kept_none (λ l. covers l key) ls (sym (agree ls all) ∙ none)
  where
    agree : (xs : List DavLock) → AllByRecursion (λ (l : DavLock). reached_covers m key l ≡ covers l key) xs → list_any (reached_covers m key) xs ≡ list_any (λ l. covers l key) xs
    agree [] a = refl
    agree (x ∷ xs) a = ap₂ (λ b c. b || c) a.0 (agree xs a.1)

    kept_none : (test : DavLock → Bool) (xs : List DavLock) → list_any test xs ≡ false → filter test xs ≡ []
    kept_none test [] e = refl
    kept_none test (x ∷ xs) e = elim (test x) as (λ b. (b || list_any test xs) ≡ false → cond b (x ∷ filter test xs) (filter test xs) ≡ []) [
      | true ↦ λ e. absurd cc
      | false ↦ λ e. kept_none test xs e
    ] e
