-- Locks of one system are granted one after the other.
use Rattle.std.proofs.Common.{◌≡◌, ◌∙◌, inl, inr, ℕ, Bool, true, false, cond, not, ◌&&◌, ◌||◌, List, [], ◌∷◌, ◌++◌, map, filter, refl, sym, ap, ap₂, subst}
use Rattle.std.proofs.lemmas.Bool.{and_parts, and_from}
use Rattle.std.proofs.lemmas.List.Folds.{list_all-append}
use Rattle.std.proofs.lemmas.Slice.Eq.{bytes_eq-Decides}
use Rattle.std.specs.List.{AllByRecursion, IsDistinct, list_all, list_any}
use Rattle.std.specs.Prelude.{bytes_eq}
use Rattle.dav_cells.specs.Locks.{kept_lock}
use Rattle.dav_store.specs.LockCalls.{HasDistinctTokens, RefusesLock}
use Rattle.dav_store.specs.Locks.{Locks, covers, covering, at_or_below, is_at_or_below, conflicts, has_token, grants, stand_together, are_compatible, AreCompatible}
use Rattle.dav_store.specs.declared.lock.DavLock.{DavLock}
use Rattle.dav_store.specs.declared.lock.LockError.TheVariants.{Memory}
use Rattle.dav_store.specs.declared.lock.LockError.{LockError}

abbrev token : DavLock → List ℕ
token lock = lock.token

-- ---- tokens

all_at : (P : List ℕ → Type 0) (done : List DavLock) (lock : DavLock) (rest : List DavLock) → AllByRecursion P (map token (done ++ lock ∷ rest)) → P lock.token
all_at P [] lock rest all = all.0
all_at P (other ∷ done) lock rest all = all_at P done lock rest all.1

other_way : (a b : List ℕ) → bytes_eq a b ≡ false → bytes_eq b a ≡ false
other_way a b apart = by (bytes_eq b a) refl
  where
    by : (e : Bool) → bytes_eq b a ≡ e → e ≡ false
    by false is = refl
    by true is = absurd (let same = (bytes_eq-Decides b a).0 is in let also = (bytes_eq-Decides a b).1 (sym same) in cc)

unused : (done : List DavLock) (lock : DavLock) (rest : List DavLock) → HasDistinctTokens (done ++ lock ∷ rest) → list_any (has_token lock.token) done ≡ false
unfolding IsDistinct
unused [] lock rest distinct = refl
unused (other ∷ done) lock rest distinct =
    ap₂ (λ a b. a || b) (other_way other.token lock.token (all_at (λ t. bytes_eq other.token t ≡ false) done lock rest distinct.0)) (unused done lock rest distinct.1)

-- ---- conflicts

stands : (done : List DavLock) (lock : DavLock) (rest : List DavLock) → AreCompatible (done ++ lock ∷ rest) → list_all (λ other. stand_together other lock) done ≡ true
stands [] lock rest h = refl
stands (other ∷ done) lock rest h =
    let both = and_parts (list_all (stand_together other) (done ++ lock ∷ rest)) (are_compatible (done ++ lock ∷ rest)) h in
    let parts = and_parts (list_all (stand_together other) done) (list_all (stand_together other) (lock ∷ rest)) (sym (list_all-append (stand_together other) done (lock ∷ rest)) ∙ both.0) in
    and_from _ _ (and_parts (stand_together other lock) (list_all (stand_together other) rest) parts.1).0 (stands done lock rest both.1)

never : (b : Bool) → (b && false) ≡ false
never true = refl
never false = refl

turned : (x y : Bool) → not (x && y) ≡ not (y && x)
turned true true = refl
turned true false = refl
turned false true = refl
turned false false = refl

neither : (over deep below same k : Bool) → not ((over || cond deep below same) && k) ≡ true → ((over && k) ≡ false) × (((deep && below) && k) ≡ false)
neither true deep below same true e = absurd cc
neither true deep below same false e = (refl, never (deep && below))
neither false true true same true e = absurd cc
neither false true true same false e = (refl, refl)
neither false true false same k e = (refl, refl)
neither false false below same k e = (refl, refl)

apart : (lock other : DavLock) → stand_together other lock ≡ true
    → ((covers other lock.path.key && conflicts lock other) ≡ false) × (((lock.deep && is_at_or_below other.path.key lock.path.key) && conflicts lock other) ≡ false)
apart lock other together =
    neither (covers other lock.path.key) lock.deep (is_at_or_below other.path.key lock.path.key) _ (conflicts lock other)
    (ap (λ k. not ((covers other lock.path.key || covers lock other.path.key) && k)) (turned lock.shared other.shared) ∙ together)

none_kept : (kept : DavLock → Bool) (lock other : DavLock) (done : List DavLock) → (kept other && conflicts lock other) ≡ false
    → list_any (conflicts lock) (filter kept done) ≡ false → list_any (conflicts lock) (filter kept (other ∷ done)) ≡ false
none_kept kept lock other done first rest = by (kept other) first
  where
    by : (k : Bool) → (k && conflicts lock other) ≡ false → list_any (conflicts lock) (cond k (other ∷ filter kept done) (filter kept done)) ≡ false
    by true apart_is = ap₂ (λ a b. a || b) apart_is rest
    by false apart_is = rest

above : (lock : DavLock) (done : List DavLock) → list_all (λ other. stand_together other lock) done ≡ true → list_any (conflicts lock) (covering done lock.path.key) ≡ false
above lock [] h = refl
above lock (other ∷ done) h =
    let both = and_parts (stand_together other lock) _ h in
    none_kept (λ o. covers o lock.path.key) lock other done (apart lock other both.0).0 (above lock done both.1)

below : (lock : DavLock) (done : List DavLock) → list_all (λ other. stand_together other lock) done ≡ true
    → (lock.deep && list_any (conflicts lock) (at_or_below done lock.path.key)) ≡ false
below lock done h = by lock.deep (λ other together. (apart lock other together).1)
  where
    all : (done : List DavLock) → list_all (λ other. stand_together other lock) done ≡ true
        → ((other : DavLock) → stand_together other lock ≡ true → (is_at_or_below other.path.key lock.path.key && conflicts lock other) ≡ false)
        → list_any (conflicts lock) (at_or_below done lock.path.key) ≡ false
    all [] h each = refl
    all (other ∷ done) h each =
        let both = and_parts (stand_together other lock) _ h in
        none_kept (λ o. is_at_or_below o.path.key lock.path.key) lock other done (each other both.0) (all done both.1 each)

    by : (deep : Bool) → ((other : DavLock) → stand_together other lock ≡ true → ((deep && is_at_or_below other.path.key lock.path.key) && conflicts lock other) ≡ false)
        → (deep && list_any (conflicts lock) (at_or_below done lock.path.key)) ≡ false
    by true each = all done h each
    by false each = refl

granting : (a b c : Bool) → a ≡ false → b ≡ false → c ≡ false → (not a && not b && not c) ≡ true
granting a b c p q r = ap₂ (λ x y. x && not y) (ap₂ (λ x y. not x && not y) p q) r

-- the locks before a lock of the system grant it
pub grants_next : (done : List DavLock) (lock : DavLock) (rest : List DavLock) → HasDistinctTokens (done ++ lock ∷ rest) → AreCompatible (done ++ lock ∷ rest) → grants done lock ≡ true
grants_next done lock rest distinct compatible =
    let each = stands done lock rest compatible in
    granting _ _ _ (unused done lock rest distinct) (above lock done each) (below lock done each)

-- a lock of the system is refused only if memory runs out
pub refused : (done : Locks) (lock : DavLock) (left more all : List DavLock) (e : LockError) → done.list ++ left ≡ all → left ≡ lock ∷ more → RefusesLock done lock e
    → HasDistinctTokens all → AreCompatible all → e ≡ Memory
refused done lock left more all e parts is (inl memory) distinct compatible = memory
refused done lock left more all e parts is (inr conflict) distinct compatible =
    let split : done.list ++ lock ∷ more ≡ all = ap (λ ls. done.list ++ ls) (sym is) ∙ parts in
    let granted = grants_next done.list lock more (subst HasDistinctTokens (sym split) distinct) (subst AreCompatible (sym split) compatible) in
    absurd (let clash : true ≡ false = sym granted ∙ conflict.1 in cc)

-- ---- the same of locks that were kept

abbrev kept_all : List DavLock → List DavLock
kept_all locks = map kept_lock locks

same_tests : (lock : DavLock) (locks : List DavLock) → list_all (stand_together (kept_lock lock)) (kept_all locks) ≡ list_all (stand_together lock) locks
same_tests lock [] = refl
same_tests lock (other ∷ locks) = ap (λ b. stand_together lock other && b) (same_tests lock locks)

pub kept_compatible : (locks : List DavLock) → are_compatible (kept_all locks) ≡ are_compatible locks
kept_compatible [] = refl
kept_compatible (lock ∷ locks) = ap₂ (λ a b. a && b) (same_tests lock locks) (kept_compatible locks)

pub kept_tokens : (locks : List DavLock) → map token (kept_all locks) ≡ map token locks
kept_tokens [] = refl
kept_tokens (lock ∷ locks) = ap (λ ts. lock.token ∷ ts) (kept_tokens locks)
