-- What a seal keeps after the digest of a row is put or removed.
use Rattle.std.proofs.Common.{◌≡◌, ℕ, ℤ, Bool, true, false, cond, ◌==◌, ◌&&◌, ◌+◌, ◌-◌, ◌*◌, ◌/◌, ◌%◌, ◌^◌, ◌<◌, ◌≤◌, T, List, [], ◌∷◌, ◌++◌, length, take, get_or, Option, refl, sym, ap, subst, ◌∙◌, int_cmp, Ordering, Less, Equal, Greater, arith, w64, to_z}
use Rattle.std.specs.Prelude.{FitsSigned, fold, unwrap_or}
use Rattle.std.specs.Int.{cast_unsigned}
use Rattle.std.specs.Cmp.{eq_by_cmp_equiv}
use Rattle.std.specs.Ordering.{is_eq, is_lt, eq_by_cmp, match_ordering}
use Rattle.std.specs.List.{AllByRecursion}
use Rattle.std.specs.List.Sorted.{IsStrictlySortedBy}
use Rattle.std.specs.Map.{keys_of, lookup, remove_entry}
use Rattle.std.specs.BTreeMap.{insert_entry, is_at}
use Rattle.std.specs.FinMap.{int_cmp-IsAntisymmetric}
use Rattle.std.specs.FinMap.Entries.{put, by_order, below_all, is_sorted, is_sorted-put}
use Rattle.std.proofs.Math.Facts.{Fits-of_z}
use Rattle.std.proofs.lemmas.Bool.{eq-eqb, ne_eqb}
use Rattle.std.proofs.lemmas.Cmp.{int_cmp_total}
use Rattle.std.proofs.lemmas.Int.{to_z-of_z}
use Rattle.std.proofs.lemmas.List.{take_more}
use Rattle.std.proofs.lemmas.List.Sums.{fold-append}
use Rattle.std.proofs.lemmas.Map.{lookup-remove_entry}
use Rattle.std.proofs.lemmas.Map.Keys.{IsDistinct-from_sorted}
use Rattle.dav_seal.specs.declared.table_seal.Numbering.{Numbering}
use Rattle.dav_seal.specs.declared.table_seal.Numbering.TheVariants.{Plain, Parts}
use Rattle.dav_seal.specs.declared.table_seal.TableSeal.{TableSeal}
use Rattle.dav_seal.specs.Puts.{put_all}
use Rattle.dav_seal.specs.Paged.{number_at, Writes}
use Rattle.dav_seal.specs.Held.{place_of, digest_at, listed_at, IsRising, HasDigests}
use Rattle.dav_seal.proofs.TotalLemmas.{total_of-insert_entry, total_of-remove_entry}

-- ---- different numbers have different places

unsigned-injective : (a b : ℤ) → FitsSigned w64 a → FitsSigned w64 b → cast_unsigned w64 a ≡ cast_unsigned w64 b → a ≡ b
unsigned-injective a b p q e = sym (to_z-of_z w64 a p) ∙ ap (to_z w64) e ∙ to_z-of_z w64 b q

halves-injective : (u v : ℕ) → u % 2 ^ 32 * 2 ^ 32 + u / 2 ^ 32 ≡ v % 2 ^ 32 * 2 ^ 32 + v / 2 ^ 32 → u < 2 ^ 64 → v < 2 ^ 64 → u ≡ v
halves-injective u v e p q = omega arith

pub place_of-injective : (numbering : Numbering) (a b : ℤ) → FitsSigned w64 a → FitsSigned w64 b → place_of numbering a ≡ place_of numbering b → a ≡ b
place_of-injective Plain a b p q e = unsigned-injective a b p q e
place_of-injective Parts a b p q e =
    unsigned-injective a b p q (halves-injective (cast_unsigned w64 a) (cast_unsigned w64 b) e (Fits-of_z p).fits (Fits-of_z q).fits)

-- ---- what a list has at a number

equal : (o : Ordering) → is_eq o ≡ true → o ≡ Equal
equal Less e = cc
equal Equal e = refl
equal Greater e = cc

same_number : (a b : ℤ) → eq_by_cmp int_cmp a b ≡ true → a ≡ b
same_number a b is = int_cmp-IsAntisymmetric a b (equal (int_cmp a b) is)

itself : (a b : ℤ) → a ≡ b → eq_by_cmp int_cmp a b ≡ true
itself a b e = ap (eq_by_cmp int_cmp a) (sym e) ∙ (eq_by_cmp_equiv int_cmp_total).refl a

-- a number that comes before another is not equal to it, nor to what is equal to that one
listed_at-insert_entry : (es : List (ℤ × ℕ)) (k q : ℤ) (v : ℕ) → listed_at (insert_entry int_cmp es k v) q ≡ cond (eq_by_cmp int_cmp q k) v (listed_at es q)
listed_at-insert_entry [] k q v = go (eq_by_cmp int_cmp q k)
  where
    go : (b : Bool) → unwrap_or (cond b (Option.Some v) Option.None) 0 ≡ cond b v 0
    go true = refl
    go false = refl
listed_at-insert_entry (e ∷ es) k q v = go (int_cmp k e.0) refl (listed_at-insert_entry es k q v)
  where
    first : (b : Bool) → unwrap_or (cond b (Option.Some v) (lookup (is_at (int_cmp q)) (e ∷ es))) 0 ≡ cond b v (listed_at (e ∷ es) q)
    first true = refl
    first false = refl

    instead : (b : Bool) → unwrap_or (cond b (Option.Some v) (lookup (is_at (int_cmp q)) es)) 0 ≡ cond b v (unwrap_or (cond b (Option.Some e.1) (lookup (is_at (int_cmp q)) es)) 0)
    instead true = refl
    instead false = refl

    later : (b c : Bool) (old new : Option ℕ) → (b ≡ true → c ≡ true → ⊥) → unwrap_or new 0 ≡ cond c v (unwrap_or old 0)
        → unwrap_or (cond b (Option.Some e.1) new) 0 ≡ cond c v (unwrap_or (cond b (Option.Some e.1) old) 0)
    later true true old new apart is = absurd (apart refl refl)
    later true false old new apart is = refl
    later false c old new apart is = is

    go : (o : Ordering) → int_cmp k e.0 ≡ o → listed_at (insert_entry int_cmp es k v) q ≡ cond (eq_by_cmp int_cmp q k) v (listed_at es q)
        → listed_at (match_ordering o ((k, v) ∷ e ∷ es) ((e.0, v) ∷ es) (e ∷ insert_entry int_cmp es k v)) q ≡ cond (eq_by_cmp int_cmp q k) v (listed_at (e ∷ es) q)
    go Less is more = first (eq_by_cmp int_cmp q k)
    go Equal is more =
        let same = int_cmp-IsAntisymmetric k e.0 is in
        instead (eq_by_cmp int_cmp q e.0) ∙ ap (λ x. cond (eq_by_cmp int_cmp q x) v (listed_at (e ∷ es) q)) (sym same)
    go Greater is more =
        later (eq_by_cmp int_cmp q e.0) (eq_by_cmp int_cmp q k) (lookup (is_at (int_cmp q)) es) (lookup (is_at (int_cmp q)) (insert_entry int_cmp es k v))
        (λ a b. let e : int_cmp k e.0 ≡ Equal = equal _ (itself k e.0 (sym (same_number q k b) ∙ same_number q e.0 a)) in cc (sym is ∙ e)) more

listed_at-remove_entry : (es : List (ℤ × ℕ)) (k q : ℤ) → IsRising es → listed_at (remove_entry (is_at (int_cmp k)) es) q ≡ cond (eq_by_cmp int_cmp k q) 0 (listed_at es q)
listed_at-remove_entry es k q rising =
    let laws = eq_by_cmp_equiv int_cmp_total in
    ap (λ o. unwrap_or o 0) (lookup-remove_entry laws (eq_by_cmp int_cmp k) (λ x y is. laws.congr k x y is) q es (IsDistinct-from_sorted int_cmp (keys_of es) rising))
    ∙ go (eq_by_cmp int_cmp k q) (lookup (is_at (int_cmp q)) es)
  where
    go : (b : Bool) (o : Option ℕ) → unwrap_or (cond b Option.None o) 0 ≡ cond b 0 (unwrap_or o 0)
    go true o = refl
    go false o = refl

-- ---- the digests after a change

module _ (old new : TableSeal) (k : ℤ) (fits : FitsSigned w64 k) (kind : new.numbering ≡ old.numbering) (ds : List (ℤ × ℕ)) (has : HasDigests old ds) where
  written : (v : ℕ) (after : List (ℤ × ℕ)) → Writes (place_of old.numbering k) v old.digests new.digests → ((q : ℤ) → listed_at after q ≡ cond (eq_by_cmp int_cmp q k) v (listed_at ds q))
      → (q : ℤ) → FitsSigned w64 q → digest_at new q ≡ listed_at after q
  written v after writes is q p =
      ap (λ n. number_at new.digests (place_of n q)) kind ∙ writes (place_of old.numbering q)
      ∙ ap (cond (place_of old.numbering k == place_of old.numbering q) v) (has.each q p)
      ∙ ap (λ b. cond b v (listed_at ds q)) (tests (eq_by_cmp int_cmp q k) refl) ∙ sym (is q)
    where
      tests : (b : Bool) → eq_by_cmp int_cmp q k ≡ b → (place_of old.numbering k == place_of old.numbering q) ≡ b
      tests true e = eq-eqb _ _ (ap (place_of old.numbering) (sym (same_number q k e)))
      tests false e = ne_eqb _ _ (λ same. let t = sym e ∙ itself q k (sym (place_of-injective old.numbering k q fits p same)) in cc t)

  pub put_has : (v was : ℕ) → IsRising ds → Writes (place_of old.numbering k) v old.digests new.digests → was ≡ digest_at old k → was ≤ 2 ^ 64
      → new.sum ≡ ((old.sum + (2 ^ 64 - was)) % 2 ^ 64 + v) % 2 ^ 64 → HasDigests new (insert_entry int_cmp ds k v)
  put_has v was rising writes is small sum = record {
    each = written v (insert_entry int_cmp ds k v) writes (λ q. listed_at-insert_entry ds k q v);
    sum = sum ∙ ap (λ n. ((n + (2 ^ 64 - was)) % 2 ^ 64 + v) % 2 ^ 64) has.sum ∙ total_of-insert_entry ds k v was rising (is ∙ has.each k fits) small;
  }

  pub removed_has : (was : ℕ) → IsRising ds → Writes (place_of old.numbering k) 0 old.digests new.digests → was ≡ digest_at old k → was ≤ 2 ^ 64
      → new.sum ≡ (old.sum + (2 ^ 64 - was)) % 2 ^ 64 → HasDigests new (remove_entry (is_at (int_cmp k)) ds)
  removed_has was rising writes is small sum = record {
    each = written 0 (remove_entry (is_at (int_cmp k)) ds) writes (λ q. listed_at-remove_entry ds k q rising ∙ ap (λ b. cond b 0 (listed_at ds q)) ((eq_by_cmp_equiv int_cmp_total).symm k q));
    sum = sum ∙ ap (λ n. (n + (2 ^ 64 - was)) % 2 ^ 64) has.sum ∙ total_of-remove_entry ds k was (is ∙ has.each k fits) small;
  }

-- ---- numbers that rise

both : (a b : Bool) → T (a && b) → T a × T b
both true b p = (tt, p)
both false b p = absurd p

less : (o : Ordering) → T (is_lt o) → o ≡ Less
less Less p = refl
less Equal p = absurd p
less Greater p = absurd p

above : (k : ℤ) (es : List (ℤ × ℕ)) → T (below_all int_cmp k es) → AllByRecursion (λ y. int_cmp k y ≡ Less) (keys_of es)
above k [] p = tt
above k (e ∷ es) p = (less _ (both _ _ p).0, above k es (both _ _ p).1)

pub rising-from_sorted : (es : List (ℤ × ℕ)) → T (is_sorted int_cmp es) → IsRising es
unfolding IsStrictlySortedBy
rising-from_sorted [] p = tt
rising-from_sorted (e ∷ es) p = (above e.0 es (both _ _ p).0, rising-from_sorted es (both _ _ p).1)

insert_entry-put : (es : List (ℤ × ℕ)) (k : ℤ) (v : ℕ) → insert_entry int_cmp es k v ≡ put int_cmp k v es
insert_entry-put [] k v = refl
insert_entry-put (e ∷ es) k v = go (int_cmp k e.0) (insert_entry-put es k v)
  where
    go : (o : Ordering) → insert_entry int_cmp es k v ≡ put int_cmp k v es
        → match_ordering o ((k, v) ∷ e ∷ es) ((e.0, v) ∷ es) (e ∷ insert_entry int_cmp es k v) ≡ by_order o ((k, v) ∷ e ∷ es) ((e.0, v) ∷ es) (e ∷ put int_cmp k v es)
    go Less more = refl
    go Equal more = refl
    go Greater more = ap (λ l. e ∷ l) more

-- ---- one row more

next_row : {R : Type 0} (rows : List R) (i : ℕ) (r : R) → i < length rows → r ≡ get_or rows i r → take (i + 1) rows ≡ take i rows ++ r ∷ []
next_row rows i r low is = take_more rows i r low ∙ ap (λ x. take i rows ++ x ∷ []) (sym is)

All-last : {R : Type 0} (P : R → Type 0) (rows : List R) (r : R) → AllByRecursion P rows → P r → AllByRecursion P (rows ++ r ∷ [])
All-last P [] r all here = (here, tt)
All-last P (x ∷ rows) r all here = (all.0, All-last P rows r all.1 here)

pub All-next : {R : Type 0} (P : R → Type 0) (rows : List R) (i : ℕ) (r : R) → i < length rows → r ≡ get_or rows i r → AllByRecursion P (take i rows) → P r → AllByRecursion P (take (i + 1) rows)
All-next P rows i r low is all here = subst (AllByRecursion P) (sym (next_row rows i r low is)) (All-last P (take i rows) r all here)

module _ {R : Type 0} (number : R → ℤ) (digest : R → ℕ) where
  put_on-sorted : (es : List (ℤ × ℕ)) (rows : List R) → T (is_sorted int_cmp es) → T (is_sorted int_cmp (fold (λ s r. insert_entry int_cmp s (number r) (digest r)) es rows))
  put_on-sorted es [] p = p
  put_on-sorted es (r ∷ rows) p =
      put_on-sorted (insert_entry int_cmp es (number r) (digest r)) rows
      (subst (λ l. T (is_sorted int_cmp l)) (sym (insert_entry-put es (number r) (digest r))) (is_sorted-put int_cmp int_cmp_total (number r) (digest r) es p))

  pub put_all-rising : (rows : List R) → IsRising (put_all number digest rows)
  put_all-rising rows = rising-from_sorted (put_all number digest rows) (put_on-sorted [] rows tt)

  pub put_all-next : (rows : List R) (i : ℕ) (r : R) → i < length rows → r ≡ get_or rows i r
      → put_all number digest (take (i + 1) rows) ≡ insert_entry int_cmp (put_all number digest (take i rows)) (number r) (digest r)
  put_all-next rows i r low is =
      ap (put_all number digest) (next_row rows i r low is) ∙ fold-append (λ s r. insert_entry int_cmp s (number r) (digest r)) [] (take i rows) (r ∷ [])
