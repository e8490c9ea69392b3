-- Entries of a map of keys from a key on: in the keys' order those at that key and below it stand together.
use Rattle.std.proofs.Common.{◌≡◌, ◌∙◌, ◌&&◌, ℕ, Bool, true, false, cond, bytes_eq, List, [], ◌∷◌, Some, refl, sym, ap, ap₂, subst}
use Rattle.std.proofs.lemmas.Bool.{and_parts}
use Rattle.std.proofs.lemmas.List.Elements.{recursion_from_All, filter_passes}
use Rattle.std.proofs.lemmas.List.Kept.{IsStrictlySortedBy-filter}
use Rattle.std.specs.declared.cmp.Ordering.{Ordering}
use Rattle.std.specs.declared.cmp.Ordering.TheVariants.{Less, Equal, Greater}
use Rattle.std.specs.declared.ops.Bound.{Bound}
use Rattle.std.specs.declared.ops.Bound.TheVariants.{Included, Unbounded}
use Rattle.std.specs.BTreeMap.{BTreeMap, get, IsOrdered}
use Rattle.std.specs.BTreeMap.Range.{entries_between, range_contains, IsEntryInRange}
use Rattle.std.specs.Cmp.{tied_itself}
use Rattle.std.specs.Cmp.Lexicographic.{slice_cmp, nat_list_cmp_total, bytes_decides}
use Rattle.std.specs.FinMap as fin
use Rattle.std.specs.List.{All, AllByRecursion, filter}
use Rattle.std.specs.List.Sorted.{IsStrictlySortedBy}
use Rattle.std.specs.Map.{keys_of}
use Rattle.std.specs.Ordering.{nat_cmp, is_le, ordering_then, ordering_reverse}
use Rattle.dav_key.specs.Key.{Key, key_cmp, is_same_key, same_key_decides}
use Rattle.dav_key.specs.Flat.{flat, segments_of, is_text_below, IsFlatText}
use Rattle.dav_key.specs.FlatLaws.{flat_below}
use Rattle.dav_store.specs.Locks.{is_at_or_below}
use Rattle.dav_memls.specs.declared.memory_locks.by_key.ByKey.{ByKey}
use Rattle.dav_memls.specs.declared.memory_locks.numbers.Numbers.{Numbers}
use Rattle.dav_memls.specs.ByKey.{HasRun}
use Rattle.dav_memls.specs.KeyEntries.{OwnKey, own_text, own_key, own_cmp, is_text_of, numbers_in, AreFlat}
use Rattle.dav_memls.proofs.ByKeys.{text_cmp, got}

-- ---- at or below

-- as texts answer
pub text_below : (text other : List ℕ) → IsFlatText text → IsFlatText other → is_text_below text other ≡ is_at_or_below (segments_of text) (segments_of other)
text_below text other is above = ap₂ is_text_below (sym is.same) (sym above.same) ∙ flat_below (segments_of text) (segments_of other) is.plain above.plain

-- ---- the order

abbrev bytes_cmp : List ℕ → List ℕ → Ordering
bytes_cmp = slice_cmp nat_cmp

tied_bytes : (s f : List ℕ) → bytes_eq s f ≡ true → bytes_cmp s f ≡ Equal
tied_bytes s f t = subst (λ x. bytes_cmp s x ≡ Equal) ((bytes_decides s f).0 t) (tied_itself nat_list_cmp_total s)

bytes_exact : fin.IsAntisymmetric bytes_cmp
bytes_exact = fin.slice_cmp-IsAntisymmetric fin.nat_cmp-IsAntisymmetric

-- behind a segment that is the same
shared : (s f : List ℕ) (xs ys : Key) → bytes_eq s f ≡ true → key_cmp (s ∷ xs) (f ∷ ys) ≡ key_cmp xs ys
shared s f xs ys t = ap (λ r. ordering_then r (key_cmp xs ys)) (tied_bytes s f t)

not_both : (b c : Bool) → (b ≡ true → c ≡ false) → (b && c) ≡ false
not_both true c h = h refl
not_both false c h = refl

-- no key before another is below it
pub not_before : (above key : Key) → is_le (key_cmp above key) ≡ false → is_at_or_below key above ≡ false
not_before [] [] e = absurd cc
not_before [] (f ∷ key) e = absurd cc
not_before (s ∷ above) [] e = refl
not_before (s ∷ above) (f ∷ key) e = not_both (bytes_eq s f) (is_at_or_below key above) (λ t. not_before above key (sym (ap is_le (shared s f above key t)) ∙ e))

same_bytes : (s f g : List ℕ) → bytes_eq s f ≡ true → bytes_eq s g ≡ true → bytes_eq f g ≡ true
same_bytes s f g a b = (bytes_decides f g).1 (sym ((bytes_decides s f).0 a) ∙ (bytes_decides s g).0 b)

clash : (r u v : Ordering) → (r ≡ Equal → ⊥) → is_le (ordering_then r u) ≡ true → ordering_then (ordering_reverse r) v ≡ Less → ⊥
clash Less u v apart p l = cc
clash Equal u v apart p l = apart refl
clash Greater u v apart p l = cc

-- behind the first key from a key on that isn't below it, none is
pub none_behind : (above first key : Key) → is_le (key_cmp above first) ≡ true → is_at_or_below first above ≡ false → key_cmp first key ≡ Less → is_at_or_below key above ≡ false
none_behind [] first key p h l = absurd cc
none_behind (s ∷ above) [] key p h l = absurd cc
none_behind (s ∷ above) (f ∷ first) [] p h l = refl
none_behind (s ∷ above) (f ∷ first) (g ∷ key) p h l =
    not_both (bytes_eq s g) (is_at_or_below key above) (within (λ e t. none_behind above first key
    (sym (ap is_le (shared s f above first e)) ∙ p)
    (ap (λ c. c && is_at_or_below first above) (sym e) ∙ h)
    (sym (shared f g first key (same_bytes s f g e t)) ∙ l)) (bytes_eq s f) refl)
  where
    within : (bytes_eq s f ≡ true → bytes_eq s g ≡ true → is_at_or_below key above ≡ false) → (c : Bool) → bytes_eq s f ≡ c → bytes_eq s g ≡ true → is_at_or_below key above ≡ false
    within deeper true e t = deeper e t
    within deeper false e t = absurd (clash (bytes_cmp s f) (key_cmp above first) (key_cmp first key)
        (λ q. (let both : true ≡ false = sym ((bytes_decides s f).1 (bytes_exact s f q)) ∙ e in cc))
        p
        (ap (λ r. ordering_then r (key_cmp first key)) (sym (nat_list_cmp_total.antisymm f s) ∙ ap (bytes_cmp f) ((bytes_decides s g).0 t)) ∙ l))

-- ---- a part of the entries, by a test of their keys

keys-filter : (q : OwnKey → Bool) (es : List (OwnKey × Numbers)) → keys_of (filter (λ e. q e.0) es) ≡ filter q (keys_of es)
keys-filter q [] = refl
keys-filter q (e ∷ es) = split (q e.0) (keys-filter q es)
  where
    split : (b : Bool) → keys_of (filter (λ x. q x.0) es) ≡ filter q (keys_of es) → keys_of (cond b (e ∷ filter (λ x. q x.0) es) (filter (λ x. q x.0) es)) ≡ cond b (e.0 ∷ filter q (keys_of es)) (filter q (keys_of es))
    split true is = ap (λ ks. e.0 ∷ ks) is
    split false is = is

-- whether the entry's key has the text of a key
abbrev IsFlatEntry : OwnKey × Numbers → Type 0
IsFlatEntry e = IsFlatText (own_text e.0)

found-part : (q : OwnKey → Bool) (k : Key) (es : List (OwnKey × Numbers)) → AllByRecursion IsFlatEntry es → ((own : OwnKey) → IsFlatText (own_text own) → is_text_of k (own_text own) ≡ true → q own ≡ true) → numbers_in (filter (λ e. q e.0) es) k ≡ numbers_in es k
found-part q k [] is h = refl
found-part q k (e ∷ es) is h = split (is_text_of k (own_text e.0)) (q e.0) refl (h e.0 is.0) (found-part q k es is.1 h)
  where
    split : (a b : Bool) → is_text_of k (own_text e.0) ≡ a → (a ≡ true → b ≡ true) → numbers_in (filter (λ x. q x.0) es) k ≡ numbers_in es k → numbers_in (cond b (e ∷ filter (λ x. q x.0) es) (filter (λ x. q x.0) es)) k ≡ numbers_in (e ∷ es) k
    split true true at in_part more = rw at refl
    split true false at in_part more = absurd (let no : false ≡ true = in_part refl in cc)
    split false true at in_part more = rw at more
    split false false at in_part more = rw at more

each_flat : (es : List (OwnKey × Numbers)) → AllByRecursion (λ own. IsFlatText (own_text own)) (keys_of es) → AllByRecursion IsFlatEntry es
each_flat [] a = tt
each_flat (e ∷ es) a = (a.0, each_flat es a.1)

each_part : (q : OwnKey × Numbers → Bool) (es : List (OwnKey × Numbers)) → AllByRecursion IsFlatEntry es → AllByRecursion IsFlatEntry (filter q es)
each_part q [] a = tt
each_part q (e ∷ es) a = split (q e) (each_part q es a.1)
  where
    split : (b : Bool) → AllByRecursion IsFlatEntry (filter q es) → AllByRecursion IsFlatEntry (cond b (e ∷ filter q es) (filter q es))
    split true more = (a.0, more)
    split false more = more

each_own : (m : BTreeMap OwnKey Numbers) (run : List (OwnKey × Numbers)) → AllByRecursion IsFlatEntry run → AllByRecursion (λ e. get own_cmp m e.0 ≡ Some e.1) run → AllByRecursion (λ e. numbers_in m.entries (own_key e.0) ≡ e.1.set.keys) run
each_own m [] is a = tt
each_own m (e ∷ run) is a = (sym (got (own_text e.0) m.entries (Some e.1) is.0 (sym a.0)), each_own m run is.1 a.1)

each_kept : (m : BTreeMap OwnKey Numbers) (low high : Bound OwnKey) (run : List (OwnKey × Numbers)) → AllByRecursion (IsEntryInRange own_cmp low high m) run → AllByRecursion (λ e. get own_cmp m e.0 ≡ Some e.1) run
each_kept m low high [] a = tt
each_kept m low high (e ∷ run) a = (a.0.1, each_kept m low high run a.1)

-- from a key on, no key at it or below it is left out
from_key : (start own : OwnKey) → IsFlatText (own_text start) → IsFlatText (own_text own) → is_at_or_below (own_key own) (own_key start) ≡ true → range_contains own_cmp (Included start) Unbounded own ≡ true
from_key start own is_start is_own below = split (is_le (own_cmp start own)) refl
  where
    split : (b : Bool) → is_le (own_cmp start own) ≡ b → (b && true) ≡ true
    split true e = refl
    split false e = absurd (let no : false ≡ true = sym (not_before (own_key start) (own_key own) (sym (ap is_le (text_cmp (own_text start) (own_text own) is_start is_own)) ∙ e)) ∙ below in cc)

-- and each is at that key or after it
each_from : (start : OwnKey) (run : List (OwnKey × Numbers)) → IsFlatText (own_text start) → AllByRecursion IsFlatEntry run → AllByRecursion (λ e. range_contains own_cmp (Included start) Unbounded e.0 ≡ true) run → AllByRecursion (λ e. is_le (key_cmp (own_key start) (own_key e.0)) ≡ true) run
each_from start [] is flats a = tt
each_from start (e ∷ run) is flats a = (sym (ap is_le (text_cmp (own_text start) (own_text e.0) is flats.0)) ∙ (and_parts (is_le (own_cmp start e.0)) true a.0).0, each_from start run is flats.1 a.1)

pub run-from : (start : OwnKey) (register : ByKey) (run : List (OwnKey × Numbers)) → IsFlatText (own_text start) → IsOrdered own_cmp register.map → AreFlat (keys_of register.map.entries) → run ≡ entries_between own_cmp (Included start) Unbounded register.map.entries → All (IsEntryInRange own_cmp (Included start) Unbounded register.map) run → HasRun (own_key start) register run
run-from start register run is_start ordered plain is kept = record {
  ordered = subst (λ es. IsStrictlySortedBy own_cmp (keys_of es)) (sym is) (subst (IsStrictlySortedBy own_cmp) (sym (keys-filter inside register.map.entries)) (IsStrictlySortedBy-filter own_cmp inside (keys_of register.map.entries) ordered));
  flat = flat_run;
  from = each_from start run is_start flat_run (subst (AllByRecursion (λ e. inside e.0 ≡ true)) (sym is) (recursion_from_All (λ e. inside e.0 ≡ true) (filter (λ e. inside e.0) register.map.entries) (filter_passes (λ e. inside e.0) register.map.entries)));
  own = each_own register.map run flat_run (each_kept register.map (Included start) Unbounded run (recursion_from_All (IsEntryInRange own_cmp (Included start) Unbounded register.map) run kept));
  all = λ k below. ap (λ es. numbers_in es k) is ∙ all_found k below;
}
  where
    inside : OwnKey → Bool
    inside = range_contains own_cmp (Included start) Unbounded

    flat_all : AllByRecursion IsFlatEntry register.map.entries
    flat_all = each_flat register.map.entries (recursion_from_All (λ own. IsFlatText (own_text own)) (keys_of register.map.entries) plain)

    flat_run : AllByRecursion IsFlatEntry run
    flat_run = subst (AllByRecursion IsFlatEntry) (sym is) (each_part (λ e. inside e.0) register.map.entries flat_all)

    all_found : (k : Key) → is_at_or_below k (own_key start) ≡ true → numbers_in (filter (λ e. inside e.0) register.map.entries) k ≡ numbers_in register.map.entries k
    all_found k below = found-part inside k register.map.entries flat_all (λ own own_is at.
        from_key start own is_start own_is (subst (λ x. is_at_or_below x (own_key start) ≡ true) ((same_key_decides k (own_key own)).0 (and_parts (is_same_key k (own_key own)) (bytes_eq (flat k) (own_text own)) at).0) below))
