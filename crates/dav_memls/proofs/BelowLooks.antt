-- The look for locks at a key and below it: through the entries of the index from that key on.
use Rattle.std.proofs.Common.{◌≡◌, ◌∙◌, ◌&&◌, ◌||◌, ℕ, Bool, true, false, cond, List, [], ◌∷◌, Some, None, bytes_eq, refl, sym, ap, ap₂, subst, slice_get}
use Rattle.std.proofs.lemmas.Bool.{and_parts}
use Rattle.std.proofs.lemmas.Map.Keys.{sorted_head, sorted_tail}
use Rattle.std.specs.declared.cmp.Ordering.TheVariants.{Less}
use Rattle.std.specs.List.{AllByRecursion, filter, list_any}
use Rattle.std.specs.List.Sorted.{IsStrictlySortedBy}
use Rattle.std.specs.Map.{keys_of, values_of}
use Rattle.std.specs.Ordering.{is_le}
use Rattle.dav_key.specs.Key.{Key, key_cmp, is_same_key, same_key_decides}
use Rattle.dav_key.specs.Flat.{flat, is_text_below, IsFlatText}
use Rattle.dav_store.specs.declared.lock.DavLock.{DavLock}
use Rattle.dav_store.specs.Locks.{is_at_or_below, at_or_below}
use Rattle.dav_memls.specs.declared.memory_locks.index.LockIndex.{LockIndex}
use Rattle.dav_memls.specs.declared.memory_locks.index.Register.{Register}
use Rattle.dav_memls.specs.declared.memory_locks.numbers.Numbers.{Numbers}
use Rattle.dav_memls.specs.ByKey.{HasRun}
use Rattle.dav_memls.specs.KeyEntries.{OwnKey, own_text, own_key, own_cmp, is_text_of, found_in, listed, numbers_in}
use Rattle.dav_memls.specs.KeyText.{IsTextOf}
use Rattle.dav_memls.specs.LockIndex.{Row, IsIndexed, among, found_at, is_of_key, is_within, locks_of_numbers, numbers_of, register_of}
use Rattle.dav_memls.proofs.Ascending.{Rises}
use Rattle.dav_memls.proofs.ByKeys.{text_cmp}
use Rattle.dav_memls.proofs.KeyRuns.{none_behind, text_below}
use Rattle.dav_memls.proofs.LockFound.{any_wider}
use Rattle.dav_memls.proofs.LockLooks.{at_key}

-- whether the entry's key is the given one or below it, and a lock of its numbers passes
abbrev pub meets : (DavLock → Bool) → Key → List Row → OwnKey × Numbers → Bool
meets p key rows e = is_at_or_below (own_key e.0) key && list_any p (locks_of_numbers e.1.set.keys rows)

-- the register's entries that are left tell whether a lock of it at the key or below it passes
pub record Tells (register : Register) (p : DavLock → Bool) (key : Key) (rows : List Row) (left : List (OwnKey × Numbers)) : Type 0 where
  pub ordered : IsStrictlySortedBy own_cmp (keys_of left)
  pub flat : AllByRecursion (λ e. IsFlatText (own_text e.0)) left
  pub from : AllByRecursion (λ e. is_le (key_cmp key (own_key e.0)) ≡ true) left
  pub own : AllByRecursion (λ e. e.1.set.keys ≡ numbers_of (among register (is_of_key (own_key e.0))) rows) left
  pub answer : list_any (meets p key rows) left ≡ list_any (among register p) (at_or_below (values_of rows) key)

or_true : (b : Bool) → (b || true) ≡ true
or_true true = refl
or_true false = refl

-- ---- the start

-- a lock that passes, and that passes at its own key
witness : (p t : DavLock → Bool) (ls : List DavLock) → list_any p (filter t ls) ≡ true → (l : DavLock) × (t l ≡ true) × ((s : DavLock → Bool) → s l ≡ true → list_any p (filter s ls) ≡ true)
witness p t [] e = absurd cc
witness p t (l ∷ ls) e = split (t l) (p l) refl refl e (witness p t ls)
  where
    behind : (y : DavLock) → ((s : DavLock → Bool) → s y ≡ true → list_any p (filter s ls) ≡ true) → (s : DavLock → Bool) → s y ≡ true → list_any p (filter s (l ∷ ls)) ≡ true
    behind y found s at = more (s l) (found s at)
      where
        more : (b : Bool) → list_any p (filter s ls) ≡ true → list_any p (cond b (l ∷ filter s ls) (filter s ls)) ≡ true
        more true is = ap (λ x. p l || x) is ∙ or_true (p l)
        more false is = is

    later : (list_any p (filter t ls) ≡ true → (y : DavLock) × (t y ≡ true) × ((s : DavLock → Bool) → s y ≡ true → list_any p (filter s ls) ≡ true)) → list_any p (filter t ls) ≡ true → (y : DavLock) × (t y ≡ true) × ((s : DavLock → Bool) → s y ≡ true → list_any p (filter s (l ∷ ls)) ≡ true)
    later more is = let (y, at, found) = more is in (y, at, behind y found)

    split : (a b : Bool) → t l ≡ a → p l ≡ b → list_any p (cond a (l ∷ filter t ls) (filter t ls)) ≡ true
        → (list_any p (filter t ls) ≡ true → (y : DavLock) × (t y ≡ true) × ((s : DavLock → Bool) → s y ≡ true → list_any p (filter s ls) ≡ true))
        → (y : DavLock) × (t y ≡ true) × ((s : DavLock → Bool) → s y ≡ true → list_any p (filter s (l ∷ ls)) ≡ true)
    split true true at passes e more = (l, at, λ s here. ap (λ b. list_any p (cond b (l ∷ filter s ls) (filter s ls))) here ∙ ap (λ b. b || list_any p (filter s ls)) passes)
    split true false at passes e more = later more (ap (λ b. b || list_any p (filter t ls)) (sym passes) ∙ e)
    split false b at passes e more = later more e

-- the numbers at a key, by the first entry
numbers_first : (k : Key) (e : OwnKey × Numbers) (run : List (OwnKey × Numbers)) (b : Bool) → is_text_of k (own_text e.0) ≡ b → numbers_in (e ∷ run) k ≡ cond b e.1.set.keys (numbers_in run k)
numbers_first k e run b at = ap (λ c. listed (cond c (Some e.1) (found_in run k))) at ∙ either b
  where
    either : (c : Bool) → listed (cond c (Some e.1) (found_in run k)) ≡ cond c e.1.set.keys (numbers_in run k)
    either true = refl
    either false = refl

-- the entry at a key tells of the locks there
told : (p : DavLock → Bool) (key k : Key) (rows : List Row) (run : List (OwnKey × Numbers)) → is_at_or_below k key ≡ true → list_any p (locks_of_numbers (numbers_in run k) rows) ≡ true → list_any (meets p key rows) run ≡ true
told p key k rows [] below e = absurd cc
told p key k rows (e ∷ run) below passes = split (is_text_of k (own_text e.0)) refl (told p key k rows run below)
  where
    known : (b : Bool) → is_text_of k (own_text e.0) ≡ b → list_any p (locks_of_numbers (cond b e.1.set.keys (numbers_in run k)) rows) ≡ true
    known b at = ap (λ xs. list_any p (locks_of_numbers xs rows)) (sym (numbers_first k e run b at)) ∙ passes

    split : (b : Bool) → is_text_of k (own_text e.0) ≡ b → (list_any p (locks_of_numbers (numbers_in run k) rows) ≡ true → list_any (meets p key rows) run ≡ true) → list_any (meets p key rows) (e ∷ run) ≡ true
    split true at more =
        let at_below : is_at_or_below (own_key e.0) key ≡ true = subst (λ x. is_at_or_below x key ≡ true) ((same_key_decides k (own_key e.0)).0 (and_parts (is_same_key k (own_key e.0)) (bytes_eq (flat k) (own_text e.0)) at).0) below in
        ap₂ (λ a b. (a && b) || list_any (meets p key rows) run) at_below (known true at)
    split false at more = ap (λ b. meets p key rows e || b) (more (known false at)) ∙ or_true (meets p key rows e)

-- an entry that passes has a lock that does
sound : (register : Register) (p : DavLock → Bool) (key : Key) (rows : List Row) (run : List (OwnKey × Numbers)) → Rises (keys_of rows) → AllByRecursion (λ e. e.1.set.keys ≡ numbers_of (among register (is_of_key (own_key e.0))) rows) run → list_any (meets p key rows) run ≡ true → list_any (among register p) (at_or_below (values_of rows) key) ≡ true
sound register p key rows [] r a e = absurd cc
sound register p key rows (e ∷ run) r a is = split (is_at_or_below (own_key e.0) key) (list_any p (locks_of_numbers e.1.set.keys rows)) refl refl (sound register p key rows run r a.1) is
  where
    at_lock : is_at_or_below (own_key e.0) key ≡ true → (l : DavLock) → is_of_key (own_key e.0) l ≡ true → is_within key l ≡ true
    at_lock below l same = subst (λ x. is_at_or_below x key ≡ true) ((same_key_decides (own_key e.0) l.path.key).0 same) below

    split : (x y : Bool) → is_at_or_below (own_key e.0) key ≡ x → list_any p (locks_of_numbers e.1.set.keys rows) ≡ y → (list_any (meets p key rows) run ≡ true → list_any (among register p) (at_or_below (values_of rows) key) ≡ true) → ((x && y) || list_any (meets p key rows) run) ≡ true → list_any (among register p) (at_or_below (values_of rows) key) ≡ true
    split true true below passes more i =
        any_wider (among register p) (is_of_key (own_key e.0)) (is_within key) (at_lock below) (values_of rows)
        (sym (at_key register p (own_key e.0) e.1.set.keys rows r a.0) ∙ passes)
    split true false below passes more i = more i
    split false y below passes more i = more i

same_answer : (a b : Bool) → (a ≡ true → b ≡ true) → (b ≡ true → a ≡ true) → a ≡ b
same_answer true b f g = sym (f refl)
same_answer false true f g = g refl
same_answer false false f g = refl

each_indexed : (register : Register) (index : LockIndex) (rows : List Row) (run : List (OwnKey × Numbers)) → IsIndexed index rows → AllByRecursion (λ e. found_at index register (own_key e.0) ≡ e.1.set.keys) run → AllByRecursion (λ e. e.1.set.keys ≡ numbers_of (among register (is_of_key (own_key e.0))) rows) run
each_indexed register index rows [] h a = tt
each_indexed register index rows (e ∷ run) h a = (sym a.0 ∙ h.at register (own_key e.0), each_indexed register index rows run h a.1)

pub tells-start : (register : Register) (p : DavLock → Bool) (key own : Key) (index : LockIndex) (rows : List Row) (run left : List (OwnKey × Numbers)) → Rises (keys_of rows) → IsIndexed index rows → own ≡ key → HasRun own (register_of index register) run → left ≡ run → Tells register p key rows left
tells-start register p key own index rows run left r h same has is = subst (Tells register p key rows) (sym is) (record {
  ordered = has.ordered;
  flat = has.flat;
  from = subst (λ k. AllByRecursion (λ e. is_le (key_cmp k (own_key e.0)) ≡ true) run) same has.from;
  own = owns;
  answer = same_answer _ _ (sound register p key rows run r owns) complete;
})
  where
    owns : AllByRecursion (λ e. e.1.set.keys ≡ numbers_of (among register (is_of_key (own_key e.0))) rows) run
    owns = each_indexed register index rows run h has.own

    complete : list_any (among register p) (at_or_below (values_of rows) key) ≡ true → list_any (meets p key rows) run ≡ true
    complete e =
        let (l, below, found) = witness (among register p) (is_within key) (values_of rows) e in
        let at : numbers_in run l.path.key ≡ numbers_of (among register (is_of_key l.path.key)) rows = has.all l.path.key (subst (λ k. is_at_or_below l.path.key k ≡ true) (sym same) below) ∙ h.at register l.path.key in
        told p key l.path.key rows run below
        (at_key register p l.path.key (numbers_in run l.path.key) rows r at ∙ found (is_of_key l.path.key) ((same_key_decides l.path.key l.path.key).1 refl))

-- ---- one entry

-- it doesn't pass
pub tells-more : (register : Register) (p : DavLock → Bool) (key : Key) (rows : List Row) (left : List (OwnKey × Numbers)) (e : OwnKey × Numbers) (more : List (OwnKey × Numbers)) → left ≡ e ∷ more → meets p key rows e ≡ false → Tells register p key rows left → Tells register p key rows more
tells-more register p key rows left e more is fails tells =
    let here = subst (Tells register p key rows) is tells in
    record {
      ordered = sorted_tail own_cmp e.0 (keys_of more) here.ordered;
      flat = here.flat.1;
      from = here.from.1;
      own = here.own.1;
      answer = ap (λ b. b || list_any (meets p key rows) more) (sym fails) ∙ here.answer;
    }

-- it passes
pub tells-some : (register : Register) (p : DavLock → Bool) (key : Key) (rows : List Row) (left : List (OwnKey × Numbers)) (e : OwnKey × Numbers) (more : List (OwnKey × Numbers)) → left ≡ e ∷ more → meets p key rows e ≡ true → Tells register p key rows left → list_any (among register p) (at_or_below (values_of rows) key) ≡ true
tells-some register p key rows left e more is passes tells =
    let here = subst (Tells register p key rows) is tells in
    sym here.answer ∙ ap (λ b. b || list_any (meets p key rows) more) passes

-- its key is past those below
all_past : (p : DavLock → Bool) (key : Key) (own : OwnKey) (rows : List Row) (more : List (OwnKey × Numbers)) → IsFlatText (own_text own) → is_le (key_cmp key (own_key own)) ≡ true → is_at_or_below (own_key own) key ≡ false → AllByRecursion (λ e. IsFlatText (own_text e.0)) more → AllByRecursion (λ k. own_cmp own k ≡ Less) (keys_of more) → list_any (meets p key rows) more ≡ false
all_past p key own rows [] is le out flats a = refl
all_past p key own rows (e ∷ more) is le out flats a =
    ap₂ (λ x y. (x && list_any p (locks_of_numbers e.1.set.keys rows)) || y)
    (none_behind key (own_key own) (own_key e.0) le out (sym (text_cmp (own_text own) (own_text e.0) is flats.0) ∙ a.0))
    (all_past p key own rows more is le out flats.1 a.1)

pub tells-past : (register : Register) (p : DavLock → Bool) (key : Key) (rows : List Row) (left : List (OwnKey × Numbers)) (e : OwnKey × Numbers) (more : List (OwnKey × Numbers)) → left ≡ e ∷ more → is_at_or_below (own_key e.0) key ≡ false → Tells register p key rows left → list_any (among register p) (at_or_below (values_of rows) key) ≡ false
tells-past register p key rows left e more is out tells =
    let here = subst (Tells register p key rows) is tells in
    sym here.answer
    ∙ ap₂ (λ x y. (x && list_any p (locks_of_numbers e.1.set.keys rows)) || y) out (all_past p key e.0 rows more here.flat.0 here.from.0 out here.flat.1 (sorted_head own_cmp e.0 (keys_of more) here.ordered))

-- ---- none is left

pub tells-none : (register : Register) (p : DavLock → Bool) (key : Key) (rows : List Row) (left : List (OwnKey × Numbers)) → left ≡ [] → Tells register p key rows left → list_any (among register p) (at_or_below (values_of rows) key) ≡ false
tells-none register p key rows left is tells = sym tells.answer ∙ ap (list_any (meets p key rows)) is

pub none_there : (ls : List DavLock) → list_any (λ l. true) ls ≡ false → ls ≡ []
none_there [] e = refl
none_there (l ∷ ls) e = absurd cc

-- ---- what a look at an entry answers

-- its key has the text of a key
pub first_flat : (register : Register) (p : DavLock → Bool) (key : Key) (rows : List Row) (left : List (OwnKey × Numbers)) (e : OwnKey × Numbers) (more : List (OwnKey × Numbers)) → left ≡ e ∷ more → Tells register p key rows left → IsFlatText (own_text e.0)
first_flat register p key rows left e more is tells = (subst (Tells register p key rows) is tells).flat.0

-- whether its key is at the given one or below it
pub below_is : (b answer : Bool) (own : OwnKey) (xs ys text : List ℕ) (key : Key) → IsTextOf key text → IsFlatText (own_text own) → xs ≡ own_text own → ys ≡ text → answer ≡ is_text_below xs ys → answer ≡ b → is_at_or_below (own_key own) key ≡ b
below_is b answer own xs ys text key of is same other value e =
    ap (is_at_or_below (own_key own)) (sym of.key_is) ∙ sym (text_below (own_text own) text is of.is_flat) ∙ sym (ap₂ is_text_below same other) ∙ sym value ∙ e

-- whether it passes

pub below_passes : (b answer : Bool) (p : DavLock → Bool) (key : Key) (rows : List Row) (xs : List ℕ) (e : OwnKey × Numbers) → is_at_or_below (own_key e.0) key ≡ true → xs ≡ e.1.set.keys → answer ≡ list_any p (locks_of_numbers xs rows) → answer ≡ b → meets p key rows e ≡ b
below_passes b answer p key rows xs e below is value at =
    ap (λ c. c && list_any p (locks_of_numbers e.1.set.keys rows)) below
    ∙ ap (λ ys. list_any p (locks_of_numbers ys rows)) (sym is)
    ∙ sym value
    ∙ at

pub no_numbers : (p : DavLock → Bool) (xs : List ℕ) (rows : List Row) → slice_get xs 0 ≡ None → false ≡ list_any p (locks_of_numbers xs rows)
no_numbers p [] rows e = refl
no_numbers p (x ∷ xs) rows e = absurd cc

-- its numbers are those of the locks at its key
pub numbers_own : (register : Register) (p : DavLock → Bool) (key : Key) (rows : List Row) (xs : List ℕ) (left : List (OwnKey × Numbers)) (e : OwnKey × Numbers) (more : List (OwnKey × Numbers)) → left ≡ e ∷ more → xs ≡ e.1.set.keys → Tells register p key rows left → xs ≡ numbers_of (among register (is_of_key (own_key e.0))) rows
numbers_own register p key rows xs left e more is same tells = same ∙ (subst (Tells register p key rows) is tells).own.0
