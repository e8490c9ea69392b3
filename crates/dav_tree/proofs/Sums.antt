-- The sum over the values of a map with whole keys, through each change of the map.
use Rattle.std.proofs.Common.{◌≡◌, ◌∙◌, ℕ, suc, ◌+◌, ◌*◌, ◌≤◌, length, Bool, true, false, cond, ◌&&◌, ◌||◌, List, [], ◌∷◌, ◌++◌, Option, Some, None, is_some, refl, sym, ap, subst, arith}
use Rattle.std.proofs.lemmas.List.Sums.{sum_by-cons}
use Rattle.std.specs.declared.cmp.Ordering.{Ordering}
use Rattle.std.specs.declared.cmp.Ordering.TheVariants.{Less, Equal, Greater}
use Rattle.std.specs.Ordering.{eq_by_cmp, is_lt, is_eq}
use Rattle.std.specs.List.{sum_by, list_any}
use Rattle.std.specs.FinMap.{FinMap, len, len-entries, get, insert, remove, entries, keys, entries_sorted, entries-insert, get-entries, get-insert, get-remove, contains_key-keys, same_map}
use Rattle.std.specs.FinMap.Entries.{find, put, is_sorted, below_all, by_order}
use Rattle.dav_key.specs.Key.{Key, key_cmp, key_cmp_total, key_cmp_exact, tied_decides}
use Rattle.dav_key.specs.Below.{is_at_or_below}
use Rattle.dav_store.specs.BelowLaws.{at_or_below-append, at_or_below-tail}
use Rattle.dav_store.specs.Transfers.{IsMoved}
use Rattle.dav_key.specs.EachLaws.{find_below, both_parts}
use lib.Dec.{T}

less : (r : Ordering) → T (is_lt r) → r ≡ Less
less Less h = refl
less Equal h = absurd h
less Greater h = absurd h

both : (a b : Bool) → T a → T b → T (a && b)
both true b p q = q
both false b p q = absurd p

-- what is before the first of some keys is before them all
below_less : {X : Type 0} (k x : Key) (es : List (Key × X)) → key_cmp k x ≡ Less → T (below_all key_cmp x es) → T (below_all key_cmp k es)
below_less k x [] p h = tt
below_less k x (e ∷ es) p h =
    let parts = both_parts (is_lt (key_cmp x e.0)) (below_all key_cmp x es) h in
    both (is_lt (key_cmp k e.0)) (below_all key_cmp k es) (subst (λ r. T (is_lt r)) (sym (key_cmp_total.trans k x e.0 p (less (key_cmp x e.0) parts.0))) tt) (below_less k x es p parts.1)

-- what is found later is found after one more entry too
pub found-later : {X : Type 0} (e : Key × X) (es : List (Key × X)) → T (below_all key_cmp e.0 es) → (k : Key) (x : X) → find key_cmp k es ≡ Some x → find key_cmp k (e ∷ es) ≡ Some x
found-later {X} e es below k x here = by (eq_by_cmp key_cmp k e.0) refl
  where
    by : (b : Bool) → eq_by_cmp key_cmp k e.0 ≡ b → cond b (Some e.1) (find key_cmp k es) ≡ Some x
    by true tied = absurd (let clash : None ≡ Some x = sym (find_below e.0 es below) ∙ ap (λ q. find key_cmp q es) (sym ((tied_decides k e.0).0 tied)) ∙ here in cc)
    by false apart = here

module _ {X : Type 0} (f : X → ℕ) where
  abbrev of_entry : Key × X → ℕ
  of_entry e = f e.1

  -- the sum over the values
  abbrev pub total : FinMap key_cmp X → ℕ
  total m = sum_by (λ (e : Key × X). f e.1) (entries m)

  -- what a look-up finds adds to the sum
  abbrev pub part : Option X → ℕ
  part None = 0
  part (Some x) = f x

  sum-put : (k : Key) (v : X) (es : List (Key × X)) → T (is_sorted key_cmp es) → sum_by of_entry (put key_cmp k v es) + part (find key_cmp k es) ≡ sum_by of_entry es + f v
  sum-put k v [] h = omega (arith, sum_by-cons of_entry (k, v) [])
  sum-put k v (e ∷ es) h = by (key_cmp k e.0) refl (sum-put k v es parts.1)
    where
      parts : T (below_all key_cmp e.0 es) × T (is_sorted key_cmp es)
      parts = both_parts (below_all key_cmp e.0 es) (is_sorted key_cmp es) h

      by : (r : Ordering) → key_cmp k e.0 ≡ r → sum_by of_entry (put key_cmp k v es) + part (find key_cmp k es) ≡ sum_by of_entry es + f v
          → sum_by of_entry (by_order r ((k, v) ∷ e ∷ es) ((e.0, v) ∷ es) (e ∷ put key_cmp k v es)) + part (cond (is_eq r) (Some e.1) (find key_cmp k es)) ≡ sum_by of_entry (e ∷ es) + f v
      by Less is later =
          let none : part (find key_cmp k es) ≡ 0 = ap part (find_below k es (below_less k e.0 es is parts.0)) in
          omega (arith, none, sum_by-cons of_entry (k, v) (e ∷ es))
      by Equal is later = omega (arith, sum_by-cons of_entry (e.0, v) es, sum_by-cons of_entry e es)
      by Greater is later = omega (arith, later, sum_by-cons of_entry e (put key_cmp k v es), sum_by-cons of_entry e es)

  pub total-insert : (m : FinMap key_cmp X) (k : Key) (v : X) → total (insert m k v) + part (get m k) ≡ total m + f v
  total-insert m k v =
      ap (λ es. sum_by of_entry es + part (get m k)) (entries-insert key_cmp_total m k v)
      ∙ ap (λ o. sum_by of_entry (put key_cmp k v (entries m)) + part o) (get-entries m k)
      ∙ sum-put k v (entries m) (entries_sorted m)

  put_back : (b : Bool) (k q : Key) (o p : Option X) → eq_by_cmp key_cmp q k ≡ b → (eq_by_cmp key_cmp q k ≡ true → p ≡ o) → cond b o (cond b None p) ≡ p
  put_back true k q o p is same = sym (same is)
  put_back false k q o p is same = refl

  total_removed : (m : FinMap key_cmp X) (k : Key) (o : Option X) → get m k ≡ o → total (remove m k) + part o ≡ total m
  total_removed m k None none =
      let same : remove m k ≡ m = same_map key_cmp_total key_cmp_exact (remove m k) m (λ q. get-remove key_cmp_total m k q ∙ by q (eq_by_cmp key_cmp q k) refl) in
      omega (arith, ap total same)
    where
      by : (q : Key) (b : Bool) → eq_by_cmp key_cmp q k ≡ b → cond b None (get m q) ≡ get m q
      by q true is = sym (ap (get m) ((tied_decides q k).0 is) ∙ none)
      by q false is = refl
  total_removed m k (Some v) here =
      let gone : get (remove m k) k ≡ None = get-remove key_cmp_total m k k ∙ ap (λ b. cond b None (get m k)) ((tied_decides k k).1 refl) in
      let back : insert (remove m k) k v ≡ m = same_map key_cmp_total key_cmp_exact _ m (λ q.
      get-insert key_cmp_total (remove m k) k v q ∙ ap (cond (eq_by_cmp key_cmp q k) (Some v)) (get-remove key_cmp_total m k q)
      ∙ put_back (eq_by_cmp key_cmp q k) k q (Some v) (get m q) refl (λ is. ap (get m) ((tied_decides q k).0 is) ∙ here)) in
      omega (arith, total-insert (remove m k) k v, ap part gone, ap total back)

  pub total-remove : (m : FinMap key_cmp X) (k : Key) → total (remove m k) + part (get m k) ≡ total m
  total-remove m k = total_removed m k (get m k) refl

  sum-le : (most : ℕ) (es : List (Key × X)) → T (is_sorted key_cmp es) → ((k : Key) (x : X) → find key_cmp k es ≡ Some x → f x ≤ most) → sum_by of_entry es ≤ length es * most
  sum-le most [] h small = omega arith
  sum-le most (e ∷ es) h small =
      let parts = both_parts (below_all key_cmp e.0 es) (is_sorted key_cmp es) h in
      let one = small e.0 e.1 (ap (λ b. cond b (Some e.1) (find key_cmp e.0 es)) ((tied_decides e.0 e.0).1 refl)) in
      let rest = sum-le most es parts.1 (λ k x here. small k x (found-later e es parts.0 k x here)) in
      subst (λ n. n ≤ suc (length es) * most) (sym (sum_by-cons of_entry e es)) (omega arith)

  -- the sum is at most the number of keys times a bound of the values
  pub total-le : (m : FinMap key_cmp X) (most : ℕ) → ((k : Key) (x : X) → get m k ≡ Some x → f x ≤ most) → total m ≤ len m * most
  total-le m most small =
      subst (λ n. total m ≤ n * most) (sym (len-entries m)) (sum-le most (entries m) (entries_sorted m) (λ k x here. small k x (get-entries m k ∙ here)))

-- ---- a move

-- two tests that imply each other give the same answer
same_answer : (a b : Bool) → (a ≡ true → b ≡ true) → (b ≡ true → a ≡ true) → a ≡ b
same_answer true b f g = sym (f refl)
same_answer false true f g = absurd (let clash : false ≡ true = g refl in cc)
same_answer false false f g = refl

tail_is : (first : List ℕ) (b c : Key) → first ∷ b ≡ first ∷ c → b ≡ c
tail_is first b c e = cc

below_is : (above b c : Key) → above ++ b ≡ above ++ c → b ≡ c
below_is [] b c e = e
below_is (first ∷ above) b c e = below_is above b c (tail_is first (above ++ b) (above ++ c) e)

-- keys below the same one are tied exactly if what is below is
tied-below : (above b c : Key) → eq_by_cmp key_cmp (above ++ b) (above ++ c) ≡ eq_by_cmp key_cmp b c
tied-below above b c = same_answer _ _
    (λ t. (tied_decides b c).1 (below_is above b c ((tied_decides (above ++ b) (above ++ c)).0 t)))
    (λ t. (tied_decides (above ++ b) (above ++ c)).1 (ap (λ k. above ++ k) ((tied_decides b c).0 t)))

-- a key that isn't at or below another one is tied with none that is
untied : (q above b : Key) → is_at_or_below q above ≡ false → eq_by_cmp key_cmp q (above ++ b) ≡ false
untied q above b off = same_answer _ _
    (λ t. (let clash : true ≡ false = sym (at_or_below-append above b) ∙ ap (λ k. is_at_or_below k above) (sym ((tied_decides q (above ++ b)).0 t)) ∙ off in cc))
    (λ t. absurd (let clash : false ≡ true = t in cc))

none_either : {X : Type 0} (b : Bool) (o : Option X) → o ≡ None → cond b None o ≡ None
none_either true o none = refl
none_either false o none = none

some_before : {X : Type 0} (b : Bool) (o : Option X) → is_some (cond b None o) ≡ true → (b ≡ false) × (is_some o ≡ true)
some_before true o e = absurd (let clash : false ≡ true = e in cc)
some_before false o e = (refl, e)

not_some : {X : Type 0} (o : Option X) → (is_some o ≡ true → false ≡ true) → o ≡ None
not_some None h = refl
not_some (Some x) h = absurd (let clash : false ≡ true = h refl in cc)

later : (a b : Bool) → a ≡ false → (a || b) ≡ true → b ≡ true
later true b off e = absurd (let clash : true ≡ false = off in cc)
later false b off e = e

module _ {X : Type 0} (f : X → ℕ) (from to : Key) where
  -- a move to a key at and below which nothing was
  record Moves (old new : FinMap key_cmp X) : Type 0 where
    is : IsMoved from to old new
    free : (below : Key) → get old (to ++ below) ≡ None

  nothing_moved : (old new : FinMap key_cmp X) → Moves old new → ((below : Key) → get old (from ++ below) ≡ None) → old ≡ new
  nothing_moved old new m none = same_map key_cmp_total key_cmp_exact old new (λ q. by q (is_at_or_below q to) refl (is_at_or_below q from) refl)
    where
      by : (q : Key) (t : Bool) → is_at_or_below q to ≡ t → (s : Bool) → is_at_or_below q from ≡ s → get old q ≡ get new q
      by q true t s e = let (below, at) = at_or_below-tail to q t in ap (get old) at ∙ m.free below ∙ sym (none below) ∙ sym (m.is.moved below) ∙ ap (get new) (sym at)
      by q false t true s = let (below, at) = at_or_below-tail from q s in ap (get old) at ∙ none below ∙ sym (m.is.gone below) ∙ ap (get new) (sym at)
      by q false t false s = sym (m.is.rest q s t)

  -- a move of all but one key
  moves_less : (old new : FinMap key_cmp X) (x : Key) → Moves old new → Moves (remove old (from ++ x)) (remove new (to ++ x))
  moves_less old new x m = record {
    is = record {
      moved = λ b. get-remove key_cmp_total new (to ++ x) (to ++ b)
          ∙ (λ i. cond ((tied-below to b x ∙ sym (tied-below from b x)) i) None (m.is.moved b i))
          ∙ sym (get-remove key_cmp_total old (from ++ x) (from ++ b));
      gone = λ b. get-remove key_cmp_total new (to ++ x) (from ++ b) ∙ none_either _ _ (m.is.gone b);
      rest = λ q s t. get-remove key_cmp_total new (to ++ x) q ∙ (λ i. cond ((untied q to x t ∙ sym (untied q from x s)) i) None (m.is.rest q s t i))
          ∙ sym (get-remove key_cmp_total old (from ++ x) q);
    };
    free = λ b. get-remove key_cmp_total old (from ++ x) (to ++ b) ∙ none_either _ _ (m.free b);
  }

  -- all keys that move are among these
  abbrev AllAmong : List Key → FinMap key_cmp X → Type 0
  AllAmong ks old = (b : Key) → is_some (get old (from ++ b)) ≡ true → list_any (eq_by_cmp key_cmp (from ++ b)) ks ≡ true

  among_less : (k : Key) (ks : List Key) (old : FinMap key_cmp X) → AllAmong (k ∷ ks) old → AllAmong ks (remove old k)
  among_less k ks old among b some =
      let p = some_before (eq_by_cmp key_cmp (from ++ b) k) (get old (from ++ b)) (ap is_some (sym (get-remove key_cmp_total old k (from ++ b))) ∙ some) in
      later _ _ p.0 (among b p.1)

  -- one key that is looked at, and then the others
  total_step : (k : Key) (ks : List Key) (old new : FinMap key_cmp X) → Moves old new → AllAmong (k ∷ ks) old
      → ((old new : FinMap key_cmp X) → Moves old new → AllAmong ks old → total f old ≡ total f new)
      → (b : Bool) → is_at_or_below k from ≡ b → total f old ≡ total f new
  total_step k ks old new m among more true at =
      let (x, is) = at_or_below-tail from k at in
      let rest = more (remove old (from ++ x)) (remove new (to ++ x)) (moves_less old new x m) (subst (λ key. AllAmong ks (remove old key)) is (among_less k ks old among)) in
      omega (arith, rest, total-remove f old (from ++ x), total-remove f new (to ++ x), ap (part f) (m.is.moved x))
  total_step k ks old new m among more false off = more old new m (λ b some. later _ _ (apart b) (among b some))
    where
      apart : (b : Key) → eq_by_cmp key_cmp (from ++ b) k ≡ false
      apart b = same_answer _ _
          (λ t. (let clash : true ≡ false = sym (at_or_below-append from b) ∙ ap (λ q. is_at_or_below q from) ((tied_decides (from ++ b) k).0 t) ∙ off in cc))
          (λ t. absurd (let clash : false ≡ true = t in cc))

  total-by : (ks : List Key) (old new : FinMap key_cmp X) → Moves old new → AllAmong ks old → total f old ≡ total f new
  total-by [] old new m among = ap (total f) (nothing_moved old new m (λ b. not_some _ (among b)))
  total-by (k ∷ ks) old new m among = total_step k ks old new m among (total-by ks) (is_at_or_below k from) refl

  -- a move leaves the sum as it is
  pub total-moved : (old new : FinMap key_cmp X) → IsMoved from to old new → ((below : Key) → get old (to ++ below) ≡ None) → total f old ≡ total f new
  total-moved old new is free = total-by (keys old) old new (record { is = is; free = free }) (λ b some. sym (contains_key-keys old (from ++ b)) ∙ some)
