-- The laws of `each`, which computes the values of a map from those of another map with whole keys: this project's own choice.
use Rattle.std.proofs.Common.{◌≡◌, ◌∙◌, Bool, true, false, cond, List, [], ◌∷◌, ◌++◌, map, filter_map, Option, Some, None, refl, ap, sym, subst, ◌&&◌}
use Rattle.std.specs.declared.cmp.Ordering.{Ordering}
use Rattle.std.specs.declared.cmp.Ordering.TheVariants.{Less, Equal, Greater}
use Rattle.std.specs.Ordering.{eq_by_cmp, is_eq, is_lt}
use Rattle.std.specs.Option.{option_map, option_or, option_and_then}
use Rattle.std.specs.List.{cons_option}
use Rattle.std.specs.FinMap.{FinMap, from_entries, from_sorted, get, entries, keys, entries_sorted, get-entries, get-insert, get-remove, get-from_entries, get-from_sorted, entries-from_sorted, same_map}
use Rattle.std.specs.FinMap.Entries.{find, is_sorted, below_all}
use Rattle.dav_key.specs.Key.{Key, key_cmp, key_cmp_total, key_cmp_exact, tied_decides}
use Rattle.dav_key.specs.Below.{put_at, each, IsMoved}
use lib.Dec.{T}

-- ---- lists of entries

-- the results that `give` has for a list of entries, each at its key
abbrev pub given : {X Y : Type 0} → (X → Option Y) → List (Key × X) → List (Key × Y)
given give es = filter_map (λ e. option_map (λ y. (e.0, y)) (give e.1)) es

pub or_none : {Y : Type 0} (o : Option Y) → option_or o None ≡ o
or_none None = refl
or_none (Some y) = refl

one_or_other : {A : Type 0} (b : Bool) (x : A) → x ≡ cond b x x
one_or_other true x = refl
one_or_other false x = refl

-- a key before all others is not found among them
pub find_below : {X : Type 0} (k : Key) (es : List (Key × X)) → T (below_all key_cmp k es) → find key_cmp k es ≡ None
find_below k [] h = refl
find_below {X} k (e ∷ es) h = apart (key_cmp k e.0) h (find_below k es)
  where
    apart : (r : Ordering) → T (is_lt r && below_all key_cmp k es) → (T (below_all key_cmp k es) → find key_cmp k es ≡ None) → cond (is_eq r) (Some e.1) (find key_cmp k es) ≡ None
    apart Less h more = more h
    apart Equal h more = absurd h
    apart Greater h more = absurd h

find_more : {Y : Type 0} (q k : Key) (o : Option Y) (es : List (Key × Y)) → find key_cmp q (cons_option (option_map (λ y. (k, y)) o) es) ≡ cond (eq_by_cmp key_cmp q k) (option_or o (find key_cmp q es)) (find key_cmp q es)
find_more q k None es = one_or_other (eq_by_cmp key_cmp q k) (find key_cmp q es)
find_more q k (Some y) es = refl

pub both_parts : (a b : Bool) → T (a && b) → T a × T b
both_parts true b p = (tt, p)
both_parts false b p = absurd p

find-given : {X Y : Type 0} (give : X → Option Y) (q : Key) (es : List (Key × X)) → T (is_sorted key_cmp es) → find key_cmp q (given give es) ≡ option_and_then give (find key_cmp q es)
find-given give q [] h = refl
find-given {X} {Y} give q (e ∷ es) h =
    let parts = both_parts (below_all key_cmp e.0 es) (is_sorted key_cmp es) h in
    find_more q e.0 (give e.1) (given give es) ∙ here (eq_by_cmp key_cmp q e.0) refl parts.0 (find-given give q es parts.1)
  where
    here : (b : Bool) → eq_by_cmp key_cmp q e.0 ≡ b → T (below_all key_cmp e.0 es) → find key_cmp q (given give es) ≡ option_and_then give (find key_cmp q es)
        → cond b (option_or (give e.1) (find key_cmp q (given give es))) (find key_cmp q (given give es)) ≡ option_and_then give (cond b (Some e.1) (find key_cmp q es))
    here true tied below is =
        let none : find key_cmp q es ≡ None = subst (λ k. find key_cmp k es ≡ None) (sym ((tied_decides q e.0).0 tied)) (find_below e.0 es below) in
        ap (option_or (give e.1)) (is ∙ ap (option_and_then give) none) ∙ or_none (give e.1)
    here false tied below is = is

-- ---- the value at a key

pub get-each : {X Y : Type 0} (give : X → Option Y) (m : FinMap key_cmp X) (q : Key) → get (each give m) q ≡ option_and_then give (get m q)
get-each give m q =
    get-from_entries key_cmp_total (given give (entries m)) q
    ∙ find-given give q (entries m) (entries_sorted m)
    ∙ ap (option_and_then give) (sym (get-entries m q))

always : {X Y : Type 0} (f : X → Y) (o : Option X) → option_and_then (λ x. Some (f x)) o ≡ option_map f o
always f None = refl
always f (Some x) = refl

-- if `give` has a result for each value
pub get-each-some : {X Y : Type 0} (f : X → Y) (m : FinMap key_cmp X) (q : Key) → get (each (λ x. Some (f x)) m) q ≡ option_map f (get m q)
get-each-some f m q = get-each (λ x. Some (f x)) m q ∙ always f (get m q)

-- ---- the map after a change at a key

pub get-put_at : {X : Type 0} (m : FinMap key_cmp X) (k : Key) (o : Option X) (q : Key) → get (put_at m k o) q ≡ cond (eq_by_cmp key_cmp q k) o (get m q)
get-put_at m k None q = get-remove key_cmp_total m k q
get-put_at m k (Some x) q = get-insert key_cmp_total m k x q

then_cond : {X Y : Type 0} (give : X → Option Y) (b : Bool) (o p : Option X) → option_and_then give (cond b o p) ≡ cond b (option_and_then give o) (option_and_then give p)
then_cond give true o p = refl
then_cond give false o p = refl

pub each-put_at : {X Y : Type 0} (give : X → Option Y) (m : FinMap key_cmp X) (k : Key) (o : Option X) → each give (put_at m k o) ≡ put_at (each give m) k (option_and_then give o)
each-put_at give m k o =
    same_map key_cmp_total key_cmp_exact _ _ (λ q.
    get-each give (put_at m k o) q
    ∙ ap (option_and_then give) (get-put_at m k o q)
    ∙ then_cond give (eq_by_cmp key_cmp q k) o (get m q)
    ∙ ap (cond (eq_by_cmp key_cmp q k) (option_and_then give o)) (sym (get-each give m q))
    ∙ sym (get-put_at (each give m) k (option_and_then give o) q))

-- storing a key's own value again changes nothing
pub put_at-same : {X : Type 0} (m : FinMap key_cmp X) (k : Key) (o : Option X) → get m k ≡ o → put_at m k o ≡ m
put_at-same m k o is = same_map key_cmp_total key_cmp_exact _ _ (λ q. get-put_at m k o q ∙ there (eq_by_cmp key_cmp q k) q refl)
  where
    there : (b : Bool) (q : Key) → eq_by_cmp key_cmp q k ≡ b → cond b o (get m q) ≡ get m q
    there true q tied = sym is ∙ ap (get m) (sym ((tied_decides q k).0 tied))
    there false q tied = refl

-- ---- the map after a move

pub each-IsMoved : {X Y : Type 0} (give : X → Option Y) (from to : Key) (old new : FinMap key_cmp X) → IsMoved from to old new → IsMoved from to (each give old) (each give new)
each-IsMoved give from to old new is = record {
  moved = λ below. get-each give new (to ++ below) ∙ ap (option_and_then give) (is.moved below) ∙ sym (get-each give old (from ++ below));
  gone = λ below. get-each give new (from ++ below) ∙ ap (option_and_then give) (is.gone below);
  rest = λ key f t. get-each give new key ∙ ap (option_and_then give) (is.rest key f t) ∙ sym (get-each give old key);
}

-- ---- the entries

-- the entries of the map made from a sorted list are the list
pub entries-from_entries : {X : Type 0} (es : List (Key × X)) → T (is_sorted key_cmp es) → entries (from_entries {R = key_cmp} es) ≡ es
entries-from_entries es h =
    ap entries (same_map key_cmp_total key_cmp_exact (from_entries es) (from_sorted es) (λ q. get-from_entries key_cmp_total es q ∙ sym (get-from_sorted key_cmp es q h)))
    ∙ entries-from_sorted key_cmp es h

-- the list with each value changed, at the same key
abbrev pub with_values : {X Y : Type 0} → (X → Y) → List (Key × X) → List (Key × Y)
with_values f es = map (λ e. (e.0, f e.1)) es

given-some : {X Y : Type 0} (f : X → Y) (es : List (Key × X)) → given (λ x. Some (f x)) es ≡ with_values f es
given-some f [] = refl
given-some f (e ∷ es) = ap (λ fs. (e.0, f e.1) ∷ fs) (given-some f es)

below_all-with_values : {X Y : Type 0} (f : X → Y) (k : Key) (es : List (Key × X)) → below_all key_cmp k (with_values f es) ≡ below_all key_cmp k es
below_all-with_values f k [] = refl
below_all-with_values f k (e ∷ es) = ap (λ b. is_lt (key_cmp k e.0) && b) (below_all-with_values f k es)

is_sorted-with_values : {X Y : Type 0} (f : X → Y) (es : List (Key × X)) → is_sorted key_cmp (with_values f es) ≡ is_sorted key_cmp es
is_sorted-with_values f [] = refl
is_sorted-with_values f (e ∷ es) = λ i. below_all-with_values f e.0 es i && is_sorted-with_values f es i

pub entries-each-some : {X Y : Type 0} (f : X → Y) (m : FinMap key_cmp X) → entries (each (λ x. Some (f x)) m) ≡ with_values f (entries m)
entries-each-some f m =
    ap (λ es. entries (from_entries {R = key_cmp} es)) (given-some f (entries m))
    ∙ entries-from_entries (with_values f (entries m)) (subst T (sym (is_sorted-with_values f (entries m))) (entries_sorted m))

keys-with_values : {X Y : Type 0} (f : X → Y) (es : List (Key × X)) → map (λ e. e.0) (with_values f es) ≡ map (λ e. e.0) es
keys-with_values f [] = refl
keys-with_values f (e ∷ es) = ap (λ ks. e.0 ∷ ks) (keys-with_values f es)

-- if `give` has a result for each value, the keys stay the same
pub keys-each-some : {X Y : Type 0} (f : X → Y) (m : FinMap key_cmp X) → keys (each (λ x. Some (f x)) m) ≡ keys m
keys-each-some f m = ap (map (λ e. e.0)) (entries-each-some f m) ∙ keys-with_values f (entries m)
