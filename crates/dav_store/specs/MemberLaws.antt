-- The laws of a directory's members, and of permuted lists: this project's own choice.
use Rattle.std.proofs.Common.{◌≡◌, ◌≢◌, ◌∙◌, ℕ, zero, suc, ◌<◌, ◌-◌, Bool, true, false, List, [], ◌∷◌, length, map, filter_map, get_or, swap, IsPermutation, bytes_eq, is_some, is_lt, Option, Some, None, inl, inr, ⊎_elim, ◌&&◌, ◌||◌, if◌then◌else◌, T, refl, sym, ap, subst, arith}
use Rattle.std.specs.List.{list_any, cons_option}
use Rattle.std.specs.Ordering.{eq_by_cmp}
use Rattle.std.specs.Cmp.{tied_itself}
use Rattle.std.specs.FinMap.{get, keys, entries, entries_sorted, contains_key-keys}
use Rattle.std.specs.FinMap.Entries.{below_all, is_sorted}
use Rattle.std.proofs.lemmas.Bool.{cases_eq}
use Rattle.std.proofs.lemmas.Slice.Eq.{bytes_eq-Decides}
use Rattle.std.proofs.lemmas.List.Edits.{Swapped, swapped_from_swap, length-swap}
use Rattle.std.proofs.lemmas.List.Sorted.{IsPermutation-keeps, IsPermutation-sym, Contains-permutation}
use Rattle.dav_key.specs.Key.{Key, key_cmp, key_cmp_total, parent, tied_decides}
use Rattle.dav_store.specs.Store.{Node, Tree}
use Rattle.dav_store.specs.Members.{name_in, members, member, IsIn, AreDistinct}

-- ---- names

-- `name_in` gives the name of a member for its key
pub name_in-member : (directory : Key) (name : List ℕ) → name_in directory (member directory name) ≡ Some name
name_in-member [] name = refl
name_in-member (segment ∷ directory) name = ap (λ b. if b then name_in directory (member directory name) else None) ((bytes_eq-Decides segment segment).1 refl) ∙ name_in-member directory name

pub member-name_in : (directory key : Key) (name : List ℕ) → name_in directory key ≡ Some name → key ≡ member directory name
member-name_in [] [] name e = absurd cc
member-name_in [] (first ∷ []) name e = let same : first ≡ name = cc in ap (λ s. s ∷ []) same
member-name_in [] (first ∷ next ∷ key) name e = absurd cc
member-name_in (segment ∷ directory) [] name e = absurd cc
member-name_in (segment ∷ directory) (first ∷ key) name is =
    elim (bytes_eq segment first) as (λ b. bytes_eq segment first ≡ b → (if b then name_in directory key else None) ≡ Some name → first ∷ key ≡ segment ∷ member directory name) [
      | true ↦ λ t e i. sym ((bytes_eq-Decides segment first).0 t) i ∷ member-name_in directory key name e i
      | false ↦ λ t e. absurd cc
    ] refl is

-- ---- parents

pub parent-below : (segment : List ℕ) (next : List ℕ) (key : Key) → parent (segment ∷ next ∷ key) ≡ segment ∷ parent (next ∷ key)
parent-below segment next key = let e : length (segment ∷ next ∷ key) - 1 ≡ suc (length (next ∷ key) - 1) = omega arith in rw e refl

-- every key except the root's is the key of a member of its parent
pub member-parent : (segment : List ℕ) (key : Key) → (name : List ℕ) × (segment ∷ key ≡ member (parent (segment ∷ key)) name)
member-parent segment [] = (segment, refl)
member-parent segment (next ∷ key) =
    let p = member-parent next key in
    (p.0, ap (λ k. segment ∷ k) p.1 ∙ ap (λ k. member k p.0) (sym (parent-below segment next key)))

pub parent-member : (directory : Key) (name : List ℕ) → parent (member directory name) ≡ directory
parent-member [] name = refl
parent-member (segment ∷ []) name = refl
parent-member (segment ∷ next ∷ directory) name = parent-below segment next (member directory name) ∙ ap (λ k. segment ∷ k) (parent-member (next ∷ directory) name)

-- ---- lists

behind : {Y : Type 0} (o : Option Y) (ys : List Y) (y : Y) → IsIn y ys → IsIn y (cons_option o ys)
behind None ys y inside = inside
behind (Some z) ys y inside = inr inside

-- if `h` gives a value for an element of the list, that value is in the list of all such values
pub kept_in : {X Y : Type 0} (h : X → Option Y) (xs : List X) (x : X) (y : Y) → h x ≡ Some y → IsIn x xs → IsIn y (filter_map h xs)
kept_in h [] x y e inside = inside
kept_in h (z ∷ xs) x y e (inl same) = rw (ap h same ∙ e) (inl refl)
kept_in h (z ∷ xs) x y e (inr inside) = behind (h z) (filter_map h xs) y (kept_in h xs x y e inside)

later : {X Y : Type 0} (h : X → Option Y) (z : X) (xs : List X) (y : Y) → (x : X) × IsIn x xs × (h x ≡ Some y) → (x : X) × IsIn x (z ∷ xs) × (h x ≡ Some y)
later h z xs y (x, inside, e) = (x, inr inside, e)

-- each value in that list comes from an element
pub come_from : {X Y : Type 0} (h : X → Option Y) (xs : List X) (y : Y) → IsIn y (filter_map h xs) → (x : X) × IsIn x xs × (h x ≡ Some y)
come_from h [] y inside = absurd inside
come_from {X} {Y} h (z ∷ xs) y inside = first (h z) refl (come_from h xs y) inside
  where
    first : (o : Option Y) → h z ≡ o → (IsIn y (filter_map h xs) → (x : X) × IsIn x xs × (h x ≡ Some y)) → IsIn y (cons_option o (filter_map h xs)) → (x : X) × IsIn x (z ∷ xs) × (h x ≡ Some y)
    first None e rest i = later h z xs y (rest i)
    first (Some w) e rest (inl same) = (z, inl refl, e ∙ ap Some same)
    first (Some w) e rest (inr i) = later h z xs y (rest i)

kept_apart : {X Y : Type 0} (h : X → Option Y) → ((x z : X) (y : Y) → h x ≡ Some y → h z ≡ Some y → x ≡ z) → (xs : List X) → AreDistinct xs → AreDistinct (filter_map h xs)
kept_apart h once [] d = tt
kept_apart {Y = Y} h once (x ∷ xs) d =
    elim (h x) as (λ o. h x ≡ o → AreDistinct (cons_option o (filter_map h xs))) [
      | None ↦ λ e. kept_apart h once xs d.1
      | Some y ↦ λ e. ((λ inside. let p = come_from h xs y inside in d.0 (subst (λ z. IsIn z xs) (once p.0 x y p.2 e) p.1)), kept_apart h once xs d.1)
    ] refl

-- ---- another order

in_place : {X : Type 0} (xs : List X) (i : ℕ) (d : X) → i < length xs → IsIn (get_or xs i d) xs
in_place [] i d inside = absurd (omega arith)
in_place (x ∷ xs) zero d inside = inl refl
in_place (x ∷ xs) (suc i) d inside = inr (in_place xs i d (omega arith))

place_in : {X : Type 0} (xs : List X) (x : X) → IsIn x xs → (i : ℕ) × (i < length xs) × ((d : X) → get_or xs i d ≡ x)
place_in [] x inside = absurd inside
place_in (y ∷ xs) x (inl same) = (zero, omega arith, λ d. same)
place_in (y ∷ xs) x (inr inside) = let p = place_in xs x inside in (suc p.0, omega arith, p.2)

-- no element is at two positions
OnePlace : {X : Type 0} → List X → Type 0
OnePlace {X} xs = (i j : ℕ) (d : X) → i < length xs → j < length xs → get_or xs i d ≡ get_or xs j d → i ≡ j

one_place : {X : Type 0} (xs : List X) → AreDistinct xs → OnePlace xs
unfolding OnePlace
one_place [] a i j d li lj e = absurd (omega arith)
one_place (x ∷ xs) a zero zero d li lj e = refl
one_place (x ∷ xs) a zero (suc j) d li lj e = absurd (a.0 (subst (λ y. IsIn y xs) (sym e) (in_place xs j d (omega arith))))
one_place (x ∷ xs) a (suc i) zero d li lj e = absurd (a.0 (subst (λ y. IsIn y xs) e (in_place xs i d (omega arith))))
one_place (x ∷ xs) a (suc i) (suc j) d li lj e = ap suc (one_place xs a.1 i j d (omega arith) (omega arith) e)

from_places : {X : Type 0} (xs : List X) → OnePlace xs → AreDistinct xs
unfolding OnePlace
from_places [] one = tt
from_places (x ∷ xs) one = (
  (λ inside. let p = place_in xs x inside in let same : suc p.0 ≡ zero = one (suc p.0) zero x (omega (arith, p.1)) (omega arith) (p.2 x) in omega arith),
  from_places xs (λ i j d li lj e. let same : suc i ≡ suc j = one (suc i) (suc j) d (omega arith) (omega arith) e in omega arith),
)

-- the position in the first list of the element that is at position p once positions a and b are swapped
went : {X : Type 0} (f g : ℕ → X) (a b n : ℕ) → Swapped f g a b → a < n → b < n → (p : ℕ) → p < n → (s : ℕ) × (s < n) × (g p ≡ f s) × (p ≡ a → s ≡ b) × (p ≡ b → s ≡ a) × ((p ≡ a → ⊥) → (p ≡ b → ⊥) → s ≡ p)
went f g a b n sw la lb p lp = ⊎_elim
    (λ ea. (b, lb, ap g ea ∙ sw.0, (λ _. refl), (λ eb. omega arith), (λ u v. absurd (u ea))))
    (λ na. ⊎_elim
    (λ eb. (a, la, ap g eb ∙ sw.1, (λ e. absurd (na e)), (λ _. refl), (λ u v. absurd (v eb))))
    (λ nb. (p, lp, sw.2 p na nb, (λ e. absurd (na e)), (λ e. absurd (nb e)), (λ u v. refl)))
    (cases_eq p b))
    (cases_eq p a)

one_from : (a b i j s t : ℕ) → (i ≡ a → s ≡ b) → (i ≡ b → s ≡ a) → ((i ≡ a → ⊥) → (i ≡ b → ⊥) → s ≡ i) → (j ≡ a → t ≡ b) → (j ≡ b → t ≡ a) → ((j ≡ a → ⊥) → (j ≡ b → ⊥) → t ≡ j) → s ≡ t → i ≡ j
one_from a b i j s t p q r x y z e = grind arith

exchanged : {X : Type 0} (xs : List X) (a b : ℕ) → a < length xs → b < length xs → OnePlace xs → OnePlace (swap xs a b)
unfolding OnePlace
exchanged xs a b la lb one i j d li lj e =
    let long = length-swap xs a b in
    let sw = swapped_from_swap xs (swap xs a b) a b d la lb refl in
    let u = went _ _ a b (length xs) sw la lb i (omega arith) in
    let v = went _ _ a b (length xs) sw la lb j (omega arith) in
    one_from a b i j u.0 v.0 u.3 u.4 u.5 v.3 v.4 v.5 (one u.0 v.0 d u.1 v.1 (sym u.2 ∙ e ∙ v.2))

pub AreDistinct-permuted : {X : Type 0} (xs ys : List X) → IsPermutation xs ys → AreDistinct xs → AreDistinct ys
AreDistinct-permuted xs ys moved distinct = from_places ys (IsPermutation-keeps xs OnePlace (one_place xs distinct) exchanged ys moved)

pub IsIn-permuted : {X : Type 0} (xs ys : List X) (x : X) → IsPermutation xs ys → IsIn x xs → IsIn x ys
IsIn-permuted xs ys x moved inside =
    let p = place_in xs x inside in
    let (k, l, e) = Contains-permutation xs ys x moved (p.0, p.1, p.2 x) in
    subst (λ y. IsIn y ys) e (in_place ys k x l)

pub IsIn-unpermuted : {X : Type 0} (xs ys : List X) (x : X) → IsPermutation xs ys → IsIn x ys → IsIn x xs
IsIn-unpermuted xs ys x moved inside = IsIn-permuted ys xs x (IsPermutation-sym xs ys moved) inside

-- ---- members

found_in : (keys : List Key) (key : Key) → list_any (eq_by_cmp key_cmp key) keys ≡ true → IsIn key keys
found_in [] key e = absurd cc
found_in (k ∷ keys) key e =
    elim (eq_by_cmp key_cmp key k) as (λ b. eq_by_cmp key_cmp key k ≡ b → (b || list_any (eq_by_cmp key_cmp key) keys) ≡ true → IsIn key (k ∷ keys)) [
      | true ↦ λ t h. inl (sym ((tied_decides key k).0 t))
      | false ↦ λ t h. inr (found_in keys key h)
    ] refl e

in_found : (keys : List Key) (key : Key) → IsIn key keys → list_any (eq_by_cmp key_cmp key) keys ≡ true
in_found [] key inside = absurd inside
in_found (k ∷ keys) key (inl same) = ap (λ b. b || list_any (eq_by_cmp key_cmp key) keys) ((tied_decides key k).1 (sym same))
in_found (k ∷ keys) key (inr inside) = either (eq_by_cmp key_cmp key k) _ (in_found keys key inside)
  where
    either : (a b : Bool) → b ≡ true → (a || b) ≡ true
    either true b e = refl
    either false b e = e

something : (o : Option Node) → is_some o ≡ true → o ≢ None
something None s e = absurd cc
something (Some node) s e = absurd cc

some_is : (o : Option Node) → o ≢ None → is_some o ≡ true
some_is None some = absurd (some refl)
some_is (Some node) some = refl

-- something exists at each member's key
pub members_there : (tree : Tree) (directory : Key) (name : List ℕ) → IsIn name (members tree directory) → get tree (member directory name) ≢ None
members_there tree directory name inside =
    let (key, at, named) = come_from (name_in directory) (keys tree) name inside in
    let key_is = member-name_in directory key name named in
    something (get tree (member directory name)) (contains_key-keys tree (member directory name) ∙ in_found (keys tree) (member directory name) (subst (λ k. IsIn k (keys tree)) key_is at))

-- whatever exists directly in the directory is a member
pub there_members : (tree : Tree) (directory : Key) (name : List ℕ) → get tree (member directory name) ≢ None → IsIn name (members tree directory)
there_members tree directory name some =
    kept_in (name_in directory) (keys tree) (member directory name) name (name_in-member directory name)
    (found_in (keys tree) (member directory name) (sym (contains_key-keys tree (member directory name)) ∙ some_is (get tree (member directory name)) some))

both : (a b : Bool) → T (a && b) → T a × T b
both true b h = (tt, h)
both false b h = absurd h

not_below_itself : (key : Key) → T (is_lt (key_cmp key key)) → ⊥
not_below_itself key h = subst (λ r. T (is_lt r)) (tied_itself key_cmp_total key) h

below_others : {X : Type 0} (key : Key) (es : List (Key × X)) → T (below_all key_cmp key es) → IsIn key (map (λ e. e.0) es) → ⊥
below_others key [] h inside = inside
below_others key (e ∷ es) h (inl same) = not_below_itself key (subst (λ k. T (is_lt (key_cmp key k))) same (both _ _ h).0)
below_others key (e ∷ es) h (inr inside) = below_others key es (both (is_lt (key_cmp key e.0)) _ h).1 inside

sorted_apart : {X : Type 0} (es : List (Key × X)) → T (is_sorted key_cmp es) → AreDistinct (map (λ e. e.0) es)
sorted_apart [] h = tt
sorted_apart (e ∷ es) h = let p = both (below_all key_cmp e.0 es) _ h in (below_others e.0 es p.0, sorted_apart es p.1)

-- no member occurs twice
pub members_distinct : (tree : Tree) (directory : Key) → AreDistinct (members tree directory)
members_distinct tree directory =
    kept_apart (name_in directory) (λ x z name ex ez. member-name_in directory x name ex ∙ sym (member-name_in directory z name ez))
    (keys tree) (sorted_apart (entries tree) (entries_sorted tree))

nothing_in : {X : Type 0} (xs : List X) → ((x : X) → IsIn x xs → ⊥) → xs ≡ []
nothing_in [] none = refl
nothing_in (x ∷ xs) none = absurd (none x (inl refl))

-- a directory with nothing directly in it has no members
pub no_members : (tree : Tree) (directory : Key) → ((name : List ℕ) → get tree (member directory name) ≡ None) → members tree directory ≡ []
no_members tree directory none = nothing_in (members tree directory) (λ name inside. members_there tree directory name inside (none name))
