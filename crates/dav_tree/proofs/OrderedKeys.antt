-- From the entries of an ordered map to the finite map that contracts see.
use Rattle.std.proofs.Common.{◌≡◌, ◌∙◌, ℕ, ◌+◌, ◌&&◌, Bool, true, false, cond, T, List, [], ◌∷◌, Some, None, refl, sym, ap}
use Rattle.std.specs.declared.cmp.Ordering.{Ordering}
use Rattle.std.specs.declared.cmp.Ordering.TheVariants.{Less, Equal, Greater}
use Rattle.std.specs.declared.ops.Bound.TheVariants.{Included, Unbounded}
use Rattle.std.specs.Ordering.{eq_by_cmp, is_eq, is_le, match_ordering}
use Rattle.std.specs.Cmp.{eq_by_cmp_equiv}
use Rattle.std.specs.List.{AllByRecursion, filter, sum_by}
use Rattle.std.specs.List.Sorted.{IsStrictlySortedBy}
use Rattle.std.specs.Map.{lookup, remove_entry, set_value, keys_of, values_of}
use Rattle.std.specs.BTreeMap.{BTreeMap, insert_entry, is_at, IsOrdered}
use Rattle.std.specs.BTreeMap.Range.{entries_between}
use Rattle.std.specs.FinMap as fin
use Rattle.std.specs.FinMap.Entries.{find, put, is_sorted, below_all, by_order, find-put}
use Rattle.std.proofs.lemmas.List.Sums.{sum_by-cons}
use Rattle.std.proofs.lemmas.Map.{lookup-remove_entry}
use Rattle.std.proofs.lemmas.Map.Keys.{sorted_head, sorted_tail, IsDistinct-from_sorted}
use Rattle.dav_key.specs.Key.{Key, key_cmp, key_cmp_total, key_cmp_exact, tied_decides}
use Rattle.dav_tree.specs.OrderedMaps.{seen_entries, seen_map, ComparesAs, OrdersAs}

both : (a b : Bool) → T a → T b → T (a && b)
both true b p q = q
both false b p q = p

tied : (order : Ordering) → is_eq order ≡ true → order ≡ Equal
tied Less e = absurd cc
tied Equal e = refl
tied Greater e = absurd cc

same_test : (k x y : Key) → eq_by_cmp key_cmp k x ≡ true → eq_by_cmp key_cmp k y ≡ eq_by_cmp key_cmp x y
same_test k x y e = ap is_eq (key_cmp_total.congr k x y (tied (key_cmp k x) e))

find_lookup : {X : Type 0} (q : Key) (es : List (Key × X)) → find key_cmp q es ≡ lookup (eq_by_cmp key_cmp q) es
find_lookup q [] = refl
find_lookup q (e ∷ es) = ap (cond (eq_by_cmp key_cmp q e.0) (Some e.1)) (find_lookup q es)

shadowed : {A : Type 0} (b : Bool) (x y z : A) → cond b x z ≡ cond b x (cond b y z)
shadowed true x y z = refl
shadowed false x y z = refl

swapped : {A : Type 0} (a b : Bool) (x y z : A) → (a ≡ true → b ≡ true → ⊥) → cond a x (cond b y z) ≡ cond b y (cond a x z)
swapped true true x y z apart = absurd (apart refl refl)
swapped true false x y z apart = refl
swapped false b x y z apart = refl

module _ {K X : Type 0} (key : K → Key) where
  -- ---- what stands at a key

  lookup-seen : (compare : K → Ordering) (q : Key) → ComparesAs key compare q → (es : List (K × X)) → lookup (is_at compare) es ≡ find key_cmp q (seen_entries key es)
  lookup-seen compare q as_q [] = refl
  lookup-seen compare q as_q (e ∷ es) = λ i. cond (is_eq (as_q e.0 i)) (Some e.1) (lookup-seen compare q as_q es i)

  pub get-seen : (compare : K → Ordering) (q : Key) → ComparesAs key compare q → (m : BTreeMap K X) → lookup (is_at compare) m.entries ≡ fin.get (seen_map key m) q
  get-seen compare q as_q m = lookup-seen compare q as_q m.entries ∙ sym (fin.get-from_entries key_cmp_total (seen_entries key m.entries) q)

  pub same-map : (m n : BTreeMap K X) → n.entries ≡ m.entries → seen_map key n ≡ seen_map key m
  same-map m n is = ap (λ es. fin.from_entries (seen_entries key es)) is

  -- ---- an entry is put at a key

  insert_step : (r : Ordering) (k : K) (v : X) (e : K × X) (es more : List (K × X)) (fs : List (Key × X)) → seen_entries key more ≡ fs
      → seen_entries key (match_ordering r ((k, v) ∷ e ∷ es) ((e.0, v) ∷ es) (e ∷ more)) ≡ by_order r ((key k, v) ∷ seen_entries key (e ∷ es)) ((key e.0, v) ∷ seen_entries key es) ((key e.0, e.1) ∷ fs)
  insert_step Less k v e es more fs is = refl
  insert_step Equal k v e es more fs is = refl
  insert_step Greater k v e es more fs is = λ i. (key e.0, e.1) ∷ is i

  insert-seen : (own : K → K → Ordering) (k : K) (v : X) → ComparesAs key (own k) (key k) → (es : List (K × X)) → seen_entries key (insert_entry own es k v) ≡ put key_cmp (key k) v (seen_entries key es)
  insert-seen own k v as_k [] = refl
  insert-seen own k v as_k (e ∷ es) =
      insert_step (own k e.0) k v e es (insert_entry own es k v) (put key_cmp (key k) v (seen_entries key es)) (insert-seen own k v as_k es)
      ∙ ap (λ r. by_order r ((key k, v) ∷ seen_entries key (e ∷ es)) ((key e.0, v) ∷ seen_entries key es) ((key e.0, e.1) ∷ put key_cmp (key k) v (seen_entries key es))) (as_k e.0)

  pub insert-map : (own : K → K → Ordering) (k : K) (v : X) → ComparesAs key (own k) (key k) → (m n : BTreeMap K X) → n.entries ≡ insert_entry own m.entries k v → seen_map key n ≡ fin.insert (seen_map key m) (key k) v
  insert-map own k v as_k m n is =
      fin.same_map key_cmp_total key_cmp_exact _ _ (λ q. fin.get-from_entries key_cmp_total (seen_entries key n.entries) q
      ∙ ap (λ es. find key_cmp q (seen_entries key es)) is
      ∙ ap (find key_cmp q) (insert-seen own k v as_k m.entries)
      ∙ find-put key_cmp key_cmp_total q (key k) v (seen_entries key m.entries)
      ∙ sym (fin.get-insert key_cmp_total (seen_map key m) (key k) v q ∙ ap (cond (eq_by_cmp key_cmp q (key k)) (Some v)) (fin.get-from_entries key_cmp_total (seen_entries key m.entries) q)))

  -- ---- another value is put at a key that is there

  find-set : (compare : K → Ordering) (q : Key) → ComparesAs key compare q → (x : Key) (v w : X) (es : List (K × X)) → lookup (is_at compare) es ≡ Some v
      → find key_cmp x (seen_entries key (set_value (is_at compare) es w)) ≡ cond (eq_by_cmp key_cmp x q) (Some w) (find key_cmp x (seen_entries key es))
  find-set compare q as_q x v w [] found = absurd cc
  find-set compare q as_q x v w (e ∷ es) found = by (is_at compare e.0) refl found (find-set compare q as_q x v w es)
    where
      apart : is_at compare e.0 ≡ false → eq_by_cmp key_cmp x (key e.0) ≡ true → eq_by_cmp key_cmp x q ≡ true → ⊥
      apart other a t = let at : is_at compare e.0 ≡ true = ap is_eq (as_q e.0) ∙ (tied_decides q (key e.0)).1 (sym ((tied_decides x q).0 t) ∙ (tied_decides x (key e.0)).0 a) in absurd cc

      by : (b : Bool) → is_at compare e.0 ≡ b → cond b (Some e.1) (lookup (is_at compare) es) ≡ Some v
          → (lookup (is_at compare) es ≡ Some v → find key_cmp x (seen_entries key (set_value (is_at compare) es w)) ≡ cond (eq_by_cmp key_cmp x q) (Some w) (find key_cmp x (seen_entries key es)))
          → find key_cmp x (seen_entries key (cond b ((e.0, w) ∷ es) (e ∷ set_value (is_at compare) es w))) ≡ cond (eq_by_cmp key_cmp x q) (Some w) (find key_cmp x (seen_entries key (e ∷ es)))
      by true at is later =
          shadowed (eq_by_cmp key_cmp x (key e.0)) (Some w) (Some e.1) (find key_cmp x (seen_entries key es))
          ∙ ap (λ k. cond (eq_by_cmp key_cmp x k) (Some w) (find key_cmp x (seen_entries key (e ∷ es)))) (sym ((tied_decides q (key e.0)).0 (sym (ap is_eq (as_q e.0)) ∙ at)))
      by false at is later =
          ap (cond (eq_by_cmp key_cmp x (key e.0)) (Some e.1)) (later is)
          ∙ swapped (eq_by_cmp key_cmp x (key e.0)) (eq_by_cmp key_cmp x q) (Some e.1) (Some w) (find key_cmp x (seen_entries key es)) (apart at)

  pub set-map : (compare : K → Ordering) (q : Key) → ComparesAs key compare q → (v w : X) (m n : BTreeMap K X) → lookup (is_at compare) m.entries ≡ Some v → n.entries ≡ set_value (is_at compare) m.entries w
      → seen_map key n ≡ fin.insert (seen_map key m) q w
  set-map compare q as_q v w m n found is =
      fin.same_map key_cmp_total key_cmp_exact _ _ (λ x. fin.get-from_entries key_cmp_total (seen_entries key n.entries) x
      ∙ ap (λ es. find key_cmp x (seen_entries key es)) is
      ∙ find-set compare q as_q x v w m.entries found
      ∙ sym (fin.get-insert key_cmp_total (seen_map key m) q w x ∙ ap (cond (eq_by_cmp key_cmp x q) (Some w)) (fin.get-from_entries key_cmp_total (seen_entries key m.entries) x)))

  -- ---- a key is taken out

  remove_step : (b : Bool) (e : K × X) (es more : List (K × X)) (fs : List (Key × X)) → seen_entries key more ≡ fs → seen_entries key (cond b es (e ∷ more)) ≡ cond b (seen_entries key es) ((key e.0, e.1) ∷ fs)
  remove_step true e es more fs is = refl
  remove_step false e es more fs is = λ i. (key e.0, e.1) ∷ is i

  remove-seen : (compare : K → Ordering) (q : Key) → ComparesAs key compare q → (es : List (K × X)) → seen_entries key (remove_entry (is_at compare) es) ≡ remove_entry (eq_by_cmp key_cmp q) (seen_entries key es)
  remove-seen compare q as_q [] = refl
  remove-seen compare q as_q (e ∷ es) =
      remove_step (is_at compare e.0) e es (remove_entry (is_at compare) es) (remove_entry (eq_by_cmp key_cmp q) (seen_entries key es)) (remove-seen compare q as_q es)
      ∙ ap (λ r. cond (is_eq r) (seen_entries key es) ((key e.0, e.1) ∷ remove_entry (eq_by_cmp key_cmp q) (seen_entries key es))) (as_q e.0)

  above_keys : (own : K → K → Ordering) → OrdersAs key own → (k : K) (es : List (K × X)) → AllByRecursion (λ y. own k y ≡ Less) (keys_of es) → AllByRecursion (λ y. key_cmp (key k) y ≡ Less) (keys_of (seen_entries key es))
  above_keys own as_own k [] h = tt
  above_keys own as_own k (e ∷ es) h = (sym (as_own k e.0) ∙ h.0, above_keys own as_own k es h.1)

  sorted_keys : (own : K → K → Ordering) → OrdersAs key own → (es : List (K × X)) → IsStrictlySortedBy own (keys_of es) → IsStrictlySortedBy key_cmp (keys_of (seen_entries key es))
  unfolding IsStrictlySortedBy
  sorted_keys own as_own [] h = tt
  sorted_keys own as_own (e ∷ es) h = (above_keys own as_own e.0 es h.0, sorted_keys own as_own es h.1)

  pub remove-map : (own : K → K → Ordering) → OrdersAs key own → (compare : K → Ordering) (q : Key) → ComparesAs key compare q → (m n : BTreeMap K X) → IsOrdered own m → n.entries ≡ remove_entry (is_at compare) m.entries
      → seen_map key n ≡ fin.remove (seen_map key m) q
  remove-map own as_own compare q as_q m n ordered is =
      fin.same_map key_cmp_total key_cmp_exact _ _ (λ x. fin.get-from_entries key_cmp_total (seen_entries key n.entries) x
      ∙ ap (λ es. find key_cmp x (seen_entries key es)) is
      ∙ ap (find key_cmp x) (remove-seen compare q as_q m.entries)
      ∙ find_lookup x _
      ∙ lookup-remove_entry (eq_by_cmp_equiv key_cmp_total) (eq_by_cmp key_cmp q) (same_test q) x (seen_entries key m.entries) (IsDistinct-from_sorted key_cmp (keys_of (seen_entries key m.entries)) (sorted_keys own as_own m.entries ordered))
      ∙ ap (λ b. cond b None (lookup (eq_by_cmp key_cmp x) (seen_entries key m.entries))) ((eq_by_cmp_equiv key_cmp_total).symm q x)
      ∙ sym (fin.get-remove key_cmp_total (seen_map key m) q x ∙ ap (cond (eq_by_cmp key_cmp x q) None) (fin.get-from_entries key_cmp_total (seen_entries key m.entries) x ∙ find_lookup x (seen_entries key m.entries))))

  -- ---- the entries in their order

  all_above : (own : K → K → Ordering) → OrdersAs key own → (k : K) (es : List (K × X)) → AllByRecursion (λ y. own k y ≡ Less) (keys_of es) → T (below_all key_cmp (key k) (seen_entries key es))
  all_above own as_own k [] h = tt
  all_above own as_own k (e ∷ es) h = rw (sym (as_own k e.0) ∙ h.0) (all_above own as_own k es h.1)

  sorted-seen : (own : K → K → Ordering) → OrdersAs key own → (es : List (K × X)) → IsStrictlySortedBy own (keys_of es) → T (is_sorted key_cmp (seen_entries key es))
  sorted-seen own as_own [] h = tt
  sorted-seen own as_own (e ∷ es) h =
      both (below_all key_cmp (key e.0) (seen_entries key es)) (is_sorted key_cmp (seen_entries key es))
      (all_above own as_own e.0 es (sorted_head own e.0 (keys_of es) h)) (sorted-seen own as_own es (sorted_tail own e.0 (keys_of es) h))

  pub entries-map : (own : K → K → Ordering) → OrdersAs key own → (m : BTreeMap K X) → IsOrdered own m → fin.entries (seen_map key m) ≡ seen_entries key m.entries
  entries-map own as_own m ordered =
      let sorted : T (is_sorted key_cmp (seen_entries key m.entries)) = sorted-seen own as_own m.entries ordered in
      ap fin.entries (fin.same_map key_cmp_total key_cmp_exact (seen_map key m) (fin.from_sorted (seen_entries key m.entries))
      (λ q. fin.get-from_entries key_cmp_total (seen_entries key m.entries) q ∙ sym (fin.get-from_sorted key_cmp (seen_entries key m.entries) q sorted)))
      ∙ fin.entries-from_sorted key_cmp (seen_entries key m.entries) sorted

  sum-seen : (f : X → ℕ) (es : List (K × X)) → sum_by (λ e. f e.1) (seen_entries key es) ≡ sum_by f (values_of es)
  sum-seen f [] = refl
  sum-seen f (e ∷ es) = sum_by-cons (λ (x : Key × X). f x.1) (key e.0, e.1) (seen_entries key es) ∙ ap (λ n. f e.1 + n) (sum-seen f es) ∙ sym (sum_by-cons f e.1 (values_of es))

  -- a sum over the values
  pub sum-map : (own : K → K → Ordering) → OrdersAs key own → (f : X → ℕ) (m : BTreeMap K X) → IsOrdered own m → sum_by (λ e. f e.1) (fin.entries (seen_map key m)) ≡ sum_by f (values_of m.entries)
  sum-map own as_own f m ordered = ap (sum_by (λ e. f e.1)) (entries-map own as_own m ordered) ∙ sum-seen f m.entries

  -- ---- a part of the map, from a key on

  from_step : (r : Ordering) (e : K × X) (more : List (K × X)) (fs : List (Key × X)) → seen_entries key more ≡ fs
      → seen_entries key (cond (is_le r && true) (e ∷ more) more) ≡ cond (is_le r) ((key e.0, e.1) ∷ fs) fs
  from_step Less e more fs is = λ i. (key e.0, e.1) ∷ is i
  from_step Equal e more fs is = λ i. (key e.0, e.1) ∷ is i
  from_step Greater e more fs is = is

  pub from-seen : (own : K → K → Ordering) (k : K) → ComparesAs key (own k) (key k) → (es : List (K × X))
      → seen_entries key (entries_between own (Included k) Unbounded es) ≡ filter (λ e. is_le (key_cmp (key k) e.0)) (seen_entries key es)
  from-seen own k as_k [] = refl
  from-seen own k as_k (e ∷ es) =
      from_step (own k e.0) e (entries_between own (Included k) Unbounded es) (filter (λ x. is_le (key_cmp (key k) x.0)) (seen_entries key es)) (from-seen own k as_k es)
      ∙ ap (λ r. cond (is_le r) ((key e.0, e.1) ∷ filter (λ x. is_le (key_cmp (key k) x.0)) (seen_entries key es)) (filter (λ x. is_le (key_cmp (key k) x.0)) (seen_entries key es))) (as_k e.0)
