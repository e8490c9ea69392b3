-- A list of entries in order, and what a put and a removal make of it.
use Rattle.std.proofs.Common.{◌≡◌, ℤ, T, Bool, true, false, ◌&&◌, cond, not, List, [], ◌∷◌, ◌++◌, refl, sym, ap, subst, ◌∙◌, int_cmp, Ordering, Less, Equal, Greater}
use Rattle.std.specs.Prelude.{◌<ℤ◌}
use Rattle.std.specs.Ordering.{is_eq, is_lt, ordering_reverse}
use Rattle.std.specs.List.{AllByRecursion}
use Rattle.std.specs.Cmp.{int_cmp_is, tied_itself}
use Rattle.std.proofs.lemmas.Cmp.{int_cmp_total}
use Rattle.std.specs.FinMap.{entries, entries_sorted, insert, remove, entries-insert}
use Rattle.std.specs.FinMap.Entries.{put, where_key, by_order, is_sorted, below_all}
use Rattle.dav_rows.specs.Stored.{Numbered}
use Rattle.dav_rows.proofs.RowLemmas.{is_other, entries-remove}

left_of : (a b : Bool) → T (a && b) → T a
left_of true b p = tt
left_of false b p = p

right_of : (a b : Bool) → T (a && b) → T b
right_of true b p = p
right_of false b p = absurd p

less : (o : Ordering) → T (is_lt o) → o ≡ Less
less Less p = refl
less Equal p = absurd p
less Greater p = absurd p

itself : (k : ℤ) → int_cmp k k ≡ Equal
itself k = tied_itself int_cmp_total k

greater : (a b : ℤ) → T (is_lt (int_cmp a b)) → int_cmp b a ≡ Greater
greater a b low = int_cmp_total.antisymm b a ∙ ap ordering_reverse (less _ low)

module _ {V : Type 0} where
  -- the number is above those of all entries before it
  below_middle : (x : ℤ) (done : List (ℤ × V)) (e : ℤ × V) (rest : List (ℤ × V)) → T (below_all int_cmp x (done ++ e ∷ rest)) → T (is_lt (int_cmp x e.0))
  below_middle x [] e rest low = left_of _ _ low
  below_middle x (d ∷ done) e rest low = below_middle x done e rest (right_of _ _ low)

  put_middle : (done : List (ℤ × V)) (k : ℤ) (v w : V) (rest : List (ℤ × V)) → T (is_sorted int_cmp (done ++ (k, v) ∷ rest)) → put int_cmp k w (done ++ (k, v) ∷ rest) ≡ done ++ (k, w) ∷ rest
  put_middle [] k v w rest sorted = ap (λ o. by_order o ((k, w) ∷ (k, v) ∷ rest) ((k, w) ∷ rest) ((k, v) ∷ put int_cmp k w rest)) (itself k)
  put_middle (d ∷ done) k v w rest sorted =
      ap (λ o. by_order o ((k, w) ∷ d ∷ (done ++ (k, v) ∷ rest)) ((d.0, w) ∷ (done ++ (k, v) ∷ rest)) (d ∷ put int_cmp k w (done ++ (k, v) ∷ rest)))
      (greater d.0 k (below_middle d.0 done (k, v) rest (left_of _ _ sorted)))
      ∙ ap (λ es. d ∷ es) (put_middle done k v w rest (right_of _ _ sorted))

  -- none of the entries above a number has it
  all_other : (k : ℤ) (rest : List (ℤ × V)) → T (below_all int_cmp k rest) → where_key int_cmp (is_other k) rest ≡ rest
  all_other k [] low = refl
  all_other k (e ∷ rest) low =
      ap (λ o. cond (not (is_eq o)) (e ∷ where_key int_cmp (is_other k) rest) (where_key int_cmp (is_other k) rest)) (less _ (left_of _ _ low))
      ∙ ap (λ es. e ∷ es) (all_other k rest (right_of _ _ low))

  without_middle : (done : List (ℤ × V)) (k : ℤ) (v : V) (rest : List (ℤ × V)) → T (is_sorted int_cmp (done ++ (k, v) ∷ rest)) → where_key int_cmp (is_other k) (done ++ (k, v) ∷ rest) ≡ done ++ rest
  without_middle [] k v rest sorted =
      ap (λ o. cond (not (is_eq o)) ((k, v) ∷ where_key int_cmp (is_other k) rest) (where_key int_cmp (is_other k) rest)) (itself k) ∙ all_other k rest (left_of _ _ sorted)
  without_middle (d ∷ done) k v rest sorted =
      ap (λ o. cond (not (is_eq o)) (d ∷ where_key int_cmp (is_other k) (done ++ (k, v) ∷ rest)) (where_key int_cmp (is_other k) (done ++ (k, v) ∷ rest)))
      (greater d.0 k (below_middle d.0 done (k, v) rest (left_of _ _ sorted)))
      ∙ ap (λ es. d ∷ es) (without_middle done k v rest (right_of _ _ sorted))

  put_end : (k : ℤ) (v : V) (es : List (ℤ × V)) → AllByRecursion (λ e. e.0 <ℤ k) es → put int_cmp k v es ≡ es ++ (k, v) ∷ []
  put_end k v [] low = refl
  put_end k v (e ∷ es) low =
      ap (λ o. by_order o ((k, v) ∷ e ∷ es) ((e.0, v) ∷ es) (e ∷ put int_cmp k v es)) (sym (int_cmp_is k e.0 Greater low.0))
      ∙ ap (λ es. e ∷ es) (put_end k v es low.1)

  sorted_as : (m : Numbered V) (es : List (ℤ × V)) → entries m ≡ es → T (is_sorted int_cmp es)
  sorted_as m es is = subst (λ es. T (is_sorted int_cmp es)) is (entries_sorted m)

  -- a put at a number in use
  pub insert_middle : (m : Numbered V) (done : List (ℤ × V)) (k : ℤ) (v w : V) (rest : List (ℤ × V)) → entries m ≡ done ++ (k, v) ∷ rest → entries (insert m k w) ≡ done ++ (k, w) ∷ rest
  insert_middle m done k v w rest is =
      entries-insert int_cmp_total m k w ∙ ap (put int_cmp k w) is ∙ put_middle done k v w rest (sorted_as m _ is)

  -- a removal
  pub remove_middle : (m : Numbered V) (done : List (ℤ × V)) (k : ℤ) (v : V) (rest : List (ℤ × V)) → entries m ≡ done ++ (k, v) ∷ rest → entries (remove m k) ≡ done ++ rest
  remove_middle m done k v rest is =
      entries-remove m k ∙ ap (where_key int_cmp (is_other k)) is ∙ without_middle done k v rest (sorted_as m _ is)

  -- a put at a number above all in use
  pub insert_end : (m : Numbered V) (es : List (ℤ × V)) (k : ℤ) (v : V) → entries m ≡ es → AllByRecursion (λ e. e.0 <ℤ k) es → entries (insert m k v) ≡ es ++ (k, v) ∷ []
  insert_end m es k v is low = entries-insert int_cmp_total m k v ∙ ap (put int_cmp k v) is ∙ put_end k v es low
