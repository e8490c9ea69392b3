-- The edits of a table's rows are those of the map.
use Rattle.std.proofs.Common.{◌≡◌, ℤ, Bool, true, false, cond, not, List, [], ◌∷◌, map, filter, Some, None, refl, sym, ap, ◌∙◌, int_cmp, Ordering, Less, Equal, Greater}
use Rattle.std.specs.Ordering.{is_eq, ordering_reverse, eq_by_cmp, match_ordering}
use Rattle.std.specs.List.{AllByRecursion}
use Rattle.std.proofs.lemmas.Cmp.{int_cmp_total}
use Rattle.std.specs.FinMap.{entries, entries_sorted, insert, remove, get-entries, get-insert, get-remove, entries-insert, same_map, from_sorted, entries-from_sorted, get-from_sorted, int_cmp-IsAntisymmetric}
use Rattle.std.specs.FinMap.Entries.{find, put, where_key, is_sorted-where_key, find-where_key, by_order}
use Rattle.sqlite_trees.proofs.ListLemmas.{filter-map, filter-filter}
use Rattle.sqlite_value.proofs.OrderLemmas.{value_cmp-Int}
use Rattle.sqlite.specs.Order.{Row}
use Rattle.sqlite.specs.Tree.{put_row, without_rowid, has_rowid}
use Rattle.sqlite.specs.Edit.{without_all}
use Rattle.dav_rows.specs.Stored.{Numbered, stored, AreRows}

pub flips : (a b : ℤ) → is_eq (int_cmp a b) ≡ is_eq (int_cmp b a)
flips a b = ap is_eq (int_cmp_total.antisymm a b) ∙ go (int_cmp b a)
  where
    go : (o : Ordering) → is_eq (ordering_reverse o) ≡ is_eq o
    go Less = refl
    go Equal = refl
    go Greater = refl

-- whether an entry has another number
abbrev pub is_other : ℤ → ℤ → Bool
is_other k x = not (eq_by_cmp int_cmp k x)

-- each of these ids is the number, and there is one
pub without_many : (k i : ℤ) (ids : List ℤ) (rows : List Row) → AllByRecursion (λ x. x ≡ k) (i ∷ ids) → without_all rows (i ∷ ids) ≡ without_rowid k rows
without_many k i [] rows all = ap (λ x. without_rowid x rows) all.0
without_many k i (j ∷ ids) rows all =
    without_many k j ids (without_rowid i rows) all.1 ∙ ap (λ x. without_rowid k (without_rowid x rows)) all.0 ∙ filter-filter (λ r. not (has_rowid k r)) (λ r. not (has_rowid k r)) (λ x e. e) rows

-- what is left without a number
pub entries-remove : {V : Type 0} (m : Numbered V) (k : ℤ) → entries (remove m k) ≡ where_key int_cmp (is_other k) (entries m)
entries-remove m k =
    let left = where_key int_cmp (is_other k) (entries m) in
    let sorted = is_sorted-where_key int_cmp (is_other k) (entries m) (entries_sorted m) in
    let same : remove m k ≡ from_sorted left = same_map int_cmp_total int_cmp-IsAntisymmetric _ _ (λ q.
    get-remove int_cmp_total m k q ∙ sym (get-from_sorted int_cmp left q sorted ∙ find-where_key int_cmp (is_other k) q (λ x tie. ap (λ z. not (eq_by_cmp int_cmp k z)) (sym (int_cmp-IsAntisymmetric q x tie))) (entries m)
    ∙ ap (λ b. cond (not b) (find int_cmp q (entries m)) None) (flips k q) ∙ turn (eq_by_cmp int_cmp q k) (find int_cmp q (entries m)) None ∙ ap (λ z. cond (eq_by_cmp int_cmp q k) None z) (sym (get-entries m q)))) in
    ap entries same ∙ entries-from_sorted int_cmp left sorted
  where
    turn : {X : Type 0} (b : Bool) (x y : X) → cond (not b) x y ≡ cond b y x
    turn true x y = refl
    turn false x y = refl

-- to put after a removal is to put
pub insert_after_remove : {V : Type 0} (m : Numbered V) (k : ℤ) (v : V) → insert (remove m k) k v ≡ insert m k v
insert_after_remove m k v = same_map int_cmp_total int_cmp-IsAntisymmetric _ _ (λ q.
    get-insert int_cmp_total (remove m k) k v q ∙ ap (cond (eq_by_cmp int_cmp q k) (Some v)) (get-remove int_cmp_total m k q) ∙ shadow (eq_by_cmp int_cmp q k) _ _ _ ∙ sym (get-insert int_cmp_total m k v q))
  where
    shadow : {X : Type 0} (b : Bool) (x y z : X) → cond b x (cond b y z) ≡ cond b x z
    shadow true x y z = refl
    shadow false x y z = refl

module _ {V : Type 0} (cells : V → Row) where
  pub put_stored : (k : ℤ) (v : V) (es : List (ℤ × V)) → put_row (stored cells (k, v)) (map (stored cells) es) ≡ map (stored cells) (put int_cmp k v es)
  put_stored k v [] = refl
  put_stored k v (e ∷ es) =
      ap (λ o. match_ordering o (stored cells e ∷ put_row (stored cells (k, v)) (map (stored cells) es)) (stored cells (k, v) ∷ map (stored cells) es) (stored cells (k, v) ∷ stored cells e ∷ map (stored cells) es))
      (value_cmp-Int e.0 k ∙ int_cmp_total.antisymm e.0 k) ∙ go (int_cmp k e.0) refl (put_stored k v es)
    where
      go : (o : Ordering) → int_cmp k e.0 ≡ o → put_row (stored cells (k, v)) (map (stored cells) es) ≡ map (stored cells) (put int_cmp k v es)
          → match_ordering (ordering_reverse o) (stored cells e ∷ put_row (stored cells (k, v)) (map (stored cells) es)) (stored cells (k, v) ∷ map (stored cells) es) (stored cells (k, v) ∷ stored cells e ∷ map (stored cells) es)
          ≡ map (stored cells) (by_order o ((k, v) ∷ e ∷ es) ((e.0, v) ∷ es) (e ∷ put int_cmp k v es))
      go Less is more = refl
      go Equal is more = ap (λ x. stored cells (x, v) ∷ map (stored cells) es) (int_cmp-IsAntisymmetric k e.0 is)
      go Greater is more = ap (λ l. stored cells e ∷ l) more

  pub without_stored : (k : ℤ) (es : List (ℤ × V)) → without_rowid k (map (stored cells) es) ≡ map (stored cells) (where_key int_cmp (is_other k) es)
  without_stored k es = filter-map (λ r. not (has_rowid k r)) (stored cells) es ∙ λ i. map (stored cells) (filter (λ (e : ℤ × V). not ((ap is_eq (value_cmp-Int e.0 k) ∙ flips e.0 k) i)) es)

  -- the rows of the map with the number put, whether it was removed first or not
  pub put_holds : (m : Numbered V) (k : ℤ) (v : V) (rows : List Row) → AreRows cells rows m → AreRows cells (put_row (stored cells (k, v)) rows) (insert m k v)
  put_holds m k v rows is = ap (put_row (stored cells (k, v))) is ∙ put_stored k v (entries m) ∙ ap (map (stored cells)) (sym (entries-insert int_cmp_total m k v))

  pub remove_holds : (m : Numbered V) (k : ℤ) (rows : List Row) → AreRows cells rows m → AreRows cells (without_rowid k rows) (remove m k)
  remove_holds m k rows is = ap (without_rowid k) is ∙ without_stored k (entries m) ∙ ap (map (stored cells)) (sym (entries-remove m k))
