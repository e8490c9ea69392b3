-- What a change of a table makes of the digests of its rows.
use Rattle.std.proofs.Common.{◌≡◌, ℕ, ℤ, Bool, true, false, cond, not, ◌&&◌, T, List, [], ◌∷◌, ◌++◌, map, refl, sym, ap, subst, ◌∙◌, int_cmp, Ordering, Less, Equal, Greater, append_assoc, append-nil}
use Rattle.std.specs.Prelude.{fold}
use Rattle.std.specs.Ordering.{is_eq, is_lt, ordering_reverse, eq_by_cmp, match_ordering}
use Rattle.std.specs.List.{AllByRecursion}
use Rattle.std.specs.Map.{remove_entry}
use Rattle.std.specs.BTreeMap.{insert_entry, is_at}
use Rattle.std.proofs.lemmas.Cmp.{int_cmp_total}
use Rattle.std.specs.FinMap.{int_cmp-IsAntisymmetric}
use Rattle.std.specs.FinMap.Entries.{put, where_key, by_order, below_all, is_sorted}
use Rattle.dav_rows.proofs.RowLemmas.{is_other}
use Rattle.dav_seal.specs.Digests.{numbered_by}
use Rattle.dav_seal.specs.Puts.{put_all}

both : (a b : Bool) → T (a && b) → T a × T b
both true b p = (tt, p)
both false b p = absurd p

less : (o : Ordering) → T (is_lt o) → o ≡ Less
less Less p = refl
less Equal p = absurd p
less Greater p = absurd p

equal : (o : Ordering) → is_eq o ≡ true → o ≡ Equal
equal Less e = cc
equal Equal e = refl
equal Greater e = cc

-- ---- a row that is put, and one that is removed

module _ {V : Type 0} (digest_of : ℤ × V → ℕ) where
  pub insert_entry-numbered_by : (k : ℤ) (v : V) (es : List (ℤ × V)) → insert_entry int_cmp (numbered_by digest_of es) k (digest_of (k, v)) ≡ numbered_by digest_of (put int_cmp k v es)
  insert_entry-numbered_by k v [] = refl
  insert_entry-numbered_by k v (e ∷ es) = go (int_cmp k e.0) refl (insert_entry-numbered_by k v es)
    where
      go : (o : Ordering) → int_cmp k e.0 ≡ o → insert_entry int_cmp (numbered_by digest_of es) k (digest_of (k, v)) ≡ numbered_by digest_of (put int_cmp k v es)
          → match_ordering o ((k, digest_of (k, v)) ∷ (e.0, digest_of e) ∷ numbered_by digest_of es) ((e.0, digest_of (k, v)) ∷ numbered_by digest_of es)
          ((e.0, digest_of e) ∷ insert_entry int_cmp (numbered_by digest_of es) k (digest_of (k, v)))
          ≡ numbered_by digest_of (by_order o ((k, v) ∷ e ∷ es) ((e.0, v) ∷ es) (e ∷ put int_cmp k v es))
      go Less is more = refl
      go Equal is more = ap (λ x. (e.0, digest_of (x, v)) ∷ numbered_by digest_of es) (int_cmp-IsAntisymmetric k e.0 is)
      go Greater is more = ap (λ l. (e.0, digest_of e) ∷ l) more

  -- no later row has the number
  none_left : (k : ℤ) (es : List (ℤ × V)) → T (below_all int_cmp k es) → where_key int_cmp (is_other k) es ≡ es
  none_left k [] below = refl
  none_left k (e ∷ es) below =
      let parts = both _ _ below in
      ap (λ o. cond (not (is_eq o)) (e ∷ where_key int_cmp (is_other k) es) (where_key int_cmp (is_other k) es)) (less _ parts.0) ∙ ap (λ l. e ∷ l) (none_left k es parts.1)

  pub remove_entry-numbered_by : (k : ℤ) (es : List (ℤ × V)) → T (is_sorted int_cmp es)
      → remove_entry (is_at (int_cmp k)) (numbered_by digest_of es) ≡ numbered_by digest_of (where_key int_cmp (is_other k) es)
  remove_entry-numbered_by k [] sorted = refl
  remove_entry-numbered_by k (e ∷ es) sorted = go (eq_by_cmp int_cmp k e.0) refl (remove_entry-numbered_by k es (both _ _ sorted).1)
    where
      go : (b : Bool) → eq_by_cmp int_cmp k e.0 ≡ b → remove_entry (is_at (int_cmp k)) (numbered_by digest_of es) ≡ numbered_by digest_of (where_key int_cmp (is_other k) es)
          → cond b (numbered_by digest_of es) ((e.0, digest_of e) ∷ remove_entry (is_at (int_cmp k)) (numbered_by digest_of es))
          ≡ numbered_by digest_of (cond (not b) (e ∷ where_key int_cmp (is_other k) es) (where_key int_cmp (is_other k) es))
      go true is more =
          let same : e.0 ≡ k = sym (int_cmp-IsAntisymmetric k e.0 (equal _ is)) in
          ap (numbered_by digest_of) (sym (none_left k es (subst (λ x. T (below_all int_cmp x es)) same (both _ _ sorted).0)))
      go false is more = ap (λ l. (e.0, digest_of e) ∷ l) more

  below-numbered_by : (k : ℤ) (es : List (ℤ × V)) → below_all int_cmp k (numbered_by digest_of es) ≡ below_all int_cmp k es
  below-numbered_by k [] = refl
  below-numbered_by k (e ∷ es) = ap (λ b. is_lt (int_cmp k e.0) && b) (below-numbered_by k es)

  pub is_sorted-numbered_by : (es : List (ℤ × V)) → is_sorted int_cmp (numbered_by digest_of es) ≡ is_sorted int_cmp es
  is_sorted-numbered_by [] = refl
  is_sorted-numbered_by (e ∷ es) = λ i. below-numbered_by e.0 es i && is_sorted-numbered_by es i

module _ {V : Type 0} (P : ℤ × V → Type 0) where
  pub All-put : (k : ℤ) (v : V) (es : List (ℤ × V)) → P (k, v) → AllByRecursion P es → AllByRecursion P (put int_cmp k v es)
  All-put k v [] here all = (here, tt)
  All-put k v (e ∷ es) here all = go (int_cmp k e.0) refl (All-put k v es here all.1)
    where
      go : (o : Ordering) → int_cmp k e.0 ≡ o → AllByRecursion P (put int_cmp k v es) → AllByRecursion P (by_order o ((k, v) ∷ e ∷ es) ((e.0, v) ∷ es) (e ∷ put int_cmp k v es))
      go Less is more = (here, all)
      go Equal is more = (subst (λ x. P (x, v)) (int_cmp-IsAntisymmetric k e.0 is) here, all.1)
      go Greater is more = (all.0, more)

  pub All-where_key : (p : ℤ → Bool) (es : List (ℤ × V)) → AllByRecursion P es → AllByRecursion P (where_key int_cmp p es)
  All-where_key p [] all = tt
  All-where_key p (e ∷ es) all = go (p e.0) (All-where_key p es all.1)
    where
      go : (b : Bool) → AllByRecursion P (where_key int_cmp p es) → AllByRecursion P (cond b (e ∷ where_key int_cmp p es) (where_key int_cmp p es))
      go true more = (all.0, more)
      go false more = more

pub All-map : {R E : Type 0} (P : E → Type 0) (entry : R → E) (rows : List R) → AllByRecursion (λ r. P (entry r)) rows → AllByRecursion P (map entry rows)
All-map P entry [] all = tt
All-map P entry (r ∷ rows) all = (all.0, All-map P entry rows all.1)

-- ---- rows that are put in the order of their numbers

below_member : (x k : ℤ) (d : ℕ) (before after : List (ℤ × ℕ)) → T (below_all int_cmp x (before ++ (k, d) ∷ after)) → T (is_lt (int_cmp x k))
below_member x k d [] after below = (both _ _ below).0
below_member x k d (e ∷ before) after below = below_member x k d before after (both _ _ below).1

insert_entry-last : (before : List (ℤ × ℕ)) (k : ℤ) (d : ℕ) (after : List (ℤ × ℕ)) → T (is_sorted int_cmp (before ++ (k, d) ∷ after)) → insert_entry int_cmp before k d ≡ before ++ (k, d) ∷ []
insert_entry-last [] k d after sorted = refl
insert_entry-last (e ∷ before) k d after sorted =
    let parts = both _ _ sorted in
    let greater : int_cmp k e.0 ≡ Greater = int_cmp_total.antisymm k e.0 ∙ ap ordering_reverse (less _ (below_member e.0 k d before after parts.0)) in
    ap (λ o. match_ordering o ((k, d) ∷ e ∷ before) ((e.0, d) ∷ before) (e ∷ insert_entry int_cmp before k d)) greater ∙ ap (λ l. e ∷ l) (insert_entry-last before k d after parts.1)

put_sorted : {R : Type 0} (number : R → ℤ) (digest : R → ℕ) (before : List (ℤ × ℕ)) (rows : List R) → T (is_sorted int_cmp (before ++ map (λ r. (number r, digest r)) rows))
    → fold (λ s r. insert_entry int_cmp s (number r) (digest r)) before rows ≡ before ++ map (λ r. (number r, digest r)) rows
put_sorted number digest before [] sorted = sym (append-nil before)
put_sorted number digest before (r ∷ rows) sorted =
    let rest = map (λ r. (number r, digest r)) rows in
    let e = insert_entry-last before (number r) (digest r) rest sorted in
    let joined : (before ++ (number r, digest r) ∷ []) ++ rest ≡ before ++ (number r, digest r) ∷ rest = append_assoc before ((number r, digest r) ∷ []) rest in
    ap (λ s. fold (λ s r. insert_entry int_cmp s (number r) (digest r)) s rows) e
    ∙ put_sorted number digest (before ++ (number r, digest r) ∷ []) rows (subst (λ l. T (is_sorted int_cmp l)) (sym joined) sorted)
    ∙ joined

map-map : {A B C : Type 0} (g : B → C) (f : A → B) (xs : List A) → map (λ x. g (f x)) xs ≡ map g (map f xs)
map-map g f [] = refl
map-map g f (x ∷ xs) = ap (λ l. g (f x) ∷ l) (map-map g f xs)

pub put_all-sorted : {R V : Type 0} (digest_of : ℤ × V → ℕ) (entry : R → ℤ × V) (rows : List R) → T (is_sorted int_cmp (map entry rows))
    → put_all (λ r. (entry r).0) (λ r. digest_of (entry r)) rows ≡ numbered_by digest_of (map entry rows)
put_all-sorted digest_of entry rows sorted =
    let same = map-map (λ e. (e.0, digest_of e)) entry rows in
    let ordered = subst T (sym (is_sorted-numbered_by digest_of (map entry rows)) ∙ ap (is_sorted int_cmp) (sym same)) sorted in
    put_sorted (λ r. (entry r).0) (λ r. digest_of (entry r)) [] rows ordered ∙ same
