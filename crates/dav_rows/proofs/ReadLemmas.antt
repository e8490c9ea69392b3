-- What SELECT shows.
use Rattle.std.proofs.Common.{◌≡◌, ℕ, ℤ, List, [], ◌∷◌, ◌++◌, map, flat_map, Bool, true, false, T, Equal, int_cmp, IsPermutation, refl, ap, subst, ◌∙◌, ◌&&◌}
use Rattle.std.specs.Ordering.{is_lt}
use Rattle.std.specs.Cmp.{IsTotalOrder}
use Rattle.std.specs.List.{AllByRecursion}
use Rattle.std.specs.FinMap.{entries, entries_sorted}
use Rattle.std.specs.FinMap.Entries.{is_sorted, below_all}
use Rattle.std.proofs.lemmas.Cmp.{on_total, then_total}
use Rattle.sqlite_value.proofs.OrderLemmas.{value_cmp_total, value_cmp-Int, then-Equal}
use Rattle.sqlite_trees.proofs.ListLemmas.{map-map}
use Rattle.sqlite.specs.declared.types.Value.TheVariants.{Null, Int}
use Rattle.sqlite.specs.Order.{Row, column}
use Rattle.sqlite.specs.Query.{IsAnswer, Output, output, output_cmp}
use Rattle.sqlite.specs.Program.{overlay}
use Rattle.sqlite.specs.Tree.{Trees}
use Rattle.sqlite.specs.State.{State, Shown, Begins}
use Rattle.sqlite.proofs.Callers.{reads_as, begins_as}
use Rattle.dav_rows.specs.Tables.{rows_schema}
use Rattle.dav_rows.specs.Stored.{Numbered, stored, shown, AreRows}
use Rattle.dav_rows.proofs.Suits.{Selects, select_query}
use Rattle.dav_rows.proofs.OrderLemmas.{Rises, only_order}

ties_all : IsTotalOrder {K = Row} (λ a b. Equal)
ties_all = record { antisymm = λ x y. refl; trans = λ x y z p q. p; congr = λ x y z p. refl }

total : IsTotalOrder (output_cmp (select_query 0 []))
total = on_total (λ (o : Output). o.0) (then_total (on_total (λ r. column r 0) value_cmp_total) ties_all)

first : (a b : Bool) → T (a && b) → a ≡ true
first true b h = refl
first false b h = absurd h

second : (a b : Bool) → T (a && b) → T b
second true b h = h
second false b h = absurd h

module _ {V : Type 0} (cells : V → Row) where
  abbrev out_of : ℤ × V → Output
  out_of e = (Int e.0 ∷ [], shown cells e)

  below : (a b : ℤ × V) → is_lt (int_cmp a.0 b.0) ≡ true → is_lt (output_cmp (select_query 0 []) (out_of a) (out_of b)) ≡ true
  below a b low = ap is_lt (then-Equal _ ∙ value_cmp-Int a.0 b.0) ∙ low

  rises : (es : List (ℤ × V)) → T (is_sorted int_cmp es) → Rises (output_cmp (select_query 0 [])) total (map out_of es)
  rises [] up = tt
  rises (e ∷ es) up = (above es (let h = up in firstly _ _ h), rises es (second _ _ up))
    where
      firstly : (a b : Bool) → T (a && b) → T a
      firstly true b h = tt
      firstly false b h = absurd h

      above : (fs : List (ℤ × V)) → T (below_all int_cmp e.0 fs) → AllByRecursion (λ o. is_lt (output_cmp (select_query 0 []) (out_of e) o) ≡ true) (map out_of fs)
      above [] low = tt
      above (f ∷ fs) low = (below e f (first _ _ low), above fs (second _ _ low))

  module _ (tree : ℕ) (text : List ℕ) (seen : (db : Trees) → overlay db [] tree ≡ db tree) (s : Selects cells tree text) where
    kept_is : (es : List (ℤ × V)) → map (output (select_query tree s.project)) (flat_map (λ r. ([] ∷ r ∷ []) ∷ []) (map (stored cells) es)) ≡ map out_of es
    kept_is [] = refl
    kept_is (e ∷ es) = ap (λ row. (Int e.0 ∷ [], row) ∷ map (output (select_query tree s.project)) (flat_map (λ r. ([] ∷ r ∷ []) ∷ []) (map (stored cells) es))) (s.shows e) ∙ ap (λ l. out_of e ∷ l) (kept_is es)

    answered : (m : Numbered V) (db : Trees) (rows : List Row) → AreRows cells (db tree) m → IsAnswer (select_query tree s.project) (overlay db []) [] rows → rows ≡ map (shown cells) (entries m)
    answered m db rows is a =
        let query = select_query tree s.project in
        let kept : a.kept ≡ map out_of (entries m) =
        a.distinct ∙ ap (map (output query)) (a.grouped ∙ ap (flat_map (λ r. ([] ∷ r ∷ []) ∷ [])) (seen db ∙ is)) ∙ kept_is (entries m) in
        let ordered = only_order (output_cmp (select_query 0 [])) total (map out_of (entries m)) a.ordered (rises (entries m) (entries_sorted m)) (subst (λ k. IsPermutation k a.ordered) kept a.same) a.sorted in
        a.shown ∙ ap (map (λ (o : Output). o.1)) ordered ∙ map-map (λ (o : Output). o.1) out_of (entries m)

    pub loads : (old new : State) (rows : List Row) (m : Numbered V) → old.now.schema ≡ rows_schema → AreRows cells (old.now.trees tree) m → Shown text [] old new rows → rows ≡ map (shown cells) (entries m)
    loads old new rows m has is h =
        let read = reads_as text [] old new rows_schema has _ s.is s.plain s.unlisted rows h in
        answered m old.now.trees rows is (read.answer Null)

    -- rows that begin an answer
    pub begins : (old : State) (rows : List Row) (m : Numbered V) → old.now.schema ≡ rows_schema → AreRows cells (old.now.trees tree) m → Begins text [] old rows
        → (tail : List Row) × (rows ++ tail ≡ map (shown cells) (entries m))
    begins old rows m has is h =
        let read = (begins_as text [] old old rows_schema has _ s.is s.plain s.unlisted rows h).1 in
        (read.0, answered m old.now.trees (rows ++ read.0) is (read.1 Null))
