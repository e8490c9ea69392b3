-- What DELETE makes of a table.
use Rattle.std.proofs.Common.{◌≡◌, ℕ, ℤ, List, [], ◌∷◌, ◌++◌, map, filter, flat_map, length, Bool, true, false, cond, not, None, int_cmp, Ok, ◌&&◌, refl, sym, ap, subst, ◌∙◌, arith}
use Rattle.std.specs.Ordering.{is_eq}
use Rattle.std.specs.List.{AllByRecursion, list_all}
use Rattle.std.specs.FinMap.{entries, remove}
use Rattle.std.specs.FinMap.Entries.{where_key}
use Rattle.std.proofs.lemmas.List.{length-map}
use Rattle.std.proofs.lemmas.List.Sorted.{length_permutation}
use Rattle.sqlite_trees.proofs.ListLemmas.{all-permutation}
use Rattle.sqlite_schema.specs.declared.schema.Column.{Column}
use Rattle.sqlite_rules.specs.Calls.{ids_of}
use Rattle.sqlite.specs.Rowids.TheVariants.{Given}
use Rattle.sqlite_rules.specs.Edit.{id_in}
use Rattle.sqlite.specs.declared.types.Value.TheVariants.{Null, Int}
use Rattle.sqlite.specs.Order.{Row}
use Rattle.sqlite.specs.Term.{Env, Term, holds}
use Rattle.sqlite.specs.Query.{IsAnswer, output, Output}
use Rattle.sqlite.specs.Program.{overlay}
use Rattle.sqlite.specs.Command.TheVariants.{Delete}
use Rattle.sqlite.specs.Edit.{without_all}
use Rattle.sqlite.specs.Does.{Tally, Does}
use Rattle.sqlite.specs.Rows.{Written}
use Rattle.sqlite.specs.Tree.{Trees, rowid}
use Rattle.sqlite.specs.Listing.{understood}
use Rattle.sqlite.specs.Effect.{Database}
use Rattle.sqlite.specs.State.{State, mode_of, Executes}
use Rattle.sqlite.proofs.Callers.{statement_of, runs_as}
use Rattle.dav_rows.specs.Tables.{rows_schema}
use Rattle.dav_rows.specs.Stored.{Numbered, stored, AreRows}
use Rattle.dav_rows.proofs.Suits.{Suits, Removes, remove_query}
use Rattle.dav_rows.proofs.RowLemmas.{is_other, flips, entries-remove, remove_holds, without_many}
use Rattle.dav_rows.proofs.ChangeLemmas.{Alters, OnIt, went, same_value, edits, ours, same_number, equal_number}

-- the row of the environment's number
abbrev filter_of : List Term
filter_of = (remove_query 0).filter

abbrev ShowsNumber : ℤ → Output → Type 0
ShowsNumber n o = o.1 ≡ Int n ∷ []

ids_shown : (n : ℤ) (outs : List Output) → AllByRecursion (ShowsNumber n) outs → AllByRecursion (λ i. i ≡ n) (ids_of (map (λ (o : Output). o.1) outs))
ids_shown n [] h = tt
ids_shown n (o ∷ outs) h = (ap (λ r. id_in (rowid r)) h.0, ids_shown n outs h.1)

module _ {V : Type 0} (cells : V → Row) (n : ℤ) where
  -- an entry has the number
  abbrev has : ℤ × V → Bool
  has e = is_eq (int_cmp e.0 n)

  abbrev env_of : ℤ × V → Env
  env_of e = (Int n ∷ []) ∷ stored cells e ∷ []

  is_found : (e : ℤ × V) → list_all (holds ((Int n ∷ []) ∷ stored cells e ∷ [])) filter_of ≡ has e
  is_found e = go _ ∙ same_number e.0 n
    where
      go : (b : Bool) → (b && true) ≡ b
      go true = refl
      go false = refl

  matched : (es : List (ℤ × V))
      → flat_map (λ r. cond (list_all (holds ((Int n ∷ []) ∷ r ∷ [])) filter_of) (((Int n ∷ []) ∷ r ∷ []) ∷ []) []) (map (stored cells) es) ≡ map env_of (filter has es)
  matched [] = refl
  matched (e ∷ es) =
      ap (λ b. cond b (env_of e ∷ []) [] ++ flat_map (λ r. cond (list_all (holds ((Int n ∷ []) ∷ r ∷ [])) filter_of) (((Int n ∷ []) ∷ r ∷ []) ∷ []) []) (map (stored cells) es)) (is_found e) ∙ go (has e) (matched es)
    where
      go : {rest : List Env} (b : Bool) → rest ≡ map env_of (filter has es) → cond b (env_of e ∷ []) [] ++ rest ≡ map env_of (cond b (e ∷ filter has es) (filter has es))
      go true more = ap (λ l. env_of e ∷ l) more
      go false more = more

  none_left : (es : List (ℤ × V)) → length (filter has es) ≡ 0 → where_key int_cmp (is_other n) es ≡ es
  none_left [] none = refl
  none_left (e ∷ es) none = ap (λ b. cond (not b) (e ∷ where_key int_cmp (is_other n) es) (where_key int_cmp (is_other n) es)) (flips n e.0) ∙ go (has e) none (none_left es)
    where
      go : (b : Bool) → length (cond b (e ∷ filter has es) (filter has es)) ≡ 0 → (length (filter has es) ≡ 0 → where_key int_cmp (is_other n) es ≡ es)
          → cond (not b) (e ∷ where_key int_cmp (is_other n) es) (where_key int_cmp (is_other n) es) ≡ e ∷ es
      go true some more = absurd (omega arith)
      go false none more = ap (λ l. e ∷ l) (more none)

  shown_hits : (es : List (ℤ × V)) → AllByRecursion (ShowsNumber n) (map (output (remove_query 0)) (map env_of (filter has es)))
  shown_hits [] = tt
  shown_hits (e ∷ es) = go (has e) refl (shown_hits es)
    where
      go : (b : Bool) → has e ≡ b → AllByRecursion (ShowsNumber n) (map (output (remove_query 0)) (map env_of (filter has es)))
          → AllByRecursion (ShowsNumber n) (map (output (remove_query 0)) (map env_of (cond b (e ∷ filter has es) (filter has es))))
      go true is more = (ap (λ k. Int k ∷ []) (equal_number e.0 n is), more)
      go false is more = more

  without_shown : (m : Numbered V) (rows : List Row) (outs : List Output) → AreRows cells rows m → AllByRecursion (ShowsNumber n) outs → length outs ≡ length (filter has (entries m))
      → AreRows cells (without_all rows (ids_of (map (λ (o : Output). o.1) outs))) (remove m n)
  without_shown m rows [] is all count = is ∙ ap (map (stored cells)) (sym (entries-remove m n ∙ none_left (entries m) (sym count)))
  without_shown m rows (o ∷ outs) is all count = without_many n (id_in (rowid o.1)) (ids_of (map (λ (p : Output). p.1) outs)) rows (ids_shown n (o ∷ outs) all) ∙ remove_holds cells m n rows is

  deleted : (tree : ℕ) → ((db : Trees) → overlay db [] tree ≡ db tree) → (m : Numbered V) (db : Trees) (rows : List Row) → AreRows cells (db tree) m → IsAnswer (remove_query tree) (overlay db []) (Int n ∷ []) rows
      → AreRows cells (without_all (db tree) (ids_of rows)) (remove m n)
  deleted tree seen m db rows is a =
      let staged : a.staged ≡ map env_of (filter has (entries m)) =
      a.grouped ∙ ap (flat_map (λ r. cond (list_all (holds ((Int n ∷ []) ∷ r ∷ [])) filter_of) (((Int n ∷ []) ∷ r ∷ []) ∷ []) [])) (seen db ∙ is) ∙ matched (entries m) in
      let kept : a.kept ≡ map (output (remove_query 0)) (map env_of (filter has (entries m))) = a.distinct ∙ ap (map (output (remove_query 0))) staged in
      let all = all-permutation (ShowsNumber n) a.kept a.ordered a.same (subst (AllByRecursion (ShowsNumber n)) (sym kept) (shown_hits (entries m))) in
      let count : length a.ordered ≡ length (filter has (entries m)) = length_permutation a.kept a.ordered a.same ∙ ap length kept ∙ length-map _ (output (remove_query 0)) ∙ length-map _ env_of in
      ap (λ r. without_all (db tree) (ids_of r)) a.shown ∙ without_shown m (db tree) a.ordered is all count

module _ {V : Type 0} (cells : V → Row) (name : List ℕ) (tree : ℕ) (columns : List Column) (it : Suits cells name tree columns) where
  pub removes : (text : List ℕ) → Removes tree text → (old new : State) (n : ℤ) (count : ℕ) → old.now.schema ≡ rows_schema → Executes text (Int n ∷ []) old new (Ok count)
      → Alters cells tree old.now new.now (λ m. remove m n)
  removes text p old new n count has h =
      let params = Int n ∷ [] in
      let db = old.now.trees in
      let command = Delete tree (record { lets = []; body = remove_query tree }) in
      let w = runs_as text params old new rows_schema has command p.is p.plain count h in
      let sql = statement_of text (understood rows_schema text) in
      let on = subst (λ s. Does old.step_limit (mode_of old) params (record old.now { schema = s }) sql None command (Ok (w.tally, new.now))) has w.changed in
      let done = went (subst (λ place. OnIt old params command place (Ok (w.tally, new.now))) it.there on) in
      let now = ap (λ (p : Tally × Database). p.1) (same_value (went (went done.2).2).2) in
      let rows = went done.1 in
      let next = went rows.2 in
      let step = edits cells name tree columns it db next.0 (ids_of rows.0) Given 0 [] next.1 in
      let all : new.now.trees ≡ next.0 = ap (λ (d : Database). d.trees) now ∙ ap (λ (it : Written). it.trees) (same_value next.2) in
      let schema : new.now.schema ≡ rows_schema = ap (λ (d : Database). d.schema) now in
      record {
        schema = schema;
        sound = ours new.now schema w.sound;
        rows = λ m was. ap (λ (t : Trees). t tree) all ∙ step.0 ∙ deleted cells n tree it.seen m db rows.0 was (rows.1.answer Null);
        others = λ t apart. ap (λ (d : Trees). d t) all ∙ step.1 t apart;
      }
