-- What the statements that put a row make of a table.
use Rattle.std.proofs.Common.{◌≡◌, ◌≢◌, ◌⊎◌, inl, inr, ℕ, ℤ, List, [], ◌∷◌, map, Bool, true, false, cond, Some, None, Option, ◌&&◌, ◌||◌, Ordering, Less, Equal, Greater, int_cmp, Ok, Err, Result, refl, sym, ap, subst, ◌∙◌}
use Rattle.sqlite.specs.Kind.TheVariants.{Integer}
use Rattle.sqlite.specs.declared.types.Value.TheVariants.{Null, Int}
use Rattle.std.specs.List.{AllByRecursion}
use Rattle.sqlite.specs.Order.{Row}
use Rattle.sqlite.specs.Ops.{unary}
use Rattle.sqlite.specs.Table.{Table}
use Rattle.sqlite.specs.Source.TheVariants.{Values}
use Rattle.sqlite.specs.Command.{Command}
use Rattle.sqlite.specs.Command.TheVariants.{InsertOr}
use Rattle.sqlite_schema.specs.declared.command.Conflict.TheVariants.{Replace}
use Rattle.sqlite_schema.specs.declared.schema.Column.{Column}
use Rattle.sqlite_schema.specs.declared.schema.Keys.TheVariants.{Enforced}
use Rattle.sqlite_rules.specs.declared.error.Refusal.{Refusal}
use Rattle.sqlite_rules.specs.Keys.{AreConflicts, conflicts}
use Rattle.sqlite_rules.specs.Calls.{ids_of}
use Rattle.sqlite.specs.Edit.{edit_of, edited}
use Rattle.sqlite.specs.Cast.{cast, cast_row}
use Rattle.sqlite.specs.Rowids.TheVariants.{Given}
use Rattle.sqlite_rules.specs.declared.error.Rowids.{Rowids}
use Rattle.sqlite_rules.specs.Lists.{Has}
use Rattle.sqlite_rules.specs.Edit.{id_in, with_rowid}
use Rattle.sqlite_value.specs.Keys.{first_key}
use Rattle.sqlite.specs.Ops.{binary, is_true, from_truth}
use Rattle.sqlite_sql.specs.declared.ops.CompareOp.TheVariants.{Eq}
use Rattle.sqlite_sql.specs.declared.ops.BinaryOp.TheVariants.{Compare}
use Rattle.sqlite.specs.Collation.TheVariants.{Binary}
use Rattle.sqlite_value.proofs.OrderLemmas.{value_cmp-Int}
use Rattle.std.specs.FinMap.{entries, insert, remove, int_cmp-IsAntisymmetric}
use Rattle.std.specs.Ordering.{is_eq}
use Rattle.sqlite.specs.Does.{Tally, Does, AtPlace, OnRows}
use Rattle.sqlite.specs.Rows.{Part, Written, Task, Edited, Puts as PutsOne, Clears, Judged, Tries, TriesEach, mended, rowids_for, count_of, nothing, joined}
use Rattle.sqlite_catalog.specs.Listing.{IsSound}
use Rattle.sqlite.specs.Tree.{Trees, rowid, put_row}
use Rattle.sqlite.specs.Listing.{understood}
use Rattle.sqlite.specs.Effect.{Database, IsDatabase}
use Rattle.sqlite.specs.State.{State, mode_of, Executes}
use Rattle.sqlite.proofs.Callers.{statement_of, runs_as, one_step}
use Rattle.dav_rows.specs.Tables.{numbered, rows_schema}
use Rattle.dav_rows.specs.Stored.{Numbered, stored, AreRows, IsOurs}
use Rattle.dav_rows.proofs.Suits.{Suits, PutsThese, given_of}
use Rattle.dav_rows.proofs.RowLemmas.{put_holds, remove_holds, without_many, insert_after_remove}

-- The table of a tree goes from each map to what `f` makes of it, and nothing else changes.
pub record Alters {V : Type 0} (cells : V → Row) (tree : ℕ) (old new : Database) (f : Numbered V → Numbered V) : Type 0 where
  pub schema : new.schema ≡ rows_schema
  pub sound : IsOurs new.trees
  pub rows : (m : Numbered V) → AreRows cells (old.trees tree) m → AreRows cells (new.trees tree) (f m)
  pub others : (t : ℕ) → t ≢ tree → new.trees t ≡ old.trees t

-- the map with these entries put in, the first of them first
abbrev pub put_entries : {V : Type 0} → List (ℤ × V) → Numbered V → Numbered V
put_entries [] m = m
put_entries (e ∷ es) m = put_entries es (insert m e.0 e.1)

-- a part that gave a value did not stop on the way
pub went : {B E R : Type 0} {b : B} {Stops : E → Type 0} → ((stop : E) × Stops stop × (Ok b ≡ Err stop)) ⊎ R → R
went (inl stopped) = absurd (let e = stopped.2 in cc)
went (inr on) = on

pub same_value : {B E : Type 0} {a b : B} → ◌≡◌ {A = Result B E} (Ok a) (Ok b) → a ≡ b
same_value e = cc

either : {X : Type 0} (b : Bool) (x : X) → cond b x x ≡ x
either true x = refl
either false x = refl

pub cast_int : (n : ℤ) → cast Integer (Int n) ≡ Int n
unfolding unary
cast_int n = either _ (Int n)

cast_null : cast Integer Null ≡ Null
unfolding unary
cast_null = either _ Null

-- SQL's = on two integers
pub same_number : (a n : ℤ) → is_true (binary (Compare Eq Binary) (Int a) (Int n)) ≡ is_eq (int_cmp a n)
unfolding binary
same_number a n = ap (λ o. is_true (from_truth (Some (is_eq o)))) (value_cmp-Int a n) ∙ go (is_eq (int_cmp a n))
  where
    go : (b : Bool) → is_true (from_truth (Some b)) ≡ b
    go true = refl
    go false = refl

pub equal_number : (a n : ℤ) → is_eq (int_cmp a n) ≡ true → a ≡ n
equal_number a n is = int_cmp-IsAntisymmetric a n (go (int_cmp a n) is)
  where
    go : (o : Ordering) → is_eq o ≡ true → o ≡ Equal
    go Less e = absurd (let x = e in cc)
    go Equal e = refl
    go Greater e = absurd (let x = e in cc)

pub all_ids : (n : ℤ) (found : List Row) → ((x : Row) → Has found x → id_in (rowid x) ≡ n) → AllByRecursion (λ i. i ≡ n) (ids_of found)
all_ids n [] h = tt
all_ids n (x ∷ more) h = (h x (inl refl), all_ids n more (λ y at. h y (inr at)))

pub ours : (db : Database) → db.schema ≡ rows_schema → IsDatabase db → IsOurs db.trees
unfolding IsOurs
ours db is sound = subst (λ s. IsSound s db.trees) is sound

-- what a command on the rows of the table at a place does
abbrev pub OnIt : State → Row → Command → Option Table → Part (Tally × Database)
OnIt old params command = AtPlace (λ table. OnRows (record { limit = old.step_limit; keys = Enforced; schema = rows_schema; table = table; params = params }) (mode_of old) None command old.now.trees)

module _ {V : Type 0} (cells : V → Row) (name : List ℕ) (tree : ℕ) (columns : List Column) (it : Suits cells name tree columns) where
  abbrev table : Table
  table = numbered name tree columns

  abbrev task_of : Option ℕ → Row → Task
  task_of limit params = record { limit = limit; keys = Enforced; schema = rows_schema; table = table; params = params }

  pub cast_stored : (e : ℤ × V) → cast_row table (stored cells e) ≡ stored cells e
  cast_stored e = rw (cast_int e.0, cast_null, it.cast e.1) refl

  -- the trees that an edit of the table leaves
  pub edits : (db next : Trees) (gone : List ℤ) (rowids : Rowids) (from : ℕ) (rows : List Row) → Edited rows_schema Enforced db (edit_of db table gone rowids from rows) (Ok next)
      → (next tree ≡ edited db (edit_of db table gone rowids from rows)) × ((t : ℕ) → t ≢ tree → next t ≡ db t)
  edits db next gone rowids from rows h =
      let step = one_step rows_schema Enforced db next (edit_of db table gone rowids from rows) refl h in (step.rows, λ t apart. step.others t apart tt)

  pub stored_among : (es : List (ℤ × V)) (r : Row) → Has (map (stored cells) es) r → (e : ℤ × V) × (r ≡ stored cells e)
  stored_among [] r h = absurd h
  stored_among (e ∷ es) r (inl is) = (e, is)
  stored_among (e ∷ es) r (inr later) = stored_among es r later

  -- a row that conflicts has the number
  pub conflicting : (n : ℤ) (v : V) (a : ℤ × V) → conflicts None [] table (stored cells (n, v)) (stored cells a) ≡ true → a.0 ≡ n
  unfolding first_key
  conflicting n v a is = equal_number a.0 n (sym (same_number a.0 n) ∙ go _ is)
    where
      go : (b : Bool) → ((b && true) || false) ≡ true → b ≡ true
      go true e = refl
      go false e = e

  -- the row that the statement is given is the one that is stored
  pub row_given : (n : ℤ) (v : V) (top : ℤ) (rows : List Row) → with_rowid (rowids_for table top) rows (cast_row table (mended Replace table (stored cells (n, v)))) ≡ stored cells (n, v)
  row_given n v top rows = rw (cast_int n, cast_null, it.filled v, it.cast v) refl

  module _ (limit : Option ℕ) (params : Row) (n : ℤ) (v : V) where
    abbrev OthersStay : Trees → Trees → Type 0
    OthersStay db next = (t : ℕ) → t ≢ tree → next t ≡ db t

    -- what a row that goes in leaves
    placed : (db : Trees) (one : Written) → PutsOne (task_of limit params) (stored cells (n, v)) db (Ok one) → (one.trees tree ≡ put_row (stored cells (n, v)) (db tree)) × OthersStay db one.trees
    placed db one h =
        let done = went h in
        let step = edits db done.0 [] Given 0 (stored cells (n, v) ∷ []) done.1 in
        let trees : one.trees ≡ done.0 = ap (λ (w : Written). w.trees) (same_value done.2) in
        let row : edited db (edit_of db table [] Given 0 (stored cells (n, v) ∷ [])) ≡ put_row (stored cells (n, v)) (db tree) = ap (λ r. put_row r (db tree)) (cast_stored (n, v)) in
        (ap (λ (t : Trees). t tree) trees ∙ step.0 ∙ row, λ t apart. ap (λ (d : Trees). d t) trees ∙ step.1 t apart)

    abbrev PutsIt : Trees → Trees → Type 0
    PutsIt db next = OthersStay db next × ((m : Numbered V) → AreRows cells (db tree) m → AreRows cells (next tree) (insert m n v))

    cleared : (db : Trees) (found : List Row) (one : Written) → AreConflicts None [] table (db tree) (stored cells (n, v)) found
        → Clears (task_of limit params) Replace (stored cells (n, v)) db found (Ok one) → PutsIt db one.trees
    cleared db [] one sure h = let put = placed db one h in (put.1, λ m is. put.0 ∙ put_holds cells m n v (db tree) is)
    cleared db (x ∷ more) one sure h =
        let done = went h in
        let gone = edits db done.0 (ids_of (x ∷ more)) Given 0 [] done.1 in
        let put = placed done.0 one done.2 in (
          λ t apart. put.1 t apart ∙ gone.1 t apart,
          λ m is.
              let the_number : (y : Row) → Has (x ∷ more) y → id_in (rowid y) ≡ n = λ y at.
              let r = sure.sound y at in
              let e = stored_among (entries m) r.0 (subst (λ rows. Has rows r.0) is r.1) in
              ap (λ z. id_in (rowid z)) r.3 ∙ ap (λ z. id_in (rowid (rowid z ∷ []))) e.1 ∙ conflicting n v e.0 (subst (λ z. conflicts None [] table (stored cells (n, v)) z ≡ true) e.1 r.2) in
              let without : AreRows cells (done.0 tree) (remove m n) = gone.0 ∙ without_many n (id_in (rowid x)) (ids_of more) (db tree) (all_ids n (x ∷ more) the_number) ∙ remove_holds cells m n (db tree) is in
              put.0 ∙ put_holds cells (remove m n) n v (done.0 tree) without ∙ ap (λ z. map (stored cells) (entries z)) (insert_after_remove m n v),
        )

    judged : (db : Trees) (verdict : Option Refusal) (one : Written) → Judged (task_of limit params) Replace [] (stored cells (n, v)) db verdict (Ok one) → PutsIt db one.trees
    judged db None one h = cleared db h.0 one h.1 h.2
    judged db (Some why) one h = absurd (let e = h in cc)

    -- what a row that is put leaves
    pub tried : (db : Trees) (one : Written) → Tries (task_of limit params) Replace [] (stored cells (n, v)) db (Ok one) → PutsIt db one.trees
    tried db one (inl bad) = absurd (let e = bad.1 in cc)
    tried db one (inr ok) = judged db ok.0 one ok.2

  module _ (limit : Option ℕ) (params : Row) where
    -- what rows that are put one after another leave
    each_put : (es : List (ℤ × V)) (top : ℤ) (done : Written) (out : Written × ℤ) → TriesEach (task_of limit params) Replace [] (map (stored cells) es) top done (Ok out)
        → ((t : ℕ) → t ≢ tree → out.0.trees t ≡ done.trees t) × ((m : Numbered V) → AreRows cells (done.trees tree) m → AreRows cells (out.0.trees tree) (put_entries es m))
    each_put [] top done out h =
        let same : out.0.trees ≡ done.trees = ap (λ (p : Written × ℤ). p.0.trees) (same_value h) in
        (λ t apart. ap (λ (d : Trees). d t) same, λ m is. ap (λ (d : Trees). d tree) same ∙ is)
    each_put (e ∷ es) top done out h =
        let one = went h in
        let first = tried limit params e.0 e.1 done.trees one.0
        (subst (λ row. Tries (task_of limit params) Replace [] row done.trees (Ok one.0)) (row_given e.0 e.1 top (done.trees tree)) one.1) in
        let more = each_put es _ (joined done one.0) out one.2 in
        (λ t apart. more.0 t apart ∙ first.0 t apart, λ m is. more.1 (insert m e.0 e.1) (first.1 m is))

  pub puts : (text : List ℕ) (es : List (ℤ × V)) → PutsThese cells tree text es → (old new : State) (count : ℕ) → old.now.schema ≡ rows_schema → Executes text (given_of cells es) old new (Ok count)
      → Alters cells tree old.now new.now (λ m. put_entries es m)
  puts text es p old new count has h =
      let params = given_of cells es in
      let db = old.now.trees in
      let limit = old.step_limit in
      let command = InsertOr tree Replace (Values p.terms p.width) [] in
      let w = runs_as text params old new rows_schema has command p.is p.plain count h in
      let sql = statement_of text (understood rows_schema text) in
      let on = subst (λ s. Does limit (mode_of old) params (record old.now { schema = s }) sql None command (Ok (w.tally, new.now))) has w.changed in
      let done = went (subst (λ place. OnIt old params command place (Ok (w.tally, new.now))) it.there on) in
      let now = ap (λ (p : Tally × Database). p.1) (same_value (went (went done.2).2).2) in
      let given = went done.1 in
      let counter = went given.2 in
      let each = went counter.2 in
      let counted = went each.2 in
      let trees : done.0.trees ≡ each.0.0.trees = ap (λ (it : Written). it.trees) (same_value counted.2) ∙ same_value counted.1 in
      let it = each_put limit params es (count_of counter.0) (nothing db) each.0
      (subst (λ rows. TriesEach (task_of limit params) Replace [] rows (count_of counter.0) (nothing db) (Ok each.0)) (given.1.1 ∙ p.given) each.1) in
      let all : new.now.trees ≡ each.0.0.trees = ap (λ (d : Database). d.trees) now ∙ trees in
      let schema : new.now.schema ≡ rows_schema = ap (λ (d : Database). d.schema) now in
      record {
        schema = schema;
        sound = ours new.now schema w.sound;
        rows = λ m was. ap (λ (t : Trees). t tree) all ∙ it.1 m was;
        others = λ t apart. ap (λ (d : Trees). d t) all ∙ it.0 t apart;
      }
