-- Why a statement on the rows fails.
use Rattle.std.proofs.Common.{◌≡◌, ◌⊎◌, inl, inr, ℕ, zero, suc, ℤ, List, [], ◌∷◌, ◌++◌, length, map, append-nil, length-append, codes, Bool, true, false, cond, not, ◌&&◌, ◌||◌, Some, None, Option, Ok, Err, Result, IsTrue, refl, sym, ap, subst, subst₂, ◌∙◌, arith}
use Rattle.std.specs.Prelude.{IsSome, nat_lt, option_map}
use Rattle.std.specs.Ordering.{is_eq}
use Rattle.std.specs.List.{AllByRecursion, list_any, list_all}
use Rattle.std.specs.FinMap.{entries, insert}
use Rattle.sqlite_trees.specs.declared.error.StoreError.{StoreError}
use Rattle.sqlite_trees.specs.declared.error.StoreError.TheVariants.{OutOfMemory, Io, Corrupt, Full, Broken, Unstorable}
use Rattle.sqlite_trees.specs.View.{IsStorableRow}
use Rattle.sqlite_schema.specs.declared.command.Command.TheVariants.{Begin, Commit, Rollback, Release, RollbackTo}
use Rattle.sqlite_schema.specs.declared.command.Conflict.TheVariants.{Replace}
use Rattle.sqlite_schema.specs.declared.schema.Among.{Among}
use Rattle.sqlite_schema.specs.declared.schema.Column.{Column}
use Rattle.sqlite_schema.specs.declared.schema.Constraint.TheVariants.{Datatype, NotNull, Check, PrimaryKey, Unique, ForeignKey}
use Rattle.sqlite_schema.specs.declared.schema.Keys.TheVariants.{Enforced}
use Rattle.sqlite_schema.specs.Rules.{passes, Keeps, Refers}
use Rattle.sqlite_sql.specs.Ops.{fits_i64}
use Rattle.sqlite_sql.specs.Program.{QueryOverflows}
use Rattle.sqlite_rules.specs.declared.error.Refusal.{Refusal}
use Rattle.sqlite_rules.specs.declared.error.Refusal.TheVariants.{Violates, Mismatch, NoRowid, BadReference, TooDeep}
use Rattle.sqlite_rules.specs.Lists.{Has}
use Rattle.sqlite_rules.specs.Keys.{AreConflicts, conflicts}
use Rattle.sqlite_rules.specs.Calls.{ids_of}
use Rattle.sqlite_rules.specs.Steps.{IsJudged}
use Rattle.sqlite_rules.specs.Action.{Leads, Writes}
use Rattle.sqlite_rules.specs.Edit.{Edit, edit_of, id_in, with_rowid, without_all, is_taken, are_fresh, have_rowids, IsRefused, IsOversized}
use Rattle.sqlite_schema.specs.declared.command.Returning.{Returning}
use Rattle.sqlite_resolve.specs.declared.compiled.Compiled.{Compiled}
use Rattle.sqlite.specs.declared.error.ErrorCode.TheVariants as code
use Rattle.sqlite.specs.declared.error.Error.{Error}
use Rattle.sqlite.specs.declared.error.Error.TheVariants.{SqliteFailure}
use Rattle.sqlite_value.specs.Keys.{first_key}
use Rattle.sqlite_value.specs.Order.{value_cmp}
use Rattle.sqlite_value.proofs.OrderLemmas.{value_cmp-Int}
use Rattle.sqlite.specs.Cast.{cast_row}
use Rattle.sqlite.specs.Calls.{IsWrite}
use Rattle.sqlite.specs.Clock.{timed}
use Rattle.sqlite.specs.Command.{Command}
use Rattle.sqlite.specs.Command.TheVariants.{InsertOr, Delete}
use Rattle.sqlite.specs.Source.TheVariants.{Values}
use Rattle.sqlite.specs.Schema.{Schema}
use Rattle.sqlite.specs.Table.{Table}
use Rattle.sqlite.specs.Order.{Row}
use Rattle.sqlite.specs.Tree.{Trees, rowid, has_rowid, without_rowid}
use Rattle.sqlite_trees.specs.Tree.{with_tree}
use Rattle.sqlite_rules.specs.Edit.{edited}
use Rattle.sqlite.specs.declared.types.Value.TheVariants.{Int}
use Rattle.sqlite.specs.Rowids.TheVariants.{Given}
use Rattle.sqlite.specs.Program.{overlay}
use Rattle.sqlite_schema.specs.declared.program.Program.{Program}
use Rattle.sqlite.specs.Effect.{Database, is_query, RefusesQuery, edit_error}
use Rattle.sqlite.specs.Does.{Tally, Does, Tested, due, Concludes}
use Rattle.sqlite.specs.Rows.{Part, Written, Task, Queried, Sourced, Edited, Puts as PutsOne, Clears, Judged, Tries, TriesEach, InsertsOr, Deletes, mended, rowids_for, count_of, nothing, joined}
use Rattle.sqlite.specs.Listing.{understood}
use Rattle.sqlite.specs.State.{State, HasCleanDisk, mode_of, store_error, is_disk_error, HasCause, Fails, IsMisplaced, IsUnchanged, IsStatement, IsNotRun, Escapes, EndsScope, ExecutesIn, ExecutesInside, RunsAlone, shows_rows, is_pragma}
use Rattle.sqlite.proofs.Callers.{IsPlain, command_of, statement_of}
use Rattle.dav_rows.specs.Tables.{numbered, rows_schema, resource_columns, extent_columns, property_columns, lock_columns, state_columns, note_columns}
use Rattle.dav_rows.specs.Stored.{Numbered, stored, shown, AreRows}
use Rattle.dav_rows.specs.Failing.{IsExcused, IsExcusedPut, IsTooLong, FailsToApply}
use Rattle.dav_rows.specs.Contents.{Contents, Holds, resource_cells, extent_cells, property_cells, lock_cells, state_cells, note_cells}
use Rattle.dav_rows.specs.declared.change.Table.{Table as Name}
use Rattle.dav_rows.specs.declared.change.Table.TheVariants.{Resource, Extent, Property, Lock, State as TheState, Note}
use Rattle.dav_rows.specs.Texts.{removal}
use Rattle.dav_rows.proofs.ResourceTexts as resource
use Rattle.dav_rows.proofs.ExtentTexts as extent
use Rattle.dav_rows.proofs.PropertyTexts as property
use Rattle.dav_rows.proofs.LockTexts as lock
use Rattle.dav_rows.proofs.StateTexts as state
use Rattle.dav_rows.proofs.NoteTexts as note
use Rattle.std.specs.Prelude.{FitsSigned, pos, negsuc}
use Rattle.std.specs.Int.{w64}
use Rattle.std.proofs.lemmas.Bool.{lt-ltb}
use Rattle.dav_rows.proofs.Suits.{IsAlone, Suits, PutsThese, given_of, Removes, remove_query}
use Rattle.dav_rows.proofs.RowLemmas.{without_many}
use Rattle.dav_rows.proofs.ChangeLemmas.{same_number, OnIt, all_ids, stored_among, conflicting, cast_stored, row_given, tried, edits}
use Rattle.dav_rows.proofs.FailLemmas.{is_statement, failed}

-- ---- a statement in a transaction

-- the command ends a transaction or a savepoint, or begins one
abbrev pub ends : Command → Bool
ends Begin = true
ends Commit = true
ends Rollback = true
ends (Release name) = true
ends (RollbackTo name) = true
ends _ = false

never : (c d : Command) → ends c ≡ false → ends d ≡ true → c ≡ d → ⊥
never c d false_here true_there same = absurd (let x = sym false_here ∙ ap ends same ∙ true_there in cc)

misplaced : (s : State) (c : Command) (e : Error) → ends c ≡ false → IsMisplaced s c e → ⊥
misplaced s c e lasts (inl h) = elim h.1 [
  | inl b ↦ never c Begin lasts refl b.0
  | inr b ↦ elim b.0 [ inl x ↦ never c Commit lasts refl x | inr x ↦ never c Rollback lasts refl x ]
]
misplaced s c e lasts (inr h) = elim h.2 [ inl x ↦ never c (Release h.1) lasts refl x | inr x ↦ never c (RollbackTo h.1) lasts refl x ]

escapes : (s : State) (c : Command) → ends c ≡ false → Escapes 0 s c → ⊥
escapes s c lasts (inl h) = elim h [ inl x ↦ never c Commit lasts refl x | inr x ↦ never c Rollback lasts refl x ]
escapes s c lasts (inr h) = elim h.1 [ inl x ↦ never c (Release h.0) lasts refl x | inr x ↦ never c (RollbackTo h.0) lasts refl x ]

module _ (schema : Schema) (sql : List ℕ) (params : Row) (plain : IsPlain (understood schema sql)) (alone : IsAlone sql (length params) (understood schema sql)) (old new : State) (has : old.now.schema ≡ schema)
    (command : Command) (is : command_of (understood schema sql) ≡ command) (lasts : ends command ≡ false) (writes : (is_query command ≡ false) × (is_pragma command ≡ false)) where
  abbrev pub DoesIt : Part (Tally × Database)
  DoesIt = Does old.step_limit (mode_of old) params old.now (statement_of sql (understood schema sql)) None command

  abbrev pub Stops : Error → Type 0
  Stops e = Fails old new ⊥ e ⊎ (DoesIt (Err (Some e)) ⊎ Fails old new (DoesIt (Err None)) e)

  abbrev RunsAs : Type 0 → Command → List ℕ → Error → Type 0
  RunsAs May k text e =
      ((IsMisplaced old k e ⊎ (May × Does old.step_limit (mode_of old) params old.now text None k (Err (Some e)))) × IsUnchanged old new)
      ⊎ Fails old new (Does old.step_limit (mode_of old) params old.now text None k (Err None)) e

  run_stops : (May : Type 0) (e : Error) → RunsAs May command (statement_of sql (understood schema sql)) e → Stops e
  run_stops May e (inl h) = elim h.0 [ inl bad ↦ absurd (misplaced old command e lasts bad) | inr does ↦ inr (inl does.1) ]
  run_stops May e (inr fails) = inr (inr fails)

  hides : (c : Compiled) → c.command ≡ command → c.returning ≡ None → shows_rows false c ≡ false
  hides c same none = rw (same, none, writes.0, writes.1) refl

  ran_stops : (e : Error) (c : Compiled) (it : IsStatement old sql params c) → RunsAlone false old new sql c (timed params c.formats it.now) (Err e) → Stops e
  ran_stops e c it ran =
      let known = sym it.is ∙ ap (λ s. understood s sql) has in
      let bare = subst IsPlain (sym known) plain in
      let same : c.command ≡ command = ap command_of known ∙ is in
      let run = rw (hides c same bare.0) at ran in
      let bared = rw (bare.0, bare.1, append-nil params) at run in
      run_stops (IsWrite c.command ⊎ IsSome {T = Returning} None) e (subst₂ (λ k t. RunsAs (IsWrite c.command ⊎ IsSome {T = Returning} None) k t e) same (ap (statement_of sql) known) bared)

  scoped : EndsScope 0 sql params old → ⊥
  unfolding EndsScope
  scoped h = let known = sym h.1.is ∙ ap (λ s. understood s sql) has in escapes old command lasts (subst (Escapes 0 old) (ap command_of known ∙ is) h.2)

  executed : (e : Error) → ExecutesIn false sql params old new (Err e) → Stops e
  unfolding ExecutesIn IsNotRun
  executed e (inl (inl bad)) = absurd (is_statement schema sql params plain alone old has e bad.0)
  executed e (inl (inr fails)) = inl fails
  executed e (inr h) = ran_stops e h.0 h.1 h.2

  -- it did not run, or it was refused, or a row is too long
  pub stops : (e : Error) → ExecutesInside 0 sql params old new (Err e) → Stops e
  stops e (inl h) = executed e h.0
  stops e (inr h) = absurd (scoped h.0)

-- the store fails, or a row is too long
pub caused_by : (old new : State) (e : Error) (Long : Type 0) (cause : StoreError) → IsTrue old.is_open → e ≡ store_error cause → HasCause old new Long cause
    → IsExcused old new e ⊎ ((e ≡ SqliteFailure code.TooBig) × Long)
caused_by old new e Long OutOfMemory is_open is why = inl (inl is)
caused_by old new e Long Io is_open is why = inl (inr (inl (ap is_disk_error is, why)))
caused_by old new e Long Corrupt is_open is why = inl (inr (inl (ap is_disk_error is, why)))
caused_by old new e Long Full is_open is why = inl (inr (inl (ap is_disk_error is, why)))
caused_by old new e Long Broken is_open is why = absurd (let x = sym why ∙ is_open in cc)
caused_by old new e Long Unstorable is_open is why = inr (is, why)

-- ---- parts

same_stop : {B E : Type 0} {a b : E} → ◌≡◌ {A = Result B E} (Err a) (Err b) → a ≡ b
same_stop e = cc

not_some : {X : Type 0} {a : X} → ◌≡◌ {A = Option X} None (Some a) → ⊥
not_some e = absurd cc

same_some : {X : Type 0} {a b : X} → ◌≡◌ {A = Option X} (Some a) (Some b) → a ≡ b
same_some e = cc

pub not_ok : {B E : Type 0} {e : E} {b : B} → ◌≡◌ {A = Result B E} (Err e) (Ok b) → ⊥
not_ok e = absurd cc

-- a part that stopped did so in its first part, or after it
pub stopped : {B E R : Type 0} {s : E} (First : E → Type 0) → ((stop : E) × First stop × (◌≡◌ {A = Result B E} (Err s) (Err stop))) ⊎ R → First s ⊎ R
stopped First (inl h) = inl (subst First (sym (same_stop h.2)) h.1)
stopped First (inr on) = inr on

-- ---- rows that are put one after another

-- the numbers fit in 64 bits
abbrev pub AreInRange : {V : Type 0} → List (ℤ × V) → Type 0
AreInRange = AllByRecursion (λ e. fits_i64 e.0 ≡ true)

-- one of these rows is too long
abbrev pub IsLongAmong : {V : Type 0} → (V → Row) → List (ℤ × V) → Type 0
IsLongAmong cells [] = ⊥
IsLongAmong cells (e ∷ []) = IsTooLong cells e
IsLongAmong cells (e ∷ f ∷ es) = IsTooLong cells e ⊎ IsLongAmong cells (f ∷ es)

at_first : {V : Type 0} (cells : V → Row) (e : ℤ × V) (es : List (ℤ × V)) → IsTooLong cells e → IsLongAmong cells (e ∷ es)
at_first cells e [] long = long
at_first cells e (f ∷ es) long = inl long

at_later : {V : Type 0} (cells : V → Row) (e : ℤ × V) (es : List (ℤ × V)) → IsLongAmong cells es → IsLongAmong cells (e ∷ es)
at_later cells e [] long = absurd long
at_later cells e (f ∷ es) long = inr long

-- ---- edits of a table of numbered rows

all_pass : (rows : List Row) → AllByRecursion (λ row. true ≡ true) rows
all_pass [] = tt
all_pass (r ∷ rows) = (refl, all_pass rows)

no_unique : (db : Trees) → Keeps Unique rows_schema db
no_unique db = (all_pass (db 0), (all_pass (db 1), (all_pass (db 2), (all_pass (db 3), (all_pass (db 4), (all_pass (db 5), tt))))))

no_reference : (among : Among) (db : Trees) → Refers among rows_schema db
no_reference among db = (all_pass (db 0), (all_pass (db 1), (all_pass (db 2), (all_pass (db 3), (all_pass (db 4), (all_pass (db 5), tt))))))

either_way : (a b : Bool) → ((not a || true) && (not b || true)) ≡ true
either_way true true = refl
either_way true false = refl
either_way false true = refl
either_way false false = refl

not_taken : (n : ℤ) (row : Row) → rowid row ≡ Int n → (rows : List Row) → is_taken (without_rowid n rows) row ≡ false
not_taken n row is rows = ap (λ v. list_any (λ r. is_eq (value_cmp (rowid r) v)) (without_rowid n rows)) is ∙ none rows
  where
    none : (rows : List Row) → list_any (has_rowid n) (without_rowid n rows) ≡ false
    none [] = refl
    none (r ∷ rows) = go (has_rowid n r) refl (none rows)
      where
        go : (b : Bool) → has_rowid n r ≡ b → list_any (has_rowid n) (without_rowid n rows) ≡ false → list_any (has_rowid n) (cond (not b) (r ∷ without_rowid n rows) (without_rowid n rows)) ≡ false
        go true is more = more
        go false is more = rw is more

module _ {V : Type 0} (cells : V → Row) (name : List ℕ) (tree : ℕ) (columns : List Column) (it : Suits cells name tree columns) where
  abbrev table : Table
  table = numbered name tree columns

  abbrev an_edit : List ℤ → List Row → Edit
  an_edit gone news = record { table = table; gone = gone; news = news }

  -- what the rules ask of the rows that go in
  record MayGo (db : Trees) (gone : List ℤ) (news : List Row) : Type 0 where
    pub typed : list_all (passes Datatype rows_schema db table) news ≡ true
    pub present : list_all (passes NotNull rows_schema db table) news ≡ true
    pub checked : list_all (passes Check rows_schema db table) news ≡ true
    pub fresh : are_fresh (without_all (db tree) gone) news ≡ true
    pub keyed : have_rowids news ≡ true
    pub ranged : list_all (λ r. fits_i64 (id_in (rowid r))) news ≡ true

  clash : {b : Bool} → b ≡ true → b ≡ false → ⊥
  clash is is_not = absurd (let x = sym is ∙ is_not in cc)

  -- no rule refuses them
  unrefused : (db : Trees) (gone : List ℤ) (news : List Row) → MayGo db gone news → (why : Refusal) → IsRefused rows_schema Enforced db (an_edit gone news) why → ⊥
  unrefused db gone news may (Violates Datatype) h = clash may.typed h
  unrefused db gone news may (Violates NotNull) h = clash may.present h
  unrefused db gone news may (Violates Check) h = clash may.checked h
  unrefused db gone news may (Violates PrimaryKey) h = clash may.fresh h
  unrefused db gone news may (Violates Unique) h = h (no_unique (with_tree db tree (edited db (an_edit gone news))))
  unrefused db gone news may (Violates ForeignKey) h = h
  unrefused db gone news may Mismatch h = clash may.keyed h
  unrefused db gone news may NoRowid h = clash may.ranged h
  unrefused db gone news may BadReference h = clash (either_way (nat_lt 0 (length news)) (nat_lt 0 (length gone))) h
  unrefused db gone news may TooDeep h = h

  -- nothing follows the edit
  unled : (n : ℕ) (next : Trees) (why : Option Refusal) → Leads rows_schema Enforced n next [] (Err why) → ⊥
  unled zero next why h = not_ok h.1
  unled (suc n) next why h = absurd (omega (arith, ap length h.2, length-append h.0 (h.1 ∷ [])))

  -- an edit stops only at a row that is too long
  edit_stops : (db : Trees) (gone : List ℤ) (news : List Row) → MayGo db gone news → (why : Option Refusal) → Writes rows_schema Enforced db (an_edit gone news) (Err why)
      → (why ≡ None) × ((r : Row) × Has news r × ¬ IsStorableRow 0 r)
  edit_stops db gone news may why (inl refused) = absurd (unrefused db gone news may refused.0 refused.1)
  edit_stops db gone news may why (inr (inl big)) = (same_stop big.3, (big.0, big.1, long big.0 big.2))
    where
      long : (r : Row) → IsOversized rows_schema table r → ¬ IsStorableRow 0 r
      long r (inl h) = subst (λ reals. ¬ IsStorableRow reals r) it.reals h
      long r (inr h) = absurd h.1
  edit_stops db gone news may why (inr (inr went)) = absurd (unled went.2.0 went.0 why went.2.1)

  edited_stops : (db : Trees) (gone : List ℤ) (news : List Row) → MayGo db gone news → (s : Option Error) → Edited rows_schema Enforced db (an_edit gone news) (Err s)
      → (s ≡ None) × ((r : Row) × Has news r × ¬ IsStorableRow 0 r)
  edited_stops db gone news may s h = let end = edit_stops db gone news may h.0 h.1 in (h.2 ∙ ap (option_map edit_error) end.0, end.1)

  removal_may : (db : Trees) (gone : List ℤ) → MayGo db gone []
  removal_may db gone = record { typed = refl; present = refl; checked = refl; fresh = refl; keyed = refl; ranged = refl }

  -- a removal does not stop
  removal_goes : (db : Trees) (gone : List ℤ) (s : Option Error) → Edited rows_schema Enforced db (an_edit gone []) (Err s) → ⊥
  removal_goes db gone s h = (edited_stops db gone [] (removal_may db gone) s h).1.1

  module _ (limit : Option ℕ) (n : ℤ) (v : V) (in_range : fits_i64 n ≡ true) where
    abbrev row : Row
    row = stored cells (n, v)

    abbrev task : Row → Task
    task params = record { limit = limit; keys = Enforced; schema = rows_schema; table = table; params = params }

    -- it stops at a row that is too long
    abbrev StopsLong : Option Error → Type 0
    StopsLong s = (s ≡ None) × ¬ IsStorableRow 0 row

    row_may : (db : Trees) (news : List Row) → news ≡ row ∷ [] → is_taken (db tree) row ≡ false → MayGo db [] news
    row_may db news is free = subst (MayGo db []) (sym is) (record {
      typed = ap (λ b. (b && true) && true) (it.typed v);
      present = ap (λ b. b && true) (it.present n v);
      checked = refl;
      fresh = ap (λ b. not b && true) free;
      keyed = refl;
      ranged = ap (λ b. b && true) in_range;
    })

    placed_stops : (params : Row) (db : Trees) → is_taken (db tree) row ≡ false → (s : Option Error) → PutsOne (task params) row db (Err s) → StopsLong s
    placed_stops params db free s h =
        let is : cast_row table row ∷ [] ≡ row ∷ [] = ap (λ r. r ∷ []) (cast_stored cells name tree columns it (n, v)) in
        elim (stopped (λ s. Edited rows_schema Enforced db (edit_of db table [] Given 0 (row ∷ [])) (Err s)) h) [
          | inl edit ↦ let end = edited_stops db [] (cast_row table row ∷ []) (row_may db (cast_row table row ∷ []) is free) s edit in
              (end.0, subst (λ rows. (r : Row) × Has rows r × ¬ IsStorableRow 0 r → ¬ IsStorableRow 0 row) (sym is) at_row end.1)
          | inr on ↦ absurd (not_ok on.2)
        ]
      where
        at_row : (r : Row) × Has (row ∷ []) r × ¬ IsStorableRow 0 r → ¬ IsStorableRow 0 row
        at_row h = elim h.1 [ inl same ↦ subst (λ r. ¬ IsStorableRow 0 r) same h.2 | inr none ↦ absurd none ]

    -- a row with the number conflicts
    meets : (e : ℤ × V) → is_eq (value_cmp (Int e.0) (Int n)) ≡ true → conflicts None [] table row (stored cells e) ≡ true
    unfolding first_key
    meets e is = ap (λ b. (b && true) || false) (same_number e.0 n ∙ ap is_eq (sym (value_cmp-Int e.0 n)) ∙ is)

    untaken : (es : List (ℤ × V)) → ((r : Row) → Has (map (stored cells) es) r → conflicts None [] table row r ≡ true → ⊥) → is_taken (map (stored cells) es) row ≡ false
    untaken [] none = refl
    untaken (e ∷ es) none = go (is_eq (value_cmp (Int e.0) (Int n))) refl (untaken es (λ r has. none r (inr has)))
      where
        go : (b : Bool) → is_eq (value_cmp (Int e.0) (Int n)) ≡ b → is_taken (map (stored cells) es) row ≡ false → (b || is_taken (map (stored cells) es) row) ≡ false
        go true is more = absurd (none (stored cells e) (inl refl) (meets e is))
        go false is more = more

    cleared_stops : (params : Row) (db : Trees) (m : Numbered V) → AreRows cells (db tree) m → (found : List Row) → AreConflicts None [] table (db tree) row found
        → (s : Option Error) → Clears (task params) Replace row db found (Err s) → StopsLong s
    cleared_stops params db m is [] sure s h =
        let free : is_taken (map (stored cells) (entries m)) row ≡ false = untaken (entries m) (λ r has meets. sure.complete r (subst (λ rows. Has rows r) (sym is) has) meets) in
        placed_stops params db (ap (λ rows. is_taken rows row) is ∙ free) s h
    cleared_stops params db m is (x ∷ more) sure s h = elim (stopped (λ s. Edited rows_schema Enforced db (edit_of db table (ids_of (x ∷ more)) Given 0 []) (Err s)) h) [
      | inl removal ↦ absurd (removal_goes db (ids_of (x ∷ more)) s removal)
      | inr on ↦ placed_stops params on.0 (ap (λ rows. is_taken rows row) (left on.0 on.1) ∙ not_taken n row refl (db tree)) s on.2
    ]
      where
        the_number : (y : Row) → Has (x ∷ more) y → id_in (rowid y) ≡ n
        the_number y at =
            let r = sure.sound y at in
            let e = stored_among cells name tree columns it (entries m) r.0 (subst (λ rows. Has rows r.0) is r.1) in
            ap (λ z. id_in (rowid z)) r.3 ∙ ap (λ z. id_in (rowid (rowid z ∷ []))) e.1 ∙ conflicting cells name tree columns it n v e.0 (subst (λ z. conflicts None [] table row z ≡ true) e.1 r.2)

        left : (next : Trees) → Edited rows_schema Enforced db (edit_of db table (ids_of (x ∷ more)) Given 0 []) (Ok next) → next tree ≡ without_rowid n (db tree)
        left next edit = (edits cells name tree columns it db next (ids_of (x ∷ more)) Given 0 [] edit).0 ∙ without_many n (id_in (rowid x)) (ids_of more) (db tree) (all_ids n (x ∷ more) the_number)

    judged_stops : (params : Row) (db : Trees) (m : Numbered V) → AreRows cells (db tree) m → (verdict : Option Refusal) → IsJudged table row verdict
        → (s : Option Error) → Judged (task params) Replace [] row db verdict (Err s) → StopsLong s
    judged_stops params db m is None good s h = cleared_stops params db m is h.0 h.1 s h.2
    judged_stops params db m is (Some (Violates Datatype)) bad s h = absurd (clash (ap (λ b. b && true) (it.typed v)) bad)
    judged_stops params db m is (Some (Violates NotNull)) bad s h = absurd (clash (it.present n v) bad)
    judged_stops params db m is (Some (Violates Check)) bad s h = absurd (clash refl bad)
    judged_stops params db m is (Some (Violates PrimaryKey)) bad s h = absurd bad
    judged_stops params db m is (Some (Violates Unique)) bad s h = absurd bad
    judged_stops params db m is (Some (Violates ForeignKey)) bad s h = absurd bad
    judged_stops params db m is (Some Mismatch) bad s h = absurd (clash refl bad)
    judged_stops params db m is (Some NoRowid) bad s h = absurd bad
    judged_stops params db m is (Some BadReference) bad s h = absurd bad
    judged_stops params db m is (Some TooDeep) bad s h = absurd bad

    tried_stops : (params : Row) (db : Trees) (m : Numbered V) → AreRows cells (db tree) m → (s : Option Error) → Tries (task params) Replace [] row db (Err s) → StopsLong s
    tried_stops params db m is s (inl far) = absurd (clash in_range far.0)
    tried_stops params db m is s (inr on) = judged_stops params db m is on.0 on.1 s on.2

  module _ (limit : Option ℕ) (params : Row) where
    abbrev pub putting_into : Task
    putting_into = record { limit = limit; keys = Enforced; schema = rows_schema; table = table; params = params }

    -- rows that are put one after another stop at one that is too long
    abbrev pub StopsLongAmong : List (ℤ × V) → Option Error → Type 0
    StopsLongAmong es s = (s ≡ None) × IsLongAmong cells es

    -- or at the limit on steps
    abbrev pub StopsPut : List (ℤ × V) → Option Error → Type 0
    StopsPut es s = StopsLongAmong es s ⊎ ((s ≡ Some (SqliteFailure code.OperationInterrupted)) × IsSome limit)

    each_stops : (es : List (ℤ × V)) → AreInRange es → (top : ℤ) (done : Written) (m : Numbered V) → AreRows cells (done.trees tree) m → (s : Option Error)
        → TriesEach putting_into Replace [] (map (stored cells) es) top done (Err s) → StopsLongAmong es s
    each_stops [] fit top done m is s h = absurd (not_ok h)
    each_stops (e ∷ es) fit top done m is s h =
        elim (stopped (λ s. Tries putting_into Replace [] (with_rowid (rowids_for table top) (done.trees tree) (cast_row table (mended Replace table (stored cells e)))) done.trees (Err s)) h) [
          | inl one ↦ let end = tried_stops limit e.0 e.1 fit.0 params done.trees m is s
              (subst (λ r. Tries putting_into Replace [] r done.trees (Err s)) (row_given cells name tree columns it e.0 e.1 top (done.trees tree)) one) in (end.0, at_first cells e es end.1)
          | inr on ↦ let first = tried cells name tree columns it limit params e.0 e.1 done.trees on.0
              (subst (λ r. Tries putting_into Replace [] r done.trees (Ok on.0)) (row_given cells name tree columns it e.0 e.1 top (done.trees tree)) on.1) in
              let end = each_stops es fit.1 _ (joined done on.0) (insert m e.0 e.1) (first.1 m is) s on.2 in (end.0, at_later cells e es end.1)
        ]

  module _ (limit : Option ℕ) (es : List (ℤ × V)) (fit : AreInRange es) (text : List ℕ) (p : PutsThese cells tree text es) (db : Trees) (m : Numbered V) (is : AreRows cells (db tree) m) where
    abbrev params : Row
    params = given_of cells es

    abbrev at : Database
    at = record { schema = rows_schema; trees = db }

    sourced_stops : (s : Option Error) → Sourced limit at (params ++ []) (Values p.terms p.width) (Err s) → StopsPut limit params es s
    sourced_stops None h = absurd h
    sourced_stops (Some e) (inl bad) = absurd (clash p.typed bad.1)
    sourced_stops (Some e) (inr over) = inr (ap Some over.0, over.1)

    inserts_stop : (s : Option Error) → InsertsOr (putting_into limit params) Replace [] (Values p.terms p.width) db (Err s) → StopsPut limit params es s
    inserts_stop s h = elim (stopped (λ s. Sourced limit at (params ++ []) (Values p.terms p.width) (Err s)) h) [
      | inl source ↦ sourced_stops s source
      | inr on ↦ elim (stopped (λ s. ◌≡◌ {A = Result (Option Row) (Option Error)} (Err s) (Ok None)) on.2) [
        | inl counter ↦ absurd (not_ok counter)
        | inr more ↦ elim (stopped (λ s. TriesEach (putting_into limit params) Replace [] on.0 (count_of more.0) (nothing db) (Err s)) more.2) [
          | inl each ↦ inl (each_stops limit params es fit (count_of more.0) (nothing db) m is s
              (subst (λ rows. TriesEach (putting_into limit params) Replace [] rows (count_of more.0) (nothing db) (Err s)) (on.1.1 ∙ p.given) each))
          | inr last ↦ elim (stopped (λ s. ◌≡◌ {A = Result Trees (Option Error)} (Err s) (Ok last.0.0.trees)) last.2) [
            | inl counts ↦ absurd (not_ok counts)
            | inr done ↦ absurd (not_ok done.2)
          ]
        ]
      ]
    ]

tested_goes : (old : State) (db : Trees) (s : Option Error) → Tested (mode_of old) (λ among. Refers among rows_schema db) (Err s) → ⊥
tested_goes old db s h = h.0 (no_reference (due (mode_of old)) db)

-- an outcome is concluded
concluded : (limit : Option ℕ) (given : Row) (place : Table) (old : State) (w : Written) (s : Option Error)
    → Concludes (record { limit = limit; keys = Enforced; schema = rows_schema; table = place; params = given }) (mode_of old) None w (Err s) → ⊥
concluded limit given place old w s h = elim h [
  | inl tested ↦ tested_goes old w.trees tested.0 tested.1
  | inr on ↦ elim on.2 [ inl shown ↦ not_ok shown.1 | inr more ↦ not_ok more.2 ]
]

module _ {V : Type 0} (cells : V → Row) (name : List ℕ) (tree : ℕ) (columns : List Column) (it : Suits cells name tree columns) (old new : State) (has : old.now.schema ≡ rows_schema) (is_open : IsTrue old.is_open) where
  module _ (es : List (ℤ × V)) (fit : AreInRange es) (text : List ℕ) (p : PutsThese cells tree text es) (m : Numbered V) (rows : AreRows cells (old.now.trees tree) m) where
    abbrev given : Row
    given = given_of cells es

    abbrev putting : Command
    putting = InsertOr tree Replace (Values p.terms p.width) []

    put_stops : (sql : List ℕ) (s : Option Error) → Does old.step_limit (mode_of old) given old.now sql None putting (Err s) → StopsPut cells name tree columns it old.step_limit given es s
    put_stops sql s does =
        let db = old.now.trees in
        let on = subst (λ schema. Does old.step_limit (mode_of old) given (record old.now { schema = schema }) sql None putting (Err s)) has does in
        elim (stopped (λ s. InsertsOr (putting_into cells name tree columns it old.step_limit given) Replace [] (Values p.terms p.width) db (Err s)) (subst (λ place. OnIt old given putting place (Err s)) it.there on)) [
          | inl writes ↦ inserts_stop cells name tree columns it old.step_limit es fit text p db m rows s writes
          | inr done ↦ absurd (concluded old.step_limit given (numbered name tree columns) old done.0 s done.2)
        ]

    -- rows that are put fail for these causes alone
    pub put_fails : (e : Error) → ExecutesInside 0 text given old new (Err e) → IsExcusedPut old new (IsLongAmong cells es) e
    put_fails e ran = elim (stops rows_schema text given p.plain p.alone old new has putting p.is refl (refl, refl) e ran) [
      | inl fails ↦ inl (failed old new e is_open fails)
      | inr (inl does) ↦ elim (put_stops (statement_of text (understood rows_schema text)) (Some e) does) [ inl long ↦ absurd (not_some (sym long.0)) | inr over ↦ inl (inr (inr (same_some over.0, over.1))) ]
      | inr (inr fails) ↦ elim (caused_by old new e _ fails.0 is_open fails.1 fails.2) [
        | inl excused ↦ inl excused
        | inr big ↦ elim (put_stops (statement_of text (understood rows_schema text)) None big.1) [ inl long ↦ inr (big.0, long.1) | inr over ↦ absurd (not_some over.0) ]
      ]
    ]

  module _ (n : ℤ) (text : List ℕ) (p : Removes tree text) where
    abbrev number : Row
    number = Int n ∷ []

    abbrev removing : Command
    removing = Delete tree (record { lets = []; body = remove_query tree })

    abbrev StopsOver : Option Error → Type 0
    StopsOver s = (s ≡ Some (SqliteFailure code.OperationInterrupted)) × IsSome old.step_limit

    queried_stops : (db : Trees) (s : Option Error) → Queried old.step_limit (record { schema = rows_schema; trees = db }) (record { lets = []; body = remove_query tree }) number (Err s) → StopsOver s
    queried_stops db None h = absurd h
    queried_stops db (Some e) h = refused e h
      where
        overflows : QueryOverflows (remove_query tree) (overlay db []) number → ⊥
        overflows (inl over) = over
        overflows (inr over) = over.4

        refused : (e : Error) → RefusesQuery old.step_limit (record { schema = rows_schema; trees = db }) (record { lets = []; body = remove_query tree }) number e → StopsOver (Some e)
        refused e (inl bad) = absurd (let x = sym (p.accepted n) ∙ bad.1 in cc)
        refused e (inr (inl over)) = absurd (overflows over.1)
        refused e (inr (inr over)) = (ap Some over.0, over.1)

    remove_stops : (sql : List ℕ) (s : Option Error) → Does old.step_limit (mode_of old) number old.now sql None removing (Err s) → StopsOver s
    remove_stops sql s does =
        let db = old.now.trees in
        let query : Program = record { lets = []; body = remove_query tree } in
        let on = subst (λ schema. Does old.step_limit (mode_of old) number (record old.now { schema = schema }) sql None removing (Err s)) has does in
        let task : Task = record { limit = old.step_limit; keys = Enforced; schema = rows_schema; table = numbered name tree columns; params = number } in
        elim (stopped (λ s. Deletes task query db (Err s)) (subst (λ place. OnIt old number removing place (Err s)) it.there on)) [
          | inl writes ↦ elim (stopped (λ s. Queried old.step_limit (record { schema = rows_schema; trees = db }) query number (Err s)) writes) [
            | inl queried ↦ queried_stops db s queried
            | inr more ↦ elim (stopped (λ s. Edited rows_schema Enforced db (edit_of db (numbered name tree columns) (ids_of more.0) Given 0 []) (Err s)) more.2) [
              | inl edit ↦ absurd (removal_goes cells name tree columns it db (ids_of more.0) s edit)
              | inr last ↦ absurd (not_ok last.2)
            ]
          ]
          | inr done ↦ absurd (concluded old.step_limit number (numbered name tree columns) old done.0 s done.2)
        ]

    -- a removal fails for these causes alone
    pub remove_fails : (e : Error) → ExecutesInside 0 text number old new (Err e) → IsExcused old new e
    remove_fails e ran = elim (stops rows_schema text number p.plain p.alone old new has removing p.is refl (refl, refl) e ran) [
      | inl fails ↦ failed old new e is_open fails
      | inr (inl does) ↦ let over = remove_stops (statement_of text (understood rows_schema text)) (Some e) does in inr (inr (same_some over.0, over.1))
      | inr (inr fails) ↦ elim (caused_by old new e _ fails.0 is_open fails.1 fails.2) [
        | inl excused ↦ excused
        | inr big ↦ absurd (not_some (remove_stops (statement_of text (understood rows_schema text)) None big.1).0)
      ]
    ]

-- what an `i64` may be
pub in_range : (n : ℤ) → FitsSigned w64 n → fits_i64 n ≡ true
in_range (pos n) h = lt-ltb _ _ h.sfits
in_range (negsuc n) h = lt-ltb _ _ h.sfits

module _ {V : Type 0} (cells : V → Row) (name : List ℕ) (tree : ℕ) (columns : List Column) (it : Suits cells name tree columns) (field : Contents → Numbered V)
    (held : (db : Trees) (m : Contents) → Holds db m → AreRows cells (db tree) (field m)) (old new : State) where
  pub put_excused : (text : List ℕ) (es : List (ℤ × V)) → PutsThese cells tree text es → AreInRange es → (r : Result ℕ Error)
      → (HasCleanDisk new → IsTrue old.in_transaction → ExecutesInside 0 text (given_of cells es) old new r) → FailsToApply old new (IsLongAmong cells es) r
  put_excused text es p fit (Ok count) ran = λ clean. tt
  put_excused text es p fit (Err e) ran = λ clean ready m holds.
      put_fails cells name tree columns it old new ready.schema ready.is_open es fit text p (field m) (held old.now.trees m holds) e (ran clean ready.inside)

  pub remove_excused : (text : List ℕ) → Removes tree text → (n : ℤ) (r : Result ℕ Error)
      → (HasCleanDisk new → IsTrue old.in_transaction → ExecutesInside 0 text (Int n ∷ []) old new r) → FailsToApply old new ⊥ r
  remove_excused text p n (Ok count) ran = λ clean. tt
  remove_excused text p n (Err e) ran = λ clean ready m holds. inl (remove_fails cells name tree columns it old new ready.schema ready.is_open n text p e (ran clean ready.inside))

pub removal_excused : (old new : State) (name : Name) (n : ℤ) (r : Result ℕ Error) → (HasCleanDisk new → IsTrue old.in_transaction → ExecutesInside 0 (removal name) (Int n ∷ []) old new r) → FailsToApply old new ⊥ r
removal_excused old new Resource n = remove_excused resource_cells (codes "resource") 0 resource_columns resource.suits (λ m. m.resources) (λ db m holds. holds.resources) old new resource.remove_text resource.removes n
removal_excused old new Extent n = remove_excused extent_cells (codes "extent") 1 extent_columns extent.suits (λ m. m.extents) (λ db m holds. holds.extents) old new extent.remove_text extent.removes n
removal_excused old new Property n = remove_excused property_cells (codes "property") 2 property_columns property.suits (λ m. m.properties) (λ db m holds. holds.properties) old new property.remove_text property.removes n
removal_excused old new Lock n = remove_excused lock_cells (codes "lock") 3 lock_columns lock.suits (λ m. m.locks) (λ db m holds. holds.locks) old new lock.remove_text lock.removes n
removal_excused old new TheState n = remove_excused state_cells (codes "state") 4 state_columns state.suits (λ m. m.states) (λ db m holds. holds.states) old new state.remove_text state.removes n
removal_excused old new Note n = remove_excused note_cells (codes "note") 5 note_columns note.suits (λ m. m.notes) (λ db m holds. holds.notes) old new note.remove_text note.removes n
