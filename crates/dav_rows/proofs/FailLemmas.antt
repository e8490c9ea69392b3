-- Why a query fails.
use Rattle.std.proofs.Common.{◌≡◌, ◌⊎◌, inl, inr, ℕ, ◌<◌, ℤ, List, [], ◌∷◌, ◌++◌, length, map, true, Ok, Err, Result, IfErr, IsErrAnd, IsTrue, Vec, sym, ap, subst, ◌∙◌, arith}
use Rattle.std.specs.declared.alloc.Global.{Global}
use Rattle.std.specs.Prelude.{IsSome, IsUtf8, ◌≤◌}
use Rattle.std.specs.List.{AllByRecursion}
use Rattle.std.specs.FinMap.{entries}
use Rattle.sqlite_trees.specs.declared.error.StoreError.{StoreError}
use Rattle.sqlite_trees.specs.declared.error.StoreError.TheVariants.{OutOfMemory, Io, Corrupt, Full, Broken, Unstorable}
use Rattle.sqlite_typing.specs.Types.{accepts_program}
use Rattle.sqlite_sql.specs.Program.{QueryOverflows}
use Rattle.sqlite.specs.declared.error.Error.{Error}
use Rattle.sqlite.specs.Schema.{Schema}
use Rattle.sqlite.specs.declared.types.Value.{Value}
use Rattle.sqlite.specs.declared.types.Value.TheVariants.{Text, Blob}
use Rattle.sqlite.specs.Order.{Row, column}
use Rattle.sqlite.specs.Query.{Query}
use Rattle.sqlite.specs.Command.TheVariants.{Select}
use Rattle.sqlite.specs.Program.{overlay}
use Rattle.sqlite.specs.Tree.{Trees}
use Rattle.sqlite.specs.Effect.{Database, RefusesQuery, RefusesToRead}
use Rattle.sqlite.specs.Listing.{understood, reads_listing, IsSourceOf}
use Rattle.sqlite.specs.State.{State, HasCleanDisk, store_error, is_disk_error, HasCause, Fails, IsNoStatement, IsNotRun, FailsToQuery}
use Rattle.sqlite.proofs.Callers.{IsPlain, command_of}
use Rattle.dav_rows.specs.Tables.{rows_schema, no_schema}
use Rattle.dav_rows.specs.Stored.{Numbered, shown, AreRows}
use Rattle.dav_rows.specs.Contents.{Contents, Holds}
use Rattle.dav_rows.specs.Saving.{IsAt}
use Rattle.dav_rows.specs.Loading.{Reads}
use Rattle.dav_rows.specs.Failing.{IsOutOfMemory, IsExcused, AreUtf8, HasNoText, HasUtf8, IsShownBy, FailsExcused, FailsExcusedBlank, FailsText}
use Rattle.dav_rows.proofs.Suits.{IsAlone, Selects, select_query}
use Rattle.dav_rows.proofs.ReadLemmas.{begins}
use Rattle.dav_rows.proofs.ListingTexts.{listing_text, listing_query, lists_none}

-- what `?` passes on
pub passed : {X : Type 0} (e : Error) (r : Result X Error) (P : Error → Type 0) → IsErrAnd r (λ f. f ≡ e) → P e → IfErr r P
passed e (Ok x) P same is = tt
passed e (Err f) P same is = subst P (sym same) is

-- the store of an open connection fails for memory or a fault
caused : (old new : State) (e : Error) (cause : StoreError) → IsTrue old.is_open → e ≡ store_error cause → HasCause old new ⊥ cause → IsExcused old new e
caused old new e OutOfMemory is_open is why = inl is
caused old new e Io is_open is why = inr (inl (ap is_disk_error is, why))
caused old new e Corrupt is_open is why = inr (inl (ap is_disk_error is, why))
caused old new e Full is_open is why = inr (inl (ap is_disk_error is, why))
caused old new e Broken is_open is why = absurd (let x = sym why ∙ is_open in cc)
caused old new e Unstorable is_open is why = absurd why

pub failed : (old new : State) (e : Error) → IsTrue old.is_open → Fails old new ⊥ e → IsExcused old new e
failed old new e is_open h = caused old new e h.0 is_open h.1 h.2

-- a text that is one statement is one
pub is_statement : (schema : Schema) (sql : List ℕ) (params : Row) → IsPlain (understood schema sql) → IsAlone sql (length params) (understood schema sql) → (old : State) → old.now.schema ≡ schema
    → (e : Error) → IsNoStatement old sql params e → ⊥
is_statement schema sql params plain alone old has e (inl h) = subst IsPlain (ap (λ s. understood s sql) (sym has) ∙ h.1) plain
is_statement schema sql params plain alone old has e (inr h) =
    let known = ap (λ s. understood s sql) (sym has) ∙ h.1 in
    let bare = subst IsPlain known plain in
    let one = subst (IsAlone sql (length params)) known alone in
    elim h.2 [
      | inl long ↦ long.0 one.0
      | inr other ↦ elim other [
        | inl count ↦ count.0 (sym one.1)
        | inr untimed ↦ untimed.0 bare.1
      ]
    ]

module _ (schema : Schema) (sql : List ℕ) (plain : IsPlain (understood schema sql)) (alone : IsAlone sql 0 (understood schema sql)) (old new : State) (has : old.now.schema ≡ schema) where
  -- a query that fails did not run, or is refused
  ran : (e : Error) → FailsToQuery sql [] old new e
      → Fails old new ⊥ e ⊎ ((db : Database) × IsSourceOf (reads_listing schema sql) old.now db × RefusesToRead old.step_limit (command_of (understood schema sql)) db [] e)
  unfolding FailsToQuery IsNotRun
  ran e (inl (inl h)) = absurd (is_statement schema sql [] plain alone old has e h.0)
  ran e (inl (inr h)) = inl h
  ran e (inr h) =
      let known = sym h.1.is ∙ ap (λ s. understood s sql) has in
      let bare = subst IsPlain (sym known) plain in
      let it = rw (bare.0, bare.1) at h.2 in
      inr (it.0, subst (λ b. IsSourceOf b old.now it.0) (ap (λ s. reads_listing s sql) has) it.1, subst (λ k. RefusesToRead old.step_limit k it.0 [] e) (ap command_of known) it.2)

  -- what a query of columns alone fails for
  pub excused : (q : Query) (names : List (List ℕ)) → command_of (understood schema sql) ≡ Select (record { lets = []; body = q }) names → IsTrue old.is_open
      → ((db : Database) → IsSourceOf (reads_listing schema sql) old.now db → accepts_program db.schema [] q [] ≡ true) → ((db : Trees) → QueryOverflows q db [] → ⊥)
      → (e : Error) → FailsToQuery sql [] old new e → IsExcused old new e
  excused q names is is_open accepts never e h = elim (ran e h) [
    | inl store ↦ failed old new e is_open store
    | inr refused ↦ why refused.0 (accepts refused.0 refused.1) (subst (λ k. RefusesToRead old.step_limit k refused.0 [] e) is refused.2)
  ]
    where
      why : (db : Database) → accepts_program db.schema [] q [] ≡ true → RefusesQuery old.step_limit db (record { lets = []; body = q }) [] e → IsExcused old new e
      why db good (inl bad) = absurd (let x = sym good ∙ bad.1 in cc)
      why db good (inr (inl over)) = absurd (never (overlay db.trees []) over.1)
      why db good (inr (inr limit)) = inr (inr limit)

-- ---- the tables

module _ {V : Type 0} (cells : V → Row) (tree : ℕ) (text : List ℕ) (s : Selects cells tree text) where
  select_excused : (old new : State) (m : Contents) (e : Error) → IsAt old m → FailsToQuery text [] old new e → IsExcused old new e
  select_excused old new m e at =
      excused rows_schema text s.plain s.alone old new at.schema (select_query tree s.project) s.names s.is at.is_open accepted never e
    where
      accepted : (db : Database) → IsSourceOf (reads_listing rows_schema text) old.now db → accepts_program db.schema [] (select_query tree s.project) [] ≡ true
      accepted db source =
          let same : db ≡ old.now = subst (λ b. IsSourceOf b old.now db) s.unlisted source in
          ap (λ (d : Database). accepts_program d.schema [] (select_query tree s.project) []) same ∙ ap (λ schema. accepts_program schema [] (select_query tree s.project) []) at.schema ∙ s.accepted

      never : (db : Trees) → QueryOverflows (select_query tree s.project) db [] → ⊥
      never db (inl over) = over
      never db (inr over) = over.4

  module _ (IsText : V → Type 0) (field : Contents → Numbered V) (seen : (db : Trees) → overlay db [] tree ≡ db tree) (has : (db : Trees) (m : Contents) → Holds db m → AreRows cells (db tree) (field m))
      (texts : (m : Contents) → HasUtf8 m → AreUtf8 IsText (field m)) where
    shown_by : (rows tail : List Row) (row : Row) (es : List (ℤ × V)) → (rows ++ row ∷ []) ++ tail ≡ map (shown cells) es → AllByRecursion (λ e. IsText e.1) es → IsShownBy cells IsText row
    shown_by [] tail row [] same all = absurd (let x = same in cc)
    shown_by [] tail row (e ∷ es) same all = let is : row ≡ shown cells e = cc in (e.0, e.1, all.0, is)
    shown_by (r ∷ rows) tail row [] same all = absurd (let x = same in cc)
    shown_by (r ∷ rows) tail row (e ∷ es) same all = let more : (rows ++ row ∷ []) ++ tail ≡ map (shown cells) es = cc in shown_by rows tail row es more all.1

    -- a table that is not read
    pub table_excused : {X : Type 0} (old new : State) (r : Result X Error) → FailsText (IsShownBy cells IsText) text old new r → FailsExcused old new r
    table_excused old new (Ok all) fails = λ clean. tt
    table_excused old new (Err e) fails = λ clean m at utf8. elim (fails s.plain clean m at) [
      | inl query ↦ select_excused old new m e at query
      | inr other ↦ inl (other (λ rows row begun.
          let it = begins cells tree text seen s old (rows ++ row ∷ []) (field m) at.schema (has old.now.trees m at.holds) begun in
          shown_by rows it.0 row (entries (field m)) it.1 (texts m utf8)))
    ]

-- ---- calls in turn

pub excused_after : (a b c : State) (e : Error) → a.faults ≤ b.faults → b.step_limit ≡ a.step_limit → IsExcused b c e → IsExcused a c e
excused_after a b c e faults limit (inl memory) = inl memory
excused_after a b c e faults limit (inr (inl fault)) = inr (inl (fault.0, omega (arith, faults, fault.1)))
excused_after a b c e faults limit (inr (inr over)) = inr (inr (over.0, subst IsSome limit over.1))

-- the first call fails
pub fails_first : {X Y : Type 0} {a b : State} {e : Error} {P : X → Contents → Type 0} (r : Result Y Error) → IsErrAnd r (λ f. f ≡ e) → Reads a b (Err e) P → FailsExcused {X = Y} a b (Err e) → FailsExcused a b r
fails_first {X} {Y} {a} {b} {e} r same reads fails = λ clean. passed e r _ same (fails clean)

-- a later call fails
pub fails_after : {X Y Z : Type 0} {a b c : State} {x : X} {e : Error} {P : X → Contents → Type 0} {Q : Y → Contents → Type 0} (r : Result Z Error) → IsErrAnd r (λ f. f ≡ e)
    → Reads a b (Ok x) P → Reads b c (Err e) Q → FailsExcused {X = Z} b c (Err e) → FailsExcused a c r
fails_after {X} {Y} {Z} {a} {b} {c} {x} {e} r same reads next fails = λ clean. passed e r _ same (λ m at utf8.
    let early : HasCleanDisk b = omega (arith, next.clean, clean) in
    excused_after a b c e reads.faults reads.limit (fails clean m (reads.ok early m at).0 utf8))

-- ---- the list of tables

pub listing_excused : (old new : State) (r : Result (Vec Row Global) Error) → (HasCleanDisk new → IfErr r (FailsToQuery listing_text [] old new)) → FailsExcusedBlank old new r
listing_excused old new (Ok rows) fails = λ clean. tt
listing_excused old new (Err e) fails = λ clean blank.
    excused no_schema listing_text lists_none.plain lists_none.alone old new blank.schema listing_query _ lists_none.is blank.is_open accepted never e (fails clean)
  where
    accepted : (db : Database) → IsSourceOf (reads_listing no_schema listing_text) old.now db → accepts_program db.schema [] listing_query [] ≡ true
    accepted db source =
        let same = (subst (λ b. IsSourceOf b old.now db) lists_none.listed source).0 in
        ap (λ schema. accepts_program schema [] listing_query []) same ∙ lists_none.accepted

    never : (db : Trees) → QueryOverflows listing_query db [] → ⊥
    never db (inl over) = over
    never db (inr over) = over.4

-- ---- the columns of a row

abbrev pub IsTextValue : Value → Type 0
IsTextValue v = (t : List ℕ) × (v ≡ Text t) × IsUtf8 t

abbrev pub IsBlobValue : Value → Type 0
IsBlobValue v = (b : List ℕ) × (v ≡ Blob b)

-- where a column that has its value is not read, memory ran out
pub unread : {V X : Type 0} (cells : V → Row) (IsText : V → Type 0) (row : Row) (at : ℕ) (IsReadable : Value → Type 0)
    → ((n : ℤ) (v : V) → IsText v → (at < length (shown cells (n, v))) × IsReadable (column (shown cells (n, v)) at))
    → (e : Error) (r : Result X Error) → (at < length row → IsReadable (column row at) → IsOutOfMemory e) → IsErrAnd r (λ f. f ≡ e) → IfErr r (λ e. IsShownBy cells IsText row → IsOutOfMemory e)
unread {V} {X} cells IsText row at IsReadable fits e r fails same = passed e r _ same all
  where
    all : IsShownBy cells IsText row → IsOutOfMemory e
    all it =
        let both = fits it.0 it.1 it.2 in
        fails (subst (λ row. at < length row) (sym it.3) both.0) (subst (λ row. IsReadable (column row at)) (sym it.3) both.1)

pub no_texts : {V : Type 0} (m : Numbered V) → AreUtf8 HasNoText m
no_texts m = go (entries m)
  where
    go : {V : Type 0} (es : List (ℤ × V)) → AllByRecursion (λ e. HasNoText e.1) es
    go [] = tt
    go (e ∷ es) = (tt, go es)
