-- Why the tables are not made.
use Rattle.std.proofs.Common.{◌≡◌, inl, inr, ℕ, zero, suc, ◌+◌, ◌<◌, ◌&&◌, List, [], ◌∷◌, length, codes, true, false, Bool, cond, ℤ, Ordering, Less, Equal, Greater, int_cmp, Any, Some, None, Option, Ok, Err, Result, IfErr, IsErrAnd, ◌≤◌, IsTrue, refl, sym, ap, subst, ◌∙◌, arith}
use Rattle.std.specs.List.{AllByRecursion, list_all}
use Rattle.std.specs.FinMap.{entries, empty, insert, remove, len-empty, len-entries, entries-insert}
use Rattle.std.specs.FinMap.Entries.{put, where_key, by_order}
use Rattle.std.proofs.lemmas.Cmp.{int_cmp_total}
use Rattle.std.proofs.lemmas.Str.{IsUtf8-string_bytes, IsUtf8-from_ascii}
use Rattle.std.proofs.lemmas.Bool.{ltb-true}
use Rattle.sqlite_trees.specs.View.{doubt}
use Rattle.sqlite_catalog.specs.declared.error.Refusal as alter
use Rattle.sqlite_catalog.specs.declared.error.Refusal.TheVariants.{Invalid, NameTaken, BadName, BadKey, BadText, TooBig, Violates}
use Rattle.sqlite_catalog.specs.Listing.{is_formed, is_fit}
use Rattle.sqlite_catalog.specs.Change.{is_used, is_reserved, automatics}
use Rattle.sqlite_rules.specs.Lists.{Has}
use Rattle.sqlite_catalog.specs.Calls.{RefusesTable}
use Rattle.sqlite_schema.specs.Rules.{table_reals}
use Rattle.sqlite.specs.declared.error.Error.{Error}
use Rattle.sqlite.specs.declared.types.Value.TheVariants.{Text}
use Rattle.sqlite.specs.Command.TheVariants.{CreateTable}
use Rattle.sqlite.specs.Compile.{table_defined_by}
use Rattle.sqlite.specs.Change.{created}
use Rattle.sqlite.specs.Table.{Table}
use Rattle.sqlite.specs.Does.{Does, MakesTable, MakesSequence, lacks_sequence}
use Rattle.sqlite.specs.Rows.{Then}
use Rattle.sqlite.specs.Effect.{Database}
use Rattle.sqlite.specs.State.{State, HasCleanDisk, Survives, mode_of, ExecutesInside}
use Rattle.sqlite.specs.Steps.{FailsToCommit}
use Rattle.sqlite.specs.Tree.{Trees}
use Rattle.std.specs.Prelude.{IsSome, IsUtf8, nat_lt, slice_index}
use Rattle.dav_rows.specs.declared.change.Table.{Table as Name}
use Rattle.dav_rows.specs.Texts.{creation}
use Rattle.dav_rows.specs.Creating.{place, schema_of, nothing, first, IsBlank, IsInside, IsBare, IsBuilt, Adds}
use Rattle.dav_rows.specs.Failing.{IsExcusedPut, PutsTooLong, AreUtf8, HasUtf8, IsUtf8Resource, IsUtf8Property, IsUtf8Lock, FailsExcused, FailsToApply, FailsToBuild, FailsToFill, FailsToCreate, FailsToFillNotes}
use Rattle.dav_rows.specs.Tables.{older_schema}
use Rattle.dav_rows.specs.declared.change.Table.TheVariants.{Resource, Extent, Property, Lock, State as TheState, Note}
use Rattle.dav_rows.specs.declared.loading.Rows.{Rows}
use Rattle.dav_rows.specs.declared.change.Change.{Change}
use Rattle.dav_rows.specs.declared.change.Change.TheVariants.{PutResource, PutExtent, PutProperty, PutLock, PutState, PutNote, Remove}
use Rattle.dav_rows.specs.Stored.{Numbered}
use Rattle.dav_rows.specs.Contents.{Contents}
use Rattle.dav_rows.specs.Changes.{resource_entry, property_entry, lock_entry, after, after_one}
use Rattle.dav_rows.specs.Saving.{IsReady, IsAt, Edits}
use Rattle.dav_rows.proofs.RowLemmas.{is_other, entries-remove}
use Rattle.dav_rows.proofs.ChangeLemmas.{ours}
use Rattle.dav_rows.proofs.CreateLemmas.{Makes, makes, none_built, all_built, all_there, holds_nothing, holds_on, none_long}
use Rattle.dav_rows.proofs.FailLemmas.{failed, passed, excused_after}
use Rattle.dav_rows.proofs.RefuseLemmas.{stops, stopped, not_ok, caused_by}

utf8_of : (text : List ℕ) → list_all (λ b. nat_lt b 128) text ≡ true → IsUtf8 text
utf8_of text all = IsUtf8-from_ascii text (low text all)
  where
    low : (text : List ℕ) → list_all (λ b. nat_lt b 128) text ≡ true → (i : ℕ) → slice_index text i < 128
    low [] all i = omega arith
    low (b ∷ text) all zero = ltb-true b 128 (front (nat_lt b 128) _ all)
      where
        front : (p q : Bool) → (p && q) ≡ true → p ≡ true
        front true q is = refl
        front false q is = is
    low (b ∷ text) all (suc i) = low text (back (nat_lt b 128) _ all) i
      where
        back : (p q : Bool) → (p && q) ≡ true → q ≡ true
        back true q is = is
        back false q is = absurd (let x = is in cc)

module _ (count : ℕ) (text : List ℕ) (it : Makes count text) where
  -- the table that the text defines
  same_table : (t : Table) → table_defined_by text ≡ Ok t → t ≡ it.table
  same_table t is = let both : Ok t ≡ Ok it.table = sym is ∙ it.defined in cc

  unrefused : (why : alter.Refusal) → RefusesTable (schema_of count) text why → ⊥
  unrefused (Invalid e) h = absurd (let x = sym h ∙ it.defined in cc)
  unrefused NameTaken h = elim h.2 [
    | inl used ↦ absurd (let x = sym used ∙ ap (λ (t : Table). is_used (schema_of count) t.name) (same_table h.0 h.1) ∙ it.free in cc)
    | inr other ↦ (subst (λ keys. Has (automatics h.0 0 0 keys) other.0 → ⊥) (sym (ap (λ (t : Table). t.uniques) (same_table h.0 h.1) ∙ it.unindexed)) (λ none. none)) other.1
  ]
  unrefused BadName h = elim h.2 [
    | inl bad ↦ bad (subst (λ (t : Table). IsUtf8 t.name) (sym (same_table h.0 h.1)) (utf8_of it.table.name it.ascii.1))
    | inr reserved ↦ absurd (let x = sym reserved.0 ∙ ap (λ (t : Table). is_reserved t.name) (same_table h.0 h.1) ∙ it.unreserved in cc)
  ]
  unrefused TooBig h =
      let none : h.0.uniques ≡ [] = ap (λ (t : Table). t.uniques) (same_table h.0 h.1) ∙ it.unindexed in
      let no_reals : table_reals h.0 ≡ 0 = ap table_reals (same_table h.0 h.1) ∙ it.reals in
      elim h.2 [
        | inl many ↦ absurd (omega (arith, many, it.low, ap length none))
        | inr other ↦ elim other [
          | inl reals ↦ absurd (omega (arith, reals, no_reals))
          | inr key ↦ (subst (λ keys. Has keys key.0 → ⊥) (sym none) (λ has. has)) key.1
        ]
      ]
  unrefused BadKey h = absurd (let x = sym h.2 ∙ ap is_formed (same_table h.0 h.1) ∙ it.formed in cc)
  unrefused BadText h =
      absurd (let x = sym h.2 ∙ ap (λ name. is_fit (Text (codes "table")) (Text name) (Text name) (Text text)) (ap (λ (t : Table). t.name) (same_table h.0 h.1) ∙ it.titled) ∙ it.fit in cc)
  unrefused (Violates rule) h = h

  -- the table is made
  made : (db : Database) → db.schema ≡ schema_of count → (s : Option Error) → MakesTable text db (Err s) → ⊥
  made db is None long = absurd (omega (arith, long.2, ap (λ (t : Table). length t.name) (same_table long.0 long.1), it.short))
  made db is (Some e) (inl no_text) = no_text.0 (utf8_of text it.ascii.0)
  made db is (Some e) (inr refused) = unrefused refused.0 (subst (λ schema. RefusesTable schema text refused.0) is refused.1)

  builds_on : (old : State) → old.now.schema ≡ schema_of count → (s : Option Error) → Does old.step_limit (mode_of old) [] old.now text None CreateTable (Err s) → ⊥
  builds_on old is s does = elim (stopped (λ s. Then (MakesTable text old.now) MakesSequence (Err s)) does) [
    | inl makes ↦ elim (stopped (λ s. MakesTable text old.now (Err s)) makes) [
      | inl bad ↦ made old.now is s bad
      | inr on ↦
          let after : on.0.schema ≡ schema_of (count + 1) = on.1.is ∙ ap (λ s. created s on.1.table) is ∙ ap (created (schema_of count)) (same_table on.1.table on.1.defined) ∙ it.next in
          let plain : lacks_sequence on.0.schema ≡ false = ap lacks_sequence after ∙ it.uncounted in
          not_ok (rw plain at on.2)
    ]
    | inr done ↦ not_ok done.2
  ]

  builds_fail : (old new : State) (r : Result ℕ Error) → (HasCleanDisk new → IsTrue old.in_transaction → ExecutesInside 0 text [] old new r) → FailsToBuild count old new r
  builds_fail old new (Ok rows) ran = λ clean. tt
  builds_fail old new (Err e) ran = λ clean built.
      elim (stops (schema_of count) text [] it.plain it.alone old new built.schema_is CreateTable it.command refl (refl, refl) e (ran clean built.inside)) [
        | inl fails ↦ failed old new e built.is_open fails
        | inr (inl does) ↦ absurd (builds_on old built.schema_is (Some e) (subst (λ t. Does old.step_limit (mode_of old) [] old.now t None CreateTable (Err (Some e))) it.whole does))
        | inr (inr fails) ↦ elim (caused_by old new e _ fails.0 built.is_open fails.1 fails.2) [
          | inl excused ↦ excused
          | inr big ↦ absurd (builds_on old built.schema_is None (subst (λ t. Does old.step_limit (mode_of old) [] old.now t None CreateTable (Err None)) it.whole big.1))
        ]
      ]

pub creates_fail : (name : Name) (old new : State) (r : Result ℕ Error) → (HasCleanDisk new → IsTrue old.in_transaction → ExecutesInside 0 (creation name) [] old new r) → FailsToBuild (place name) old new r
creates_fail name = builds_fail (place name) (creation name) (makes name)

-- ---- statements in turn

pub excused_put_after : (a b c : State) (Long Longer : Type 0) (e : Error) → a.faults ≤ b.faults → b.step_limit ≡ a.step_limit → (Long → Longer) → IsExcusedPut b c Long e → IsExcusedPut a c Longer e
excused_put_after a b c Long Longer e faults limit longer (inl excused) = inl (excused_after a b c e faults limit excused)
excused_put_after a b c Long Longer e faults limit longer (inr long) = inr (long.0, longer long.1)

-- changes were applied, and the next one fails
pub applied_fails : {X : Type 0} (a b c : State) (f : Contents → Contents) (Long Longer : Type 0) (e : Error) (r : Result X Error) → IsErrAnd r (λ f. f ≡ e) → Survives a b (λ _. ⊥) → doubt b.is_clean ≤ doubt c.is_clean
    → (HasCleanDisk b → IsReady a → Edits a b f) → FailsToApply {X = X} b c Long (Err e) → (Long → Longer) → FailsToApply a c Longer r
applied_fails a b c f Long Longer e r same survives still edits fails longer = λ clean. passed e r _ same (λ ready m holds.
    let early : HasCleanDisk b = omega (arith, still, clean) in
    let was = edits early ready in
    excused_put_after a b c Long Longer e survives.counts survives.limit longer (fails clean was.ready (f m) (was.holds m holds)))

-- the same if a row may be too long for more
pub longer_fails : {X : Type 0} (a c : State) (Long Longer : Type 0) (e : Error) (r : Result X Error) → IsErrAnd r (λ f. f ≡ e) → FailsToApply {X = X} a c Long (Err e) → (Long → Longer) → FailsToApply a c Longer r
longer_fails a c Long Longer e r same fails longer = λ clean. passed e r _ same (λ ready m holds. excused_put_after a a c Long Longer e (omega arith) refl longer (fails clean ready m holds))

-- tables were made, and the next one fails
inside_of : (at : ℕ) (s : State) → IsBuilt at s → IsInside (schema_of at) s
inside_of at s built = record { is_open = built.is_open; inside = built.inside; schema_is = built.schema }

pub built_fails : {X : Type 0} (a b c : State) (at : ℕ) (e : Error) (r : Result X Error) → IsErrAnd r (λ f. f ≡ e) → Survives a b (λ _. ⊥) → doubt b.is_clean ≤ doubt c.is_clean
    → (HasCleanDisk b → IsBuilt 0 a → IsBuilt at b) → FailsToBuild {X = X} at b c (Err e) → FailsToBuild 0 a c r
built_fails a b c at e r same survives still builds fails = λ clean. passed e r _ same (λ begun.
    let early : HasCleanDisk b = omega (arith, still, clean) in
    let bare : IsBare a = record { is_open = begun.is_open; inside = begun.inside; schema = begun.schema_is } in
    excused_after a b c e survives.counts survives.limit (fails clean (inside_of at b (builds early (none_built a bare)))))

-- no table was made
pub fill_fails : {X : Type 0} (a b : State) (changes : List Change) (e : Error) (r : Result X Error) → IsErrAnd r (λ f. f ≡ e) → FailsToBuild {X = X} 0 a b (Err e) → FailsToFill a b changes r
fill_fails a b changes e r same fails = λ clean. passed e r _ same (λ bare. inl (fails clean (record { is_open = bare.is_open; inside = bare.inside; schema_is = bare.schema })))

-- all tables were made, and a change fails
pub filled_fails : {X : Type 0} (a b c : State) (changes : List Change) (r : Result X Error) → Survives a b (λ _. ⊥) → doubt b.is_clean ≤ doubt c.is_clean
    → (HasCleanDisk b → IsBare a → IsBuilt 6 b) → FailsToApply b c (Any PutsTooLong changes) r → FailsToFill a c changes r
filled_fails a b c changes (Ok x) survives still builds fails = λ clean. tt
filled_fails a b c changes (Err e) survives still builds fails = λ clean bare.
    let early : HasCleanDisk b = omega (arith, still, clean) in
    let built = builds early bare in
    let held = holds_nothing b.now built.schema (ours b.now built.schema (built.sound (omega arith))) built.empty in
    excused_put_after a b c _ _ e survives.counts survives.limit (λ long. long) (fails clean (all_built b built) nothing held)

-- the table of the notes is not made
pub notes_fail : {X : Type 0} (a b : State) (changes : List Change) (e : Error) (r : Result X Error) → IsErrAnd r (λ f. f ≡ e) → FailsToBuild {X = X} 5 a b (Err e) → FailsToFillNotes a b changes r
notes_fail a b changes e r same fails = λ clean. passed e r _ same (λ begun m was. inl (fails clean begun))

-- the table of the notes was made, and a change fails
pub filled_notes_fail : {X : Type 0} (a b c : State) (changes : List Change) (r : Result X Error) → Survives a b (λ _. ⊥) → doubt b.is_clean ≤ doubt c.is_clean
    → (HasCleanDisk b → IsInside older_schema a → Adds 5 a b) → FailsToApply b c (Any PutsTooLong changes) r → FailsToFillNotes a c changes r
filled_notes_fail a b c changes (Ok x) survives still adds fails = λ clean. tt
filled_notes_fail a b c changes (Err e) survives still adds fails = λ clean begun m was.
    let early : HasCleanDisk b = omega (arith, still, clean) in
    let added = adds early begun in
    excused_put_after a b c _ _ e survives.counts survives.limit (λ long. long) (fails clean (all_there a b added) m (holds_on a b m added was))

-- ---- texts

all_put : {V : Type 0} (P : ℤ × V → Type 0) (k : ℤ) (v : V) (es : List (ℤ × V)) → ((x : ℤ) → P (x, v)) → AllByRecursion P es → AllByRecursion P (put int_cmp k v es)
all_put P k v [] here all = (here k, tt)
all_put P k v (e ∷ es) here all = go (int_cmp k e.0) (all_put P k v es here all.1)
  where
    go : (o : Ordering) → AllByRecursion P (put int_cmp k v es) → AllByRecursion P (by_order o ((k, v) ∷ e ∷ es) ((e.0, v) ∷ es) (e ∷ put int_cmp k v es))
    go Less more = (here k, all)
    go Equal more = (here e.0, all.1)
    go Greater more = (all.0, more)

all_where : {V : Type 0} (P : ℤ × V → Type 0) (q : ℤ → Bool) (es : List (ℤ × V)) → AllByRecursion P es → AllByRecursion P (where_key int_cmp q es)
all_where P q [] all = tt
all_where P q (e ∷ es) all = go (q e.0) (all_where P q es all.1)
  where
    go : (b : Bool) → AllByRecursion P (where_key int_cmp q es) → AllByRecursion P (cond b (e ∷ where_key int_cmp q es) (where_key int_cmp q es))
    go true more = (all.0, more)
    go false more = more

module _ {V : Type 0} (IsText : V → Type 0) (m : Numbered V) (all : AreUtf8 IsText m) where
  utf8_insert : (k : ℤ) (v : V) → IsText v → AreUtf8 IsText (insert m k v)
  utf8_insert k v text = subst (AllByRecursion (λ e. IsText e.1)) (sym (entries-insert int_cmp_total m k v)) (all_put (λ e. IsText e.1) k v (entries m) (λ x. text) all)

  utf8_remove : (k : ℤ) → AreUtf8 IsText (remove m k)
  utf8_remove k = subst (AllByRecursion (λ e. IsText e.1)) (sym (entries-remove m k)) (all_where (λ e. IsText e.1) (is_other k) (entries m) all)

utf8_after_one : (c : Change) (m : Contents) → HasUtf8 m → HasUtf8 (after_one c m)
utf8_after_one (PutResource r) m is = record { resources = utf8_insert IsUtf8Resource m.resources is.resources r.number (resource_entry r).1 (IsUtf8-string_bytes r.name); properties = is.properties; locks = is.locks }
utf8_after_one (PutExtent r) m is = record { resources = is.resources; properties = is.properties; locks = is.locks }
utf8_after_one (PutProperty r) m is = record {
  resources = is.resources;
  properties = utf8_insert IsUtf8Property m.properties is.properties r.number (property_entry r).1 (IsUtf8-string_bytes r.namespace, IsUtf8-string_bytes r.name);
  locks = is.locks;
}
utf8_after_one (PutLock r) m is = record { resources = is.resources; properties = is.properties; locks = utf8_insert IsUtf8Lock m.locks is.locks r.number (lock_entry r).1 (IsUtf8-string_bytes r.token, IsUtf8-string_bytes r.path) }
utf8_after_one (PutState r) m is = record { resources = is.resources; properties = is.properties; locks = is.locks }
utf8_after_one (PutNote r) m is = record { resources = is.resources; properties = is.properties; locks = is.locks }
utf8_after_one (Remove Resource n) m is = record { resources = utf8_remove IsUtf8Resource m.resources is.resources n; properties = is.properties; locks = is.locks }
utf8_after_one (Remove Extent n) m is = record { resources = is.resources; properties = is.properties; locks = is.locks }
utf8_after_one (Remove Property n) m is = record { resources = is.resources; properties = utf8_remove IsUtf8Property m.properties is.properties n; locks = is.locks }
utf8_after_one (Remove Lock n) m is = record { resources = is.resources; properties = is.properties; locks = utf8_remove IsUtf8Lock m.locks is.locks n }
utf8_after_one (Remove TheState n) m is = record { resources = is.resources; properties = is.properties; locks = is.locks }
utf8_after_one (Remove Note n) m is = record { resources = is.resources; properties = is.properties; locks = is.locks }

-- changes put texts that are UTF-8
pub utf8_after : (changes : List Change) (m : Contents) → HasUtf8 m → HasUtf8 (after changes m)
utf8_after [] m is = is
utf8_after (c ∷ changes) m is = utf8_after changes (after_one c m) (utf8_after_one c m is)

none_utf8 : {V : Type 0} (IsText : V → Type 0) → AreUtf8 IsText empty
none_utf8 {V} IsText = subst (AllByRecursion (λ e. IsText e.1)) (sym (none_long (entries {X = V} (empty {R = int_cmp})) (sym (len-entries empty) ∙ len-empty int_cmp V))) tt

pub utf8_first : (changes : List Change) → HasUtf8 (first changes)
utf8_first changes = utf8_after changes nothing (record { resources = none_utf8 IsUtf8Resource; properties = none_utf8 IsUtf8Property; locks = none_utf8 IsUtf8Lock })

-- ---- a database with nothing in it

-- the tables were made, and are not read
pub loaded_fails : {X : Type 0} (a b c : State) (changes : List Change) (r : Result X Error) → a.faults ≤ b.faults → b.step_limit ≡ a.step_limit → doubt b.is_clean ≤ doubt c.is_clean
    → (HasCleanDisk b → IsBlank a → IsAt b (first changes)) → FailsExcused b c r → FailsToCreate a c changes r
loaded_fails a b c changes (Ok x) faults limit still made fails = λ clean. tt
loaded_fails a b c changes (Err e) faults limit still made fails = λ clean blank.
    let early : HasCleanDisk b = omega (arith, still, clean) in
    inl (excused_after a b c e faults limit (fails clean (first changes) (made early blank) (utf8_first changes)))

widened : (a began b c : State) (Long : Type 0) (e : Error) → a.faults ≤ began.faults → began.step_limit ≡ a.step_limit → b.faults ≤ c.faults → IsExcusedPut began b Long e → IsExcusedPut a c Long e
widened a began b c Long e before limit behind (inl (inl memory)) = inl (inl memory)
widened a began b c Long e before limit behind (inl (inr (inl fault))) = inl (inr (inl (fault.0, omega (arith, before, behind, fault.1))))
widened a began b c Long e before limit behind (inl (inr (inr over))) = inl (inr (inr (over.0, subst IsSome limit over.1)))
widened a began b c Long e before limit behind (inr long) = inr long

-- the tables are not filled, and the transaction is undone
pub undone_fails : {X : Type 0} (a began b c : State) (changes : List Change) (e : Error) (r : Result X Error) → IsErrAnd r (λ f. f ≡ e) → a.faults ≤ began.faults → began.step_limit ≡ a.step_limit
    → Survives b c (λ _. ⊥) → (IsBlank a → IsBare began) → FailsToFill {X = X} began b changes (Err e) → FailsToCreate a c changes r
undone_fails a began b c changes e r same before limit survives begins fails = λ clean. passed e r _ same (λ blank.
    let early : HasCleanDisk b = omega (arith, survives.clean, clean) in
    widened a began b c (Any PutsTooLong changes) e before limit survives.counts (fails early (begins blank)))

-- the tables are filled, and not committed
pub commit_fails : {X : Type 0} {P : Trees → Type 0} (a b c : State) (changes : List Change) (r : Result X Error) → a.faults ≤ b.faults → b.step_limit ≡ a.step_limit
    → Survives b c P → (HasCleanDisk b → IsBlank a → IsReady b) → (HasCleanDisk c → IfErr r (FailsToCommit b c)) → FailsToCreate a c changes r
commit_fails a b c changes (Ok x) faults limit survives ready fails = λ clean. tt
commit_fails a b c changes (Err e) faults limit survives ready fails = λ clean blank.
    let early : HasCleanDisk b = omega (arith, survives.clean, clean) in
    let at = ready early blank in
    elim (fails clean) [
      | inl store ↦ inl (excused_after a b c e faults limit (failed b c e at.is_open store))
      | inr ended ↦ absurd (let x = sym ended.1 ∙ at.inside in cc)
    ]

-- what was found is an empty database, and its tables are not made and loaded
pub first_fails : (a b c : State) (changes : List Change) (e : Error) → a.faults ≤ b.faults → b.step_limit ≡ a.step_limit → doubt b.is_clean ≤ doubt c.is_clean → (HasCleanDisk b → IsBlank a → IsBlank b)
    → FailsToCreate {X = Rows} b c changes (Err e) → HasCleanDisk c → IsBlank a → IsExcusedPut a c (Any PutsTooLong changes) e
first_fails a b c changes e faults limit still stays fails clean blank =
    let early : HasCleanDisk b = omega (arith, still, clean) in
    excused_put_after a b c _ _ e faults limit (λ long. long) (fails clean (stays early blank))
