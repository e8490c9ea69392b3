-- What CREATE TABLE makes.
use Rattle.std.proofs.Common.{◌≡◌, ℕ, zero, suc, ◌+◌, ◌*◌, ◌^◌, codes, true, List, [], ◌∷◌, ◌++◌, length, map, false, None, Ok, Err, Result, OnOk, refl, sym, ap, subst, subst₂, ◌∙◌, ◌<◌, get_or, arith, int_cmp}
use Rattle.std.specs.List.{AllByRecursion, list_all}
use Rattle.std.specs.FinMap.{entries, empty, len-empty, len-entries}
use Rattle.sqlite.specs.Command.TheVariants.{CreateTable}
use Rattle.sqlite.specs.Compile.{table_defined_by}
use Rattle.sqlite.specs.Schema.{Schema}
use Rattle.sqlite.specs.Table.{Table}
use Rattle.sqlite.specs.Change.{created, next_tree}
use Rattle.sqlite_catalog.specs.Change.{is_used, is_reserved}
use Rattle.sqlite_catalog.specs.Listing.{is_formed, is_fit}
use Rattle.sqlite_schema.specs.Rules.{table_reals}
use Rattle.std.specs.Prelude.{nat_lt}
use Rattle.sqlite_value.specs.Order.{value_cmp}
use Rattle.sqlite_trees.specs.Sound.{fits_kind, is_free_name, begins, same_name}
use Rattle.sqlite.specs.declared.types.Value.TheVariants.{Text}
use Rattle.dav_rows.proofs.Suits.{IsAlone}
use Rattle.sqlite_catalog.specs.Change.{KeepsRows}
use Rattle.sqlite.specs.Does.{Tally, lacks_sequence}
use Rattle.sqlite.specs.Effect.{Database, IsDatabase}
use Rattle.sqlite.specs.declared.error.Error.{Error}
use Rattle.sqlite_tied.specs.Compute.{everything}
use Rattle.sqlite.specs.Order.{Row}
use Rattle.sqlite.specs.Tree.{Trees}
use Rattle.sqlite.specs.Listing.{understood}
use Rattle.sqlite.specs.State.{State, Writes, ExecutesInside}
use Rattle.sqlite.proofs.Callers.{IsPlain, command_of, statement_of, runs_as}
use Rattle.dav_rows.specs.declared.change.Table.{Table as Name}
use Rattle.dav_rows.specs.declared.change.Table.TheVariants.{Resource, Extent, Property, Lock, State as TheState, Note}
use Rattle.dav_rows.specs.Texts.{creation}
use Rattle.dav_rows.specs.Tables.{rows_schema}
use Rattle.dav_rows.specs.Stored.{stored, AreRows, IsOurs}
use Rattle.dav_rows.specs.Contents.{Contents, Holds, note_cells}
use Rattle.dav_rows.specs.declared.change.Change.{Change}
use Rattle.dav_rows.specs.Changes.{after}
use Rattle.dav_rows.specs.Saving.{IsReady, Edits}
use Rattle.dav_rows.specs.Creating.{place, nothing, first, schema_of, AreEmpty, IsBare, IsBuilt, IsFilled, IsWhole, IsInside, Adds}
use Rattle.dav_rows.specs.Upgrading.{HoldsOlder}
use Rattle.dav_rows.proofs.ChangeLemmas.{went, same_value, ours}

-- the text makes the table behind the first so many
pub record Makes (count : ℕ) (text : List ℕ) : Type 0 where
  pub command : command_of (understood (schema_of count) text) ≡ CreateTable
  pub plain : IsPlain (understood (schema_of count) text)
  pub whole : statement_of text (understood (schema_of count) text) ≡ text
  pub table : Table
  pub defined : table_defined_by text ≡ Ok table
  pub next : created (schema_of count) table ≡ schema_of (count + 1)
  pub uncounted : lacks_sequence (schema_of (count + 1)) ≡ false
  -- nothing is to refuse
  pub alone : IsAlone text 0 (understood (schema_of count) text)
  pub ascii : (list_all (λ b. nat_lt b 128) text ≡ true) × (list_all (λ b. nat_lt b 128) table.name ≡ true)
  pub free : is_used (schema_of count) table.name ≡ false
  pub unreserved : is_reserved table.name ≡ false
  pub unindexed : table.uniques ≡ []
  pub low : next_tree (schema_of count) < 65536
  pub reals : table_reals table ≡ 0
  pub formed : is_formed table ≡ true
  pub title : List ℕ
  pub titled : table.name ≡ title
  pub fit : is_fit (Text (codes "table")) (Text title) (Text title) (Text text) ≡ true
  pub short : 2 * length table.name + length text + 200 < 10 ^ 9

abbrev title_of : Name → List ℕ
title_of Resource = codes "resource"
title_of Extent = codes "extent"
title_of Property = codes "property"
title_of Lock = codes "lock"
title_of TheState = codes "state"
title_of Note = codes "note"

-- the list of objects may have the table
fits : (name : Name) → is_fit (Text (codes "table")) (Text (title_of name)) (Text (title_of name)) (Text (creation name)) ≡ true
unfolding fits_kind is_free_name begins same_name value_cmp lib.Ieee.is_nan lib.Ieee.lt
fits Resource = refl
fits Extent = refl
fits Property = refl
fits Lock = refl
fits TheState = refl
fits Note = refl

pub makes : (name : Name) → Makes (place name) (creation name)
unfolding understood everything
makes Resource = record { command = refl; plain = (refl, refl); whole = refl; table = _; defined = refl; next = refl; uncounted = refl; alone = (omega arith, refl); ascii = (refl, refl); free = refl; unreserved = refl; unindexed = refl; low = omega arith; reals = refl; formed = refl; title = codes "resource"; titled = refl; fit = fits Resource; short = omega arith }
makes Extent = record { command = refl; plain = (refl, refl); whole = refl; table = _; defined = refl; next = refl; uncounted = refl; alone = (omega arith, refl); ascii = (refl, refl); free = refl; unreserved = refl; unindexed = refl; low = omega arith; reals = refl; formed = refl; title = codes "extent"; titled = refl; fit = fits Extent; short = omega arith }
makes Property = record { command = refl; plain = (refl, refl); whole = refl; table = _; defined = refl; next = refl; uncounted = refl; alone = (omega arith, refl); ascii = (refl, refl); free = refl; unreserved = refl; unindexed = refl; low = omega arith; reals = refl; formed = refl; title = codes "property"; titled = refl; fit = fits Property; short = omega arith }
makes Lock = record { command = refl; plain = (refl, refl); whole = refl; table = _; defined = refl; next = refl; uncounted = refl; alone = (omega arith, refl); ascii = (refl, refl); free = refl; unreserved = refl; unindexed = refl; low = omega arith; reals = refl; formed = refl; title = codes "lock"; titled = refl; fit = fits Lock; short = omega arith }
makes TheState = record { command = refl; plain = (refl, refl); whole = refl; table = _; defined = refl; next = refl; uncounted = refl; alone = (omega arith, refl); ascii = (refl, refl); free = refl; unreserved = refl; unindexed = refl; low = omega arith; reals = refl; formed = refl; title = codes "state"; titled = refl; fit = fits TheState; short = omega arith }
makes Note = record { command = refl; plain = (refl, refl); whole = refl; table = _; defined = refl; next = refl; uncounted = refl; alone = (omega arith, refl); ascii = (refl, refl); free = refl; unreserved = refl; unindexed = refl; low = omega arith; reals = refl; formed = refl; title = codes "note"; titled = refl; fit = fits Note; short = omega arith }

still_empty : (ts : List Table) (old new : Trees) → KeepsRows ts old new → AllByRecursion (λ t. old t.tree ≡ []) ts → AllByRecursion (λ t. new t.tree ≡ []) ts
still_empty [] old new kept were = tt
still_empty (t ∷ ts) old new kept were = (kept.0 ∙ were.0, still_empty ts old new kept.1 were.1)

one_more : (ts : List Table) (t : Table) (db : Trees) → AllByRecursion (λ t. db t.tree ≡ []) ts → db t.tree ≡ [] → AllByRecursion (λ t. db t.tree ≡ []) (ts ++ t ∷ [])
one_more [] t db all here = (here, tt)
one_more (s ∷ ts) t db all here = (all.0, one_more ts t db all.1 here)

adds : (count : ℕ) (text : List ℕ) → Makes count text → (old new : State) (r : Result ℕ Error) → ExecutesInside 0 text [] old new r → IsInside (schema_of count) old → OnOk r (Adds count old new)
adds count text it old new (Err e) ran begun = tt
adds count text it old new (Ok rows) ran begun =
    let w = subst (λ t. Writes old new None CreateTable t [] rows) it.whole (runs_as text [] old new (schema_of count) begun.schema_is CreateTable it.command it.plain rows ran.0) in
    let all = went w.changed in
    let first = went all.1 in
    let made = first.1 in
    let both : Ok made.table ≡ Ok it.table = sym made.defined ∙ it.defined in
    let same : made.table ≡ it.table = cc in
    let after : first.0.schema ≡ schema_of (count + 1) = made.is ∙ ap (λ s. created s made.table) begun.schema_is ∙ ap (created (schema_of count)) same ∙ it.next in
    let plain : lacks_sequence first.0.schema ≡ false = ap lacks_sequence after ∙ it.uncounted in
    let now : new.now ≡ first.0 = ap (λ (p : Tally × Database). p.1) (same_value all.2) ∙ same_value (rw plain at first.2) in
    let empty : first.0.trees (next_tree old.now.schema) ≡ [] = made.empty in
    let kept : KeepsRows old.now.schema.tables old.now.trees first.0.trees = made.others in
    record {
      is_open = ran.1.is_open;
      inside = ran.1.mode;
      schema = ap (λ (d : Database). d.schema) now ∙ after;
      committed = ran.1.committed_is;
      kept = subst₂ (λ (s : Schema) (d : Database). KeepsRows s.tables old.now.trees d.trees) begun.schema_is (sym now) kept;
      empty = ap (λ (d : Database). d.trees (next_tree (schema_of count))) now ∙ subst (λ (s : Schema). first.0.trees (next_tree s) ≡ []) begun.schema_is empty;
      sound = w.sound;
    }

pub adds_table : (name : Name) (old new : State) (r : Result ℕ Error) → ExecutesInside 0 (creation name) [] old new r → IsInside (schema_of (place name)) old → OnOk r (Adds (place name) old new)
adds_table name = adds (place name) (creation name) (makes name)

-- tables that were empty are so still, and so is the one that is made
built : (count : ℕ) (text : List ℕ) → Makes count text → (old new : State) → IsBuilt count old → Adds count old new → IsBuilt (count + 1) new
built count text it old new was adds =
    let were = subst (λ (s : Schema). AllByRecursion (λ (t : Table). old.now.trees t.tree ≡ []) s.tables) was.schema was.empty in
    let all : AllByRecursion (λ (t : Table). new.now.trees t.tree ≡ []) (created (schema_of count) it.table).tables =
    one_more (schema_of count).tables (record it.table { tree = next_tree (schema_of count) }) new.now.trees (still_empty (schema_of count).tables old.now.trees new.now.trees adds.kept were) adds.empty in
    record {
      is_open = adds.is_open;
      inside = adds.inside;
      schema = adds.schema;
      empty = subst (λ (s : Schema). AllByRecursion (λ (t : Table). new.now.trees t.tree ≡ []) s.tables) (it.next ∙ sym adds.schema) all;
      sound = λ some. adds.sound;
    }

builds : (count : ℕ) (text : List ℕ) → Makes count text → (old new : State) (r : Result ℕ Error) → ExecutesInside 0 text [] old new r → IsBuilt count old → OnOk r (IsBuilt (count + 1) new × (new.committed ≡ old.committed))
builds count text it old new (Err e) ran was = tt
builds count text it old new (Ok rows) ran was =
    let one = adds count text it old new (Ok rows) ran (record { is_open = was.is_open; inside = was.inside; schema_is = was.schema }) in
    (built count text it old new was one, one.committed)

pub creates : (name : Name) (old new : State) (r : Result ℕ Error) → ExecutesInside 0 (creation name) [] old new r → IsBuilt (place name) old → OnOk r (IsBuilt (place name + 1) new × (new.committed ≡ old.committed))
creates name = builds (place name) (creation name) (makes name)

pub none_long : {X : Type 0} (xs : List X) → length xs ≡ 0 → xs ≡ []
none_long [] e = refl
none_long (x ∷ xs) e = absurd (omega arith)

no_rows : {V : Type 0} (cells : V → Row) (rows : List Row) → rows ≡ [] → AreRows cells rows empty
no_rows {V} cells rows none = none ∙ ap (map (stored cells)) (sym (none_long (entries {X = V} (empty {R = int_cmp})) (sym (len-entries empty) ∙ len-empty int_cmp V)))

-- empty tables stand for empty maps
pub holds_nothing : (db : Database) → db.schema ≡ rows_schema → IsOurs db.trees → AreEmpty db → Holds db.trees nothing
holds_nothing db is sound empty =
    let all = subst (λ s. AllByRecursion (λ (t : Table). db.trees t.tree ≡ []) s.tables) is empty in
    record {
      resources = no_rows _ _ all.0;
      extents = no_rows _ _ all.1.0;
      properties = no_rows _ _ all.1.1.0;
      locks = no_rows _ _ all.1.1.1.0;
      states = no_rows _ _ all.1.1.1.1.0;
      notes = no_rows _ _ all.1.1.1.1.1.0;
      sound = sound;
    }

-- the tables come in the order of their places
pub in_place : (i : ℕ) → i < 6 → place (get_or (Resource ∷ Extent ∷ Property ∷ Lock ∷ TheState ∷ Note ∷ []) i Resource) ≡ i
in_place zero low = refl
in_place (suc zero) low = refl
in_place (suc (suc zero)) low = refl
in_place (suc (suc (suc zero))) low = refl
in_place (suc (suc (suc (suc zero)))) low = refl
in_place (suc (suc (suc (suc (suc zero))))) low = refl
in_place (suc (suc (suc (suc (suc (suc i)))))) low = absurd (omega arith)

-- none of the tables is there yet
pub none_built : (s : State) → IsBare s → IsBuilt 0 s
none_built s bare = record {
  is_open = bare.is_open;
  inside = bare.inside;
  schema = bare.schema;
  empty = subst (λ schema. AllByRecursion (λ (t : Table). s.now.trees t.tree ≡ []) schema.tables) (sym bare.schema) tt;
  sound = λ some. absurd (omega arith);
}

pub all_built : (s : State) → IsBuilt 6 s → IsReady s
all_built s built = record { is_open = built.is_open; inside = built.inside; schema = built.schema }

pub filled : {X : Type 0} (a b c : State) (changes : List Change) (r : Result X Error) → IsBuilt 6 b → b.committed ≡ a.committed → OnOk r (Edits b c (after changes)) → OnOk r (IsFilled a c (first changes))
filled a b c changes (Ok done) built same it = record {
  ready = it.ready;
  committed = it.committed ∙ same;
  holds = it.holds nothing (holds_nothing b.now built.schema (ours b.now built.schema (built.sound (omega arith))) built.empty);
}
filled a b c changes (Err e) built same it = tt

pub whole : (db : Database) → IsDatabase db → IsWhole db
unfolding IsWhole
whole db sound = sound

-- ---- the table of the notes, behind those of version 1

-- the rows of version 1 stay, and there is no note
pub holds_on : (old new : State) (m : Contents) → Adds 5 old new → HoldsOlder old.now.trees m → Holds new.now.trees m
holds_on old new m adds was = record {
  resources = adds.kept.0 ∙ was.resources;
  extents = adds.kept.1.0 ∙ was.extents;
  properties = adds.kept.1.1.0 ∙ was.properties;
  locks = adds.kept.1.1.1.0 ∙ was.locks;
  states = adds.kept.1.1.1.1.0 ∙ was.states;
  notes = subst (AreRows note_cells (new.now.trees 5)) (sym was.no_notes) (no_rows note_cells (new.now.trees 5) adds.empty);
  sound = ours new.now adds.schema adds.sound;
}

pub all_there : (old new : State) → Adds 5 old new → IsReady new
all_there old new adds = record { is_open = adds.is_open; inside = adds.inside; schema = adds.schema }

pub upgraded : {X : Type 0} (a b c : State) (changes : List Change) (m : Contents) (r : Result X Error) → Adds 5 a b → HoldsOlder a.now.trees m → OnOk r (Edits b c (after changes)) → OnOk r (IsFilled a c (after changes m))
upgraded a b c changes m (Ok done) adds was it = record { ready = it.ready; committed = it.committed ∙ adds.committed; holds = it.holds m (holds_on a b m adds was) }
upgraded a b c changes m (Err e) adds was it = tt
