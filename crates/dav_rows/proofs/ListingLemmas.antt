-- What the list of tables tells.
use Rattle.std.proofs.Common.{◌≡◌, List, [], ◌∷◌, ◌||◌, length, map, filter, flat_map, cond, not, true, false, Bool, Ok, Err, Result, Vec, refl, sym, ap, subst, ◌∙◌, arith}
use Rattle.std.specs.declared.alloc.Global.{Global}
use Rattle.std.specs.List.{AllZip}
use Rattle.std.proofs.lemmas.List.{length-map}
use Rattle.std.proofs.lemmas.List.Sorted.{length_permutation}
use Rattle.sqlite_trees.specs.Objects.{catalog_tree}
use Rattle.sqlite_rules.specs.Edit.{put_all}
use Rattle.sqlite_catalog.specs.Listing.{IsSound, IsTableRow, IsIndexRow, IsViewRow, is_table_row, is_index_row, is_view_row}
use Rattle.sqlite_schema.specs.declared.schema.Schema.{Schema}
use Rattle.sqlite.specs.declared.error.Error.{Error}
use Rattle.sqlite.specs.declared.types.Value.TheVariants.{Null}
use Rattle.sqlite.specs.Order.{Row}
use Rattle.sqlite.specs.Query.{IsAnswer, output}
use Rattle.sqlite.specs.Program.{overlay}
use Rattle.sqlite.specs.Tree.{Trees}
use Rattle.sqlite.specs.Effect.{Database, Reads as ReadsBy}
use Rattle.sqlite.specs.Listing.{understood, reads_listing, IsSourceOf, shown}
use Rattle.sqlite.specs.State.{State, Shown}
use Rattle.sqlite.proofs.Callers.{IsPlain, command_of}
use Rattle.dav_rows.specs.Tables.{no_schema}
use Rattle.dav_rows.specs.Creating.{IsBlank, IsWhole}
use Rattle.dav_rows.specs.Loading.{ReadsBlank}
use Rattle.dav_rows.proofs.ListingTexts.{listing_text, listing_query, Lists, lists_none}

listed_as : (schema : Schema) (lists : Lists schema) (old new : State) (rows : List Row) → old.now.schema ≡ schema → Shown listing_text [] old new rows
    → (db : Database) × IsSourceOf true old.now db × IsAnswer listing_query (overlay db.trees []) [] rows
unfolding Shown
listed_as schema lists old new rows has h =
    let known = sym h.1.is ∙ ap (λ s. understood s listing_text) has in
    let bare = subst IsPlain (sym known) lists.plain in
    let it = rw (bare.0, bare.1) at h.2 in
    let source = subst (λ b. IsSourceOf b old.now it.0) (ap (λ s. reads_listing s listing_text) has ∙ lists.listed) it.1 in
    let read = subst (λ k. ReadsBy k it.0 [] rows) (ap command_of known ∙ lists.is) it.2 in
    (it.0, source, read.answer Null)

one_each : (rs : List Row) → flat_map (λ r. ([] ∷ r ∷ []) ∷ []) rs ≡ map (λ r. [] ∷ r ∷ []) rs
one_each [] = refl
one_each (r ∷ rs) = ap (λ l. ([] ∷ r ∷ []) ∷ l) (one_each rs)

-- as many are shown as there are
counted : (db : Trees) (rows : List Row) → IsAnswer listing_query (overlay db []) [] rows → length rows ≡ length (db 0)
counted db rows a =
    let staged : length a.staged ≡ length (db 0) = ap length (a.grouped ∙ one_each (db 0)) ∙ length-map _ (λ (r : Row). [] ∷ r ∷ []) in
    let kept : length a.kept ≡ length (db 0) = ap length a.distinct ∙ length-map _ (output listing_query) ∙ staged in
    ap length a.shown ∙ length-map _ (λ (o : Row × Row). o.1) ∙ length_permutation a.kept a.ordered a.same ∙ kept

none_long : {X : Type 0} (xs : List X) → length xs ≡ 0 → xs ≡ []
none_long [] e = refl
none_long (x ∷ xs) e = absurd (omega arith)

-- with no table, index or view there is no row
no_objects : (schema : Schema) (rows : List Row) → AllZip IsTableRow (filter is_table_row rows) [] → AllZip (IsIndexRow []) (filter is_index_row rows) [] → AllZip IsViewRow (filter is_view_row rows) [] → rows ≡ []
no_objects schema [] tables indexes views = refl
no_objects schema (x ∷ xs) tables indexes views = absurd (go (is_table_row x) (is_view_row x) tables indexes views)
  where
    go : (a b : Bool) → AllZip IsTableRow (cond a (x ∷ filter is_table_row xs) (filter is_table_row xs)) []
        → AllZip (IsIndexRow []) (cond (not (a || b)) (x ∷ filter is_index_row xs) (filter is_index_row xs)) [] → AllZip IsViewRow (cond b (x ∷ filter is_view_row xs) (filter is_view_row xs)) [] → ⊥
    go true b tables indexes views = tables
    go false true tables indexes views = views
    go false false tables indexes views = indexes

none_listed : (old new : State) (rows : List Row) → IsBlank old → Shown listing_text [] old new rows → rows ≡ []
unfolding IsWhole
none_listed old new rows blank h =
    let it = listed_as no_schema lists_none old new rows blank.schema h in
    let sound = subst (λ s. IsSound s old.now.trees) blank.schema blank.sound in
    let objects = no_objects no_schema (old.now.trees catalog_tree) sound.lists.listed.tables sound.lists.listed.indexes sound.lists.listed.views in
    let empty : it.0.trees 0 ≡ [] = it.1.1 ∙ ap (λ rows. put_all [] (map shown rows)) objects in
    none_long _ (counted it.0.trees rows it.2 ∙ ap length empty)

pub blank_listed : (old new : State) (r : Result (Vec Row Global) Error) → ReadsBlank old new r (λ rows. Shown listing_text [] old new rows.items) → ReadsBlank old new r (λ rows. rows.items ≡ [])
blank_listed old new (Ok rows) reads = record {
  clean = reads.clean;
  faults = reads.faults;
  limit = reads.limit;
  ok = λ clean blank. let both = reads.ok clean blank in (both.0, none_listed old new rows.items blank both.1);
  at = reads.at;
  crash = reads.crash;
}
blank_listed old new (Err e) reads = record { clean = reads.clean; faults = reads.faults; limit = reads.limit; ok = λ clean. tt; at = reads.at; crash = reads.crash }
