-- The query on the list of tables only reads, whatever tables there are.
use Rattle.std.proofs.Common.{◌≡◌, ℕ, Bool, true, false, if◌then◌else◌, List, [], None, Option, Ok, Err, Result, IfOk, Vec, refl, sym, subst}
use Rattle.std.specs.declared.alloc.Global.{Global}
use Rattle.sqlite_schema.specs.declared.command.Command.{Command}
use Rattle.sqlite_schema.specs.declared.command.Returning.{Returning}
use Rattle.sqlite_syntax.specs.declared.statement.Parsed.{Parsed}
use Rattle.sqlite_resolve.specs.declared.compiled.Compiled.{Compiled}
use Rattle.sqlite_resolve.specs.declared.error.CompileError.{CompileError}
use Rattle.sqlite_resolve.specs.declared.error.CompileError.TheVariants.{NoSuchTable}
use Rattle.sqlite_resolve.specs.Lowering.{Checked, and_then}
use Rattle.sqlite_resolve.specs.Compile.{compiled, planned, meaning, first, returning, timed, command, with_command}
use Rattle.sqlite_tied.specs.Compute.{everything}
use Rattle.sqlite.specs.Schema.{Schema}
use Rattle.sqlite.specs.Order.{Row}
use Rattle.sqlite.specs.declared.error.Error.{Error}
use Rattle.sqlite.specs.Listing.{understood, reads_listing, listing_schema, is_select, if_select}
use Rattle.sqlite.specs.State.{State, HasCleanDisk, Shown, CommitsShowing, Survives}
use Rattle.sqlite.proofs.Callers.{IsPlain}
use Rattle.dav_rows.specs.Loading.{LeavesAlone}
use Rattle.dav_rows.proofs.ListingTexts.{listing_text}
use Rattle.dav_rows.proofs.LoadingLemmas.{leaves_old, shown_keeps}

-- it writes nothing, and does not ask for the time
abbrev IsBare : Compiled → Type 0
IsBare c = (c.returning ≡ None) × (c.formats ≡ [])

-- the text is a query, whatever tables there are
record IsQuery (text : List ℕ) : Type 0 where
  pub parsed : Parsed
  pub is : first text ≡ Ok parsed
  pub shows : (schema : Schema) (base : ℕ) → returning schema base parsed.statement ≡ Ok None
  pub untimed : (schema : Schema) → timed schema parsed.formats parsed.statement ≡ []

listing_is_query : IsQuery listing_text
unfolding everything
listing_is_query = record { parsed = _; is = refl; shows = λ schema base. refl; untimed = λ schema. refl }

with_none : (shown : Checked (Option Returning)) → shown ≡ Ok None → (c : Checked Command) → IfOk (and_then shown (λ s. and_then c (λ c. Ok (c, s)))) (λ (f : Command × Option Returning). f.1 ≡ None)
with_none shown is c = subst (λ (shown : Checked (Option Returning)). IfOk (and_then shown (λ s. and_then c (λ c. Ok (c, s)))) (λ (f : Command × Option Returning). f.1 ≡ None)) (sym is) (go c)
  where
    go : (c : Checked Command) → IfOk (and_then c (λ c. Ok (c, None))) (λ (f : Command × Option Returning). f.1 ≡ None)
    go (Ok c) = refl
    go (Err e) = tt

with_formats : (p : Parsed) (formats : List (List ℕ)) → formats ≡ [] → (m : Checked (Command × Option Returning)) → IfOk m (λ f. f.1 ≡ None)
    → IfOk (and_then (and_then m (λ found. Ok (formats, found))) (λ plan. Ok (with_command p plan))) IsBare
with_formats p formats bare (Ok found) none = (none, bare)
with_formats p formats bare (Err e) none = tt

compiled_bare : (schema : Schema) (text : List ℕ) → IsQuery text → IfOk (compiled schema text) IsBare
unfolding compiled planned meaning
compiled_bare schema text it =
    let p = it.parsed in
    let formats = timed schema p.formats p.statement in
    subst (λ (first : Checked Parsed). IfOk (and_then first (λ p. and_then (planned schema p) (λ plan. Ok (with_command p plan)))) IsBare) (sym it.is)
    (with_formats p formats (it.untimed schema) _ (with_none _ (it.shows schema _) (command schema p.formats _ p.statement)))

either_bare : (b : Bool) (x y : Result Compiled CompileError) → IfOk x IsBare → IfOk y IsBare → IfOk (if b then x else y) IsBare
either_bare true x y one other = one
either_bare false x y one other = other

select_bare : (r : Result Compiled CompileError) → IfOk r IsBare → IfOk (if_select r) IsBare
select_bare (Ok c) bare = either_bare (is_select c.command) (Ok c) (Err NoSuchTable) bare tt
select_bare (Err e) bare = tt

understood_bare : (schema : Schema) (text : List ℕ) → IsQuery text → IfOk (understood schema text) IsBare
unfolding understood
understood_bare schema text it =
    either_bare (reads_listing schema text) (if_select (compiled listing_schema text)) (compiled schema text)
    (select_bare (compiled listing_schema text) (compiled_bare listing_schema text it)) (compiled_bare schema text it)

shown_alone : (old new : State) (rows : List Row) → Shown listing_text [] old new rows → Survives old new (CommitsShowing listing_text [] old) → HasCleanDisk new → LeavesAlone old new
unfolding Shown
shown_alone old new rows h survives clean =
    let bare = subst (λ r. IfOk r IsBare) h.1.is (understood_bare old.now.schema listing_text listing_is_query) in
    let plain : IsPlain (understood old.now.schema listing_text) = subst IsPlain (sym h.1.is) bare in
    record {
      same = shown_keeps old.now.schema listing_text plain old new refl rows h;
      crash = leaves_old old.now.schema listing_text plain old new refl survives clean;
    }

pub listed_alone : (old new : State) (r : Result (Vec Row Global) Error) → (HasCleanDisk new → IfOk r (λ rows. Shown listing_text [] old new rows.items))
    → Survives old new (CommitsShowing listing_text [] old) → HasCleanDisk new → IfOk r (λ rows. LeavesAlone old new)
listed_alone old new (Ok rows) shown survives clean = shown_alone old new rows.items (shown clean) survives clean
listed_alone old new (Err e) shown survives clean = tt
