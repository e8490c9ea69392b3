-- What the lemmas ask of a table and of its texts. Of each table that is written out, `refl` finds it.
use Rattle.std.proofs.Common.{◌≡◌, ℕ, ◌≤◌, pos, negsuc, ℤ, ◌/◌, List, [], ◌∷◌, ◌++◌, map, length, slice_get, Some, None, Ok, Err, Result, true, false}
use Rattle.sqlite_schema.specs.declared.schema.Column.{Column}
use Rattle.sqlite_schema.specs.declared.command.Conflict.TheVariants.{Replace}
use Rattle.sqlite_resolve.specs.declared.compiled.Compiled.{Compiled}
use Rattle.sqlite_resolve.specs.declared.error.CompileError.{CompileError}
use Rattle.sqlite_typing.specs.Types.{accepts_program, accepts_terms}
use Rattle.sqlite_schema.specs.Rules.{are_typed, are_present, table_reals}
use Rattle.sqlite_sql.specs.declared.ops.CompareOp.TheVariants.{Eq}
use Rattle.sqlite_sql.specs.declared.ops.BinaryOp.TheVariants.{Compare}
use Rattle.sqlite.specs.Collation.TheVariants.{Binary}
use Rattle.sqlite.specs.declared.types.Value.TheVariants.{Null, Int}
use Rattle.sqlite.specs.Order.{Row}
use Rattle.sqlite.specs.Cast.{cast_all}
use Rattle.sqlite.specs.Rows.{mended_from}
use Rattle.sqlite.specs.Effect.{value_rows}
use Rattle.sqlite.specs.Program.{overlay}
use Rattle.sqlite.specs.Tree.{Trees}
use Rattle.sqlite.specs.Term.{Term, lit, col, op2, eval_all}
use Rattle.sqlite.specs.Query.{Query, inner, end}
use Rattle.sqlite.specs.Source.TheVariants.{Values}
use Rattle.sqlite.specs.Command.TheVariants.{InsertOr, Select, Delete}
use Rattle.sqlite.specs.Listing.{understood, reads_listing}
use Rattle.sqlite.proofs.Callers.{IsPlain, command_of}
use Rattle.dav_rows.specs.Tables.{numbered, rows_schema}
use Rattle.dav_rows.specs.Stored.{stored, shown}

-- the text is one statement, with so many parameters
abbrev pub IsAlone : List ℕ → ℕ → Result Compiled CompileError → Type 0
IsAlone sql parameters (Ok c) = (length sql ≤ c.tail) × (length c.names ≡ parameters)
IsAlone sql parameters (Err e) = ⊥

-- the cells fill the columns of the table as they are
pub record Suits {V : Type 0} (cells : V → Row) (name : List ℕ) (tree : ℕ) (columns : List Column) : Type 0 where
  pub there : slice_get rows_schema.tables tree ≡ Some (numbered name tree columns)
  pub cast : (v : V) → cast_all columns (cells v) ≡ cells v
  pub filled : (v : V) → mended_from (Some 0) 1 columns (cells v) ≡ cells v
  pub seen : (db : Trees) → overlay db [] tree ≡ db tree
  pub typed : (v : V) → are_typed (Some 0) 0 (numbered name tree columns).columns (Null ∷ cells v) ≡ true
  pub present : (n : ℤ) (v : V) → are_present (Some 0) 0 (numbered name tree columns).columns (stored cells (n, v)) ≡ true
  pub reals : table_reals (numbered name tree columns) ≡ 0

-- what a statement is given that puts the rows of these entries: their numbers and cells
abbrev pub given_of : {V : Type 0} → (V → Row) → List (ℤ × V) → Row
given_of cells [] = []
given_of cells (e ∷ []) = shown cells e
given_of cells (e ∷ f ∷ es) = shown cells e ++ given_of cells (f ∷ es)

-- the text puts the rows of these entries
pub record PutsThese {V : Type 0} (cells : V → Row) (tree : ℕ) (text : List ℕ) (es : List (ℤ × V)) : Type 0 where
  pub terms : List Term
  pub width : ℕ
  pub is : command_of (understood rows_schema text) ≡ InsertOr tree Replace (Values terms width) []
  pub plain : IsPlain (understood rows_schema text)
  pub alone : IsAlone text (length (given_of cells es)) (understood rows_schema text)
  pub typed : accepts_terms terms (given_of cells es ++ []) ≡ true
  pub given : value_rows (given_of cells es ++ []) width (length terms / width) terms ≡ map (stored cells) es

-- the text puts a row
abbrev pub Puts : {V : Type 0} → (V → Row) → ℕ → List ℕ → Type 0
Puts {V} cells tree text = (e : ℤ × V) → PutsThese cells tree text (e ∷ [])

-- the text puts two rows
abbrev pub PutsTwo : {V : Type 0} → (V → Row) → ℕ → List ℕ → Type 0
PutsTwo {V} cells tree text = (a b : ℤ × V) → PutsThese cells tree text (a ∷ b ∷ [])

abbrev pub remove_query : ℕ → Query
remove_query tree = record {
  from = inner tree end;
  filter = op2 (Compare Eq Binary) (col 1 0) (col 0 0) ∷ [];
  group = None;
  project = col 1 0 ∷ [];
  distinct = false;
  collations = [];
  order = [];
  limit = lit (Int (negsuc 0));
  offset = lit (Int (pos 0));
}

-- the text removes the row of a number
pub record Removes (tree : ℕ) (text : List ℕ) : Type 0 where
  pub is : command_of (understood rows_schema text) ≡ Delete tree (record { lets = []; body = remove_query tree })
  pub plain : IsPlain (understood rows_schema text)
  pub alone : IsAlone text 1 (understood rows_schema text)
  pub accepted : (n : ℤ) → accepts_program rows_schema [] (remove_query tree) (Int n ∷ []) ≡ true

abbrev pub select_query : ℕ → List Term → Query
select_query tree project = record {
  from = inner tree end;
  filter = [];
  group = None;
  project = project;
  distinct = false;
  collations = [];
  order = (col 1 0, record { collation = Binary; descending = false }) ∷ [];
  limit = lit (Int (negsuc 0));
  offset = lit (Int (pos 0));
}

-- the text shows all rows in the order of their numbers
pub record Selects {V : Type 0} (cells : V → Row) (tree : ℕ) (text : List ℕ) : Type 0 where
  pub project : List Term
  pub names : List (List ℕ)
  pub is : command_of (understood rows_schema text) ≡ Select (record { lets = []; body = select_query tree project }) names
  pub unlisted : reads_listing rows_schema text ≡ false
  pub plain : IsPlain (understood rows_schema text)
  pub alone : IsAlone text 0 (understood rows_schema text)
  pub accepted : accepts_program rows_schema [] (select_query tree project) [] ≡ true
  pub shows : (e : ℤ × V) → eval_all project ([] ∷ stored cells e ∷ []) ≡ shown cells e
