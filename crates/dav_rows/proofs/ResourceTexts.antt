-- The table of resources: what its texts mean.
use Rattle.std.proofs.Common.{ℕ, List, [], ◌∷◌, codes, arith, refl}
use Rattle.sqlite.specs.declared.types.Value.TheVariants.{Null}
use Rattle.sqlite.specs.Term.{Term, lit, col}
use Rattle.sqlite_tied.specs.Compute.{everything}
use Rattle.sqlite.specs.Listing.{understood}
use Rattle.dav_rows.specs.Contents.{resource_cells}
use Rattle.dav_rows.specs.Tables.{resource_columns}
use Rattle.dav_rows.proofs.ChangeLemmas.{cast_int}
use Rattle.dav_rows.proofs.Suits.{Suits, Puts, Removes, Selects}

pub suits : Suits resource_cells (codes "resource") 0 resource_columns
suits = record { there = refl; cast = λ v. simp cast_int; filled = λ v. refl; seen = λ db. refl; typed = λ v. refl; present = λ n v. refl; reals = refl }

abbrev pub put_text : List ℕ
put_text = codes "INSERT OR REPLACE INTO resource (number, parent, name, directory, size, version, created, modified) VALUES (?1, ?2, ?3, ?4, ?5, ?6, ?7, ?8)"

abbrev terms : List Term
terms = col 0 0 ∷ lit Null ∷ col 0 1 ∷ col 0 2 ∷ col 0 3 ∷ col 0 4 ∷ col 0 5 ∷ col 0 6 ∷ col 0 7 ∷ []

pub puts : Puts resource_cells 0 put_text
unfolding understood everything
puts e = record { terms = terms; width = 9; is = refl; plain = (refl, refl); alone = (omega arith, refl); typed = refl; given = refl }

abbrev pub remove_text : List ℕ
remove_text = codes "DELETE FROM resource WHERE number = ?1"

pub removes : Removes 0 remove_text
unfolding understood everything
removes = record { is = refl; plain = (refl, refl); alone = (omega arith, refl); accepted = λ n. refl }

abbrev pub select_text : List ℕ
select_text = codes "SELECT number, parent, name, directory, size, version, created, modified FROM resource ORDER BY number"

abbrev project : List Term
project = col 1 0 ∷ col 1 2 ∷ col 1 3 ∷ col 1 4 ∷ col 1 5 ∷ col 1 6 ∷ col 1 7 ∷ col 1 8 ∷ []

abbrev names : List (List ℕ)
names = codes "number" ∷ codes "parent" ∷ codes "name" ∷ codes "directory" ∷ codes "size" ∷ codes "version" ∷ codes "created" ∷ codes "modified" ∷ []

pub selects : Selects resource_cells 0 select_text
unfolding understood everything
selects = record { project = project; names = names; is = refl; unlisted = refl; plain = (refl, refl); alone = (omega arith, refl); accepted = refl; shows = λ e. refl }
