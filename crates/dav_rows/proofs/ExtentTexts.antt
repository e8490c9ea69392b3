-- The table of extents: what its texts mean.
use Rattle.std.proofs.Common.{ℕ, List, [], ◌∷◌, codes, arith, refl}
use Rattle.sqlite.specs.declared.types.Value.TheVariants.{Null}
use Rattle.sqlite.specs.Term.{Term, lit, col}
use Rattle.sqlite_tied.specs.Compute.{everything}
use Rattle.sqlite.specs.Listing.{understood}
use Rattle.dav_rows.specs.Contents.{extent_cells}
use Rattle.dav_rows.specs.Tables.{extent_columns}
use Rattle.dav_rows.proofs.ChangeLemmas.{cast_int}
use Rattle.dav_rows.proofs.Suits.{Suits, Puts, Removes, Selects}

pub suits : Suits extent_cells (codes "extent") 1 extent_columns
suits = record { there = refl; cast = λ v. simp cast_int; filled = λ v. refl; seen = λ db. refl; typed = λ v. refl; present = λ n v. refl; reals = refl }

abbrev pub put_text : List ℕ
put_text = codes "INSERT OR REPLACE INTO extent (number, resource, place, pieces) VALUES (?1, ?2, ?3, ?4)"

abbrev terms : List Term
terms = col 0 0 ∷ lit Null ∷ col 0 1 ∷ col 0 2 ∷ col 0 3 ∷ []

pub puts : Puts extent_cells 1 put_text
unfolding understood everything
puts e = record { terms = terms; width = 5; is = refl; plain = (refl, refl); alone = (omega arith, refl); typed = refl; given = refl }

abbrev pub remove_text : List ℕ
remove_text = codes "DELETE FROM extent WHERE number = ?1"

pub removes : Removes 1 remove_text
unfolding understood everything
removes = record { is = refl; plain = (refl, refl); alone = (omega arith, refl); accepted = λ n. refl }

abbrev pub select_text : List ℕ
select_text = codes "SELECT number, resource, place, pieces FROM extent ORDER BY number"

abbrev project : List Term
project = col 1 0 ∷ col 1 2 ∷ col 1 3 ∷ col 1 4 ∷ []

abbrev names : List (List ℕ)
names = codes "number" ∷ codes "resource" ∷ codes "place" ∷ codes "pieces" ∷ []

pub selects : Selects extent_cells 1 select_text
unfolding understood everything
selects = record { project = project; names = names; is = refl; unlisted = refl; plain = (refl, refl); alone = (omega arith, refl); accepted = refl; shows = λ e. refl }
