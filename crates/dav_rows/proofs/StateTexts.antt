-- The table of states: what its texts mean.
use Rattle.std.proofs.Common.{ℕ, List, [], ◌∷◌, codes, arith, refl}
use Rattle.sqlite.specs.declared.types.Value.TheVariants.{Null}
use Rattle.sqlite.specs.Term.{Term, lit, col}
use Rattle.sqlite_tied.specs.Compute.{everything}
use Rattle.sqlite.specs.Listing.{understood}
use Rattle.dav_rows.specs.Contents.{state_cells}
use Rattle.dav_rows.specs.Tables.{state_columns}
use Rattle.dav_rows.proofs.ChangeLemmas.{cast_int}
use Rattle.dav_rows.proofs.Suits.{Suits, Puts, PutsTwo, Removes, Selects}

pub suits : Suits state_cells (codes "state") 4 state_columns
suits = record { there = refl; cast = λ v. simp cast_int; filled = λ v. refl; seen = λ db. refl; typed = λ v. refl; present = λ n v. refl; reals = refl }

abbrev pub put_text : List ℕ
put_text = codes "INSERT OR REPLACE INTO state (number, counter, time, batch, digest_key) VALUES (?1, ?2, ?3, ?4, ?5)"

abbrev terms : List Term
terms = col 0 0 ∷ lit Null ∷ col 0 1 ∷ col 0 2 ∷ col 0 3 ∷ col 0 4 ∷ []

pub puts : Puts state_cells 4 put_text
unfolding understood everything
puts e = record { terms = terms; width = 6; is = refl; plain = (refl, refl); alone = (omega arith, refl); typed = refl; given = refl }

abbrev pub put_two_text : List ℕ
put_two_text = codes "INSERT OR REPLACE INTO state (number, counter, time, batch, digest_key) VALUES (?1, ?2, ?3, ?4, ?5), (?6, ?7, ?8, ?9, ?10)"

abbrev two_terms : List Term
two_terms =
    col 0 0 ∷ lit Null ∷ col 0 1 ∷ col 0 2 ∷ col 0 3 ∷ col 0 4
    ∷ col 0 5 ∷ lit Null ∷ col 0 6 ∷ col 0 7 ∷ col 0 8 ∷ col 0 9 ∷ []

pub puts_two : PutsTwo state_cells 4 put_two_text
unfolding understood everything
puts_two a b = record { terms = two_terms; width = 6; is = refl; plain = (refl, refl); alone = (omega arith, refl); typed = refl; given = refl }

abbrev pub remove_text : List ℕ
remove_text = codes "DELETE FROM state WHERE number = ?1"

pub removes : Removes 4 remove_text
unfolding understood everything
removes = record { is = refl; plain = (refl, refl); alone = (omega arith, refl); accepted = λ n. refl }

abbrev pub select_text : List ℕ
select_text = codes "SELECT number, counter, time, batch, digest_key FROM state ORDER BY number"

abbrev project : List Term
project = col 1 0 ∷ col 1 2 ∷ col 1 3 ∷ col 1 4 ∷ col 1 5 ∷ []

abbrev names : List (List ℕ)
names = codes "number" ∷ codes "counter" ∷ codes "time" ∷ codes "batch" ∷ codes "digest_key" ∷ []

pub selects : Selects state_cells 4 select_text
unfolding understood everything
selects = record { project = project; names = names; is = refl; unlisted = refl; plain = (refl, refl); alone = (omega arith, refl); accepted = refl; shows = λ e. refl }
