-- The table of locks: what its texts mean.
use Rattle.std.proofs.Common.{ℕ, List, [], ◌∷◌, codes, arith, refl}
use Rattle.sqlite.specs.declared.types.Value.TheVariants.{Null}
use Rattle.sqlite.specs.Term.{Term, lit, col}
use Rattle.sqlite_tied.specs.Compute.{everything}
use Rattle.sqlite.specs.Listing.{understood}
use Rattle.dav_rows.specs.Contents.{lock_cells}
use Rattle.dav_rows.specs.Tables.{lock_columns}
use Rattle.dav_rows.proofs.Suits.{Suits, Puts, Removes, Selects}

pub suits : Suits lock_cells (codes "lock") 3 lock_columns
suits = record { there = refl; cast = λ v. refl; filled = λ v. refl; seen = λ db. refl; typed = λ v. refl; present = λ n v. refl; reals = refl }

abbrev pub put_text : List ℕ
put_text = codes "INSERT OR REPLACE INTO lock (number, token, path, lock) VALUES (?1, ?2, ?3, ?4)"

abbrev terms : List Term
terms = col 0 0 ∷ lit Null ∷ col 0 1 ∷ col 0 2 ∷ col 0 3 ∷ []

pub puts : Puts lock_cells 3 put_text
unfolding understood everything
puts e = record { terms = terms; width = 5; is = refl; plain = (refl, refl); alone = (omega arith, refl); typed = refl; given = refl }

abbrev pub remove_text : List ℕ
remove_text = codes "DELETE FROM lock WHERE number = ?1"

pub removes : Removes 3 remove_text
unfolding understood everything
removes = record { is = refl; plain = (refl, refl); alone = (omega arith, refl); accepted = λ n. refl }

abbrev pub select_text : List ℕ
select_text = codes "SELECT number, token, path, lock FROM lock ORDER BY number"

abbrev project : List Term
project = col 1 0 ∷ col 1 2 ∷ col 1 3 ∷ col 1 4 ∷ []

abbrev names : List (List ℕ)
names = codes "number" ∷ codes "token" ∷ codes "path" ∷ codes "lock" ∷ []

pub selects : Selects lock_cells 3 select_text
unfolding understood everything
selects = record { project = project; names = names; is = refl; unlisted = refl; plain = (refl, refl); alone = (omega arith, refl); accepted = refl; shows = λ e. refl }
