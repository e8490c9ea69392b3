use Rattle.std.proofs.Common.{ℕ, ℤ, List, take}
use Rattle.std.specs.List.{AllByRecursion}
use Rattle.dav_seal.specs.declared.table_seal.TableSeal.{TableSeal}
use Rattle.dav_seal.specs.Puts.{put_all}
use Rattle.dav_seal.specs.Held.{HasDigests}
use Rattle.dav_seal.proofs.seals.seal_of_rows.Given as goal

-- the rows so far
pub record IsSoFar {R : Type 0} (number : R → ℤ) (digest : R → ℕ) (HasCells : R → Type 0) (rows : List R) (seal : TableSeal) : Type 0 where
  pub digests : HasDigests seal (put_all number digest rows)
  pub whole : AllByRecursion HasCells rows

abbrev pub invariant-rows : goal.invariant-rows
invariant-rows g l = IsSoFar g.R.SealedRow.number_of (g.R.SealedRow.digest_of l.fn.key) g.R.SealedRow.HasCells (take l.row-index l.rows) l.seal
