use Rattle.std.proofs.Common.{◌≡◌, ℕ, List, take, map}
use Rattle.sqlite_value.specs.Order.{Row}
use Rattle.dav_seal.specs.RowBytes.{value_of, row_bytes, AreCells}
use Rattle.dav_seal.proofs.row_bytes.row_digest.Given as goal

-- the bytes and the cells so far
pub record IsSoFar (items : List ℕ) (table : ℕ) (row : Row) : Type 0 where
  pub bytes : items ≡ row_bytes table row
  pub cells : AreCells row

abbrev pub invariant-cells : goal.invariant-cells
invariant-cells l = IsSoFar l.bytes.items l.fn.table (map value_of (take l.cell-index l.cells))
