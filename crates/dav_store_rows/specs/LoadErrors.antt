-- The errors of loading.
use Rattle.dav_cells.specs.declared.error.CellError.{CellError}
use Rattle.dav_cells.specs.declared.error.CellError.TheVariants as cell
use Rattle.dav_store_rows.specs.declared.loading.LoadError.{LoadError}
use Rattle.dav_store_rows.specs.declared.loading.LoadError.TheVariants.{Damaged, Memory}

-- the error of a cell, in the words of loading
abbrev pub from_cell : CellError → LoadError
from_cell cell.Malformed = Damaged
from_cell cell.TooDeep = Damaged
from_cell cell.Memory = Memory
