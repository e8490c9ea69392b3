-- The errors of cells.
use Rattle.dav_wire.specs.declared.error.WireError.{WireError}
use Rattle.dav_wire.specs.declared.error.WireError.TheVariants as wire
use Rattle.dav_cells.specs.declared.error.CellError.{CellError}
use Rattle.dav_cells.specs.declared.error.CellError.TheVariants.{Malformed, TooDeep, Memory}

-- the error of a read, in the words of cells
abbrev pub from_wire : WireError → CellError
from_wire wire.Malformed = Malformed
from_wire wire.Memory = Memory

-- the error of a write, in the words of cells
abbrev pub from_write : WireError → CellError
from_write wire.Malformed = TooDeep
from_write wire.Memory = Memory
