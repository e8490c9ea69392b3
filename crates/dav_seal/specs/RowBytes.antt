-- The bytes of a row, over which its digest is.
use Rattle.std.specs.Prelude.{◌<◌, ◌^◌, ℕ, List, [], ◌∷◌, ◌++◌, length, FitsSigned}
use Rattle.std.specs.Int.{w64, cast_unsigned, to_be_bytes}
use Rattle.std.specs.List.{flat_map, AllByRecursion}
use Rattle.sqlite_value.specs.declared.value.Value.{Value}
use Rattle.sqlite_value.specs.declared.value.Value.TheVariants.{Null, Int, Real, Text, Blob}
use Rattle.sqlite_value.specs.Order.{Row}
use Rattle.dav_seal.specs.declared.row_bytes.Cell.{Cell}
use Rattle.dav_seal.specs.declared.row_bytes.Cell.TheVariants as borrowed

-- the value that a borrowed cell holds
abbrev pub value_of : Cell → Value
value_of (borrowed.Int n) = Int n.now
value_of (borrowed.Text bytes) = Text bytes.now
value_of (borrowed.Blob bytes) = Blob bytes.now

-- a number below 2 ^ 64 as 8 bytes, the highest first
unfoldable pub number_bytes : ℕ → List ℕ
number_bytes n = to_be_bytes w64 n

-- how many bytes, and then the bytes
abbrev pub with_length : List ℕ → List ℕ
with_length bytes = number_bytes (length bytes) ++ bytes

-- a byte that says what the cell holds, and then what it holds; no table has a NULL or a real number
unfoldable pub cell_bytes : Value → List ℕ
cell_bytes Null = 0 ∷ []
cell_bytes (Int n) = 1 ∷ number_bytes (cast_unsigned w64 n)
cell_bytes (Real x) = 0 ∷ []
cell_bytes (Text bytes) = 2 ∷ with_length bytes
cell_bytes (Blob bytes) = 3 ∷ with_length bytes

-- the place of its table, and then its cells
abbrev pub row_bytes : ℕ → Row → List ℕ
row_bytes table cells = table ∷ flat_map cell_bytes cells

-- an integer of 64 bits, or a text or a blob whose length has 64 bits
abbrev pub IsCell : Value → Type 0
IsCell Null = ⊥
IsCell (Int n) = FitsSigned w64 n
IsCell (Real x) = ⊥
IsCell (Text bytes) = length bytes < 2 ^ 64
IsCell (Blob bytes) = length bytes < 2 ^ 64

-- such cells alone
abbrev pub AreCells : Row → Type 0
AreCells cells = AllByRecursion IsCell cells
