-- The row that holds a seal.
use Rattle.std.specs.Prelude.{ℕ, ℤ, pos}
use Rattle.std.specs.FinMap.{remove}
use Rattle.std.specs.Int.{w64, cast_signed}
use Rattle.dav_rows.specs.Stored.{Numbered}
use Rattle.dav_rows.specs.Contents.{StateValues}

-- row 1 of the state, with the seal as a signed number
abbrev pub row_with : ℕ → ℤ × StateValues
row_with seal = (pos 1, record { counter = cast_signed w64 seal; time = pos 0; batch = pos 0; digest_key = pos 0 })

-- the rows of the state but that of the seal
abbrev pub unsealed : Numbered StateValues → Numbered StateValues
unsealed states = remove states (pos 1)
