-- A file as one of a given length.
use Rattle.std.specs.Prelude.{ℕ, ◌-◌, List, ◌++◌, length, take, replicate}

-- so many of these bytes, with zeros behind them if there are fewer
abbrev pub padded : ℕ → List ℕ → List ℕ
padded len bytes = take len bytes ++ replicate (len - length bytes) 0
