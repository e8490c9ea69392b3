-- Which files of a store are missing: this project's own choice.
use Rattle.std.specs.Prelude.{ℕ, Bool, nat_lt, ◌&&◌, ◌||◌, not, if◌then◌else◌, unwrap_or, is_none, Option, Some, None}
use Rattle.davd.specs.declared.program.Refusal.{Refusal}
use Rattle.davd.specs.declared.program.Refusal.TheVariants.{NoData, NoDatabase, HalfNumber, Unfinished}

-- it is there and has a byte
abbrev pub has_bytes : Option ℕ → Bool
has_bytes size = nat_lt 0 (unwrap_or size 0)

-- one of the two files of the last number is there and has bytes, and the other is not there
abbrev pub is_half : Option ℕ × Option ℕ → Bool
is_half number = (has_bytes number.0 && is_none number.1) || (has_bytes number.1 && is_none number.0)

-- What is missing beside a database and its log, a data file, and the two files of the last number with so many bytes, where a file that is not there has
-- no size: the data file of a database, the rest of a backup, the database of a data file with bytes, of a number or of a log with more than the 41 bytes
-- of its header, or one of the two files of the number.
abbrev pub missing_of : Option ℕ × Option ℕ → Option ℕ → Option ℕ × Option ℕ → Bool → Option Refusal
missing_of database file number is_partial =
    if has_bytes database.0 && is_none file then Some NoData
    else (if not (has_bytes database.0) && is_partial then Some Unfinished
    else (if not (has_bytes database.0) && (has_bytes file || (has_bytes number.0 || has_bytes number.1) || nat_lt 41 (unwrap_or database.1 0)) then Some NoDatabase
    else (if is_half number then Some HalfNumber else None)))

-- These may be the files of a first start that did not end: it writes nothing to the data file, and the log has its header before the database has a byte.
abbrev pub may_be_first : Option ℕ × Option ℕ → Option ℕ → Bool
may_be_first database file = not (has_bytes file) && (not (has_bytes database.0) || not (nat_lt (unwrap_or database.1 0) 41))

-- they may be those of one that has not made the tables: the number is written after these
abbrev pub may_lack_tables : Option ℕ × Option ℕ → Option ℕ → Option ℕ × Option ℕ → Bool
may_lack_tables database file number = may_be_first database file && not (has_bytes number.0 || has_bytes number.1)
