-- The digest of a row, and those of all rows of a table.
use Rattle.std.specs.Prelude.{ℕ, ℤ, List, map}
use Rattle.std.specs.FinMap.{entries}
use Rattle.sqlite_disk.specs.Digest.{digest}
use Rattle.sqlite_value.specs.Order.{Row}
use Rattle.dav_rows.specs.declared.change.Table.{Table}
use Rattle.dav_rows.specs.Creating.{place}
use Rattle.dav_rows.specs.Stored.{Numbered, shown}
use Rattle.dav_seal.specs.RowBytes.{row_bytes}

-- the bytes of a row: the place of its table, its number and its cells
abbrev pub entry_bytes : {V : Type 0} → Table → (V → Row) → ℤ × V → List ℕ
entry_bytes table cells e = row_bytes (place table) (shown cells e)

-- its digest under the key
unfoldable pub entry_digest : {V : Type 0} → ℕ → Table → (V → Row) → ℤ × V → ℕ
entry_digest key table cells e = digest key (entry_bytes table cells e)

-- each row's number with its digest
abbrev pub numbered_by : {V : Type 0} → (ℤ × V → ℕ) → List (ℤ × V) → List (ℤ × ℕ)
numbered_by digest_of es = map (λ e. (e.0, digest_of e)) es

-- the digests of a table's rows, in the order of the numbers
abbrev pub digests_of : {V : Type 0} → ℕ → Table → (V → Row) → Numbered V → List (ℤ × ℕ)
digests_of key table cells m = numbered_by (entry_digest key table cells) (entries m)
