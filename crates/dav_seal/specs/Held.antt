-- The digests that a seal keeps of a table's rows.
use Rattle.std.specs.Prelude.{◌≡◌, ◌+◌, ◌*◌, ◌/◌, ◌%◌, ◌^◌, ℕ, ℤ, List, FitsSigned}
use Rattle.std.specs.Int.{w64, cast_unsigned}
use Rattle.std.specs.List.Sorted.{IsStrictlySortedBy}
use Rattle.std.specs.Ordering.{int_cmp}
use Rattle.std.specs.Option.{unwrap_or}
use Rattle.std.specs.BTreeMap.{insert_entry, is_at}
use Rattle.std.specs.Map.{keys_of, lookup, remove_entry}
use Rattle.dav_seal.specs.declared.table_seal.Numbering.{Numbering}
use Rattle.dav_seal.specs.declared.table_seal.Numbering.TheVariants.{Plain, Parts}
use Rattle.dav_seal.specs.declared.table_seal.TableSeal.{TableSeal}
use Rattle.dav_seal.specs.Paged.{number_at}
use Rattle.dav_seal.specs.Sums.{total_of}

-- the place of a row's digest: its number, with its halves exchanged for the parts of resources
abbrev pub place_of : Numbering → ℤ → ℕ
place_of Plain number = cast_unsigned w64 number
place_of Parts number = cast_unsigned w64 number % 2 ^ 32 * 2 ^ 32 + cast_unsigned w64 number / 2 ^ 32

-- the digest that the seal keeps of the row with this number: 0 where it keeps none
abbrev pub digest_at : TableSeal → ℤ → ℕ
digest_at seal number = number_at seal.digests (place_of seal.numbering number)

-- the digest of the row with this number: 0 where there is no row
abbrev pub listed_at : List (ℤ × ℕ) → ℤ → ℕ
listed_at digests number = unwrap_or (lookup (is_at (int_cmp number)) digests) 0

-- the numbers rise
abbrev pub IsRising : List (ℤ × ℕ) → Type 0
IsRising digests = IsStrictlySortedBy int_cmp (keys_of digests)

-- the seal keeps these digests, and their sum
pub record HasDigests (seal : TableSeal) (digests : List (ℤ × ℕ)) : Type 0 where
  pub each : (number : ℤ) → FitsSigned w64 number → digest_at seal number ≡ listed_at digests number
  pub sum : seal.sum ≡ total_of digests

-- whatever digests the old seal keeps, the new one keeps them with this one put under its number
abbrev pub Puts : ℤ → ℕ → TableSeal → TableSeal → Type 0
Puts number digest old new = (digests : List (ℤ × ℕ)) → IsRising digests → HasDigests old digests → HasDigests new (insert_entry int_cmp digests number digest)

-- whatever digests the old seal keeps, the new one keeps all but the one of this number
abbrev pub Removes : ℤ → TableSeal → TableSeal → Type 0
Removes number old new = (digests : List (ℤ × ℕ)) → IsRising digests → HasDigests old digests → HasDigests new (remove_entry (is_at (int_cmp number)) digests)
