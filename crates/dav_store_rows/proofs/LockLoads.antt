-- The locks of rows that are loaded.
use Rattle.std.proofs.Common.{◌≡◌, ◌<◌, ℕ, zero, suc, List, [], ◌∷◌, length, map, get_or, Option, Some, None, refl, sym, ap, ap₂, ◌∙◌, arith}
use Rattle.std.specs.List.{AllByRecursion}
use Rattle.std.specs.FinMap.{entries}
use Rattle.dav_cells.specs.Locks.{lock_codec, kept_lock}
use Rattle.dav_wire.specs.Codec.{decode, decode-encode}
use Rattle.dav_rows.specs.Stored.{Numbered}
use Rattle.dav_rows.specs.Contents.{LockValues}
use Rattle.dav_rows.specs.Changes.{lock_entry}
use Rattle.dav_rows.specs.declared.lock.LockRow.{LockRow}
use Rattle.dav_store.specs.declared.lock.DavLock.{DavLock}
use Rattle.dav_store_rows.specs.LockRows.{lock_values, row_values, IsValidLock, LocksStand}

abbrev pub lock_in_row : LockRow → Option DavLock
lock_in_row row = decode lock_codec row.lock.items

values_of_rows : (rows : List LockRow) → map (λ e. e.1) (map lock_entry rows) ≡ map row_values rows
values_of_rows [] = refl
values_of_rows (row ∷ rows) = ap (λ vs. row_values row ∷ vs) (values_of_rows rows)

decoded_values : (locks : List DavLock) → AllByRecursion IsValidLock locks → map (λ v. decode lock_codec v.lock) (map lock_values locks) ≡ map Some (map kept_lock locks)
decoded_values [] valid = refl
decoded_values (lock ∷ locks) valid = ap₂ ◌∷◌ (decode-encode lock_codec (kept_lock lock) valid.0) (decoded_values locks valid.1)

decoded_rows : (rows : List LockRow) → map lock_in_row rows ≡ map (λ v. decode lock_codec v.lock) (map row_values rows)
decoded_rows [] = refl
decoded_rows (row ∷ rows) = ap (λ ls. lock_in_row row ∷ ls) (decoded_rows rows)

-- the rows decode to the locks
pub rows_decode : (rows : List LockRow) (m : Numbered LockValues) (locks : List DavLock) → map lock_entry rows ≡ entries m → LocksStand m locks → map lock_in_row rows ≡ map Some (map kept_lock locks)
rows_decode rows m locks are stand =
    decoded_rows rows ∙ ap (map (λ v. decode lock_codec v.lock)) (sym (values_of_rows rows) ∙ ap (map (λ e. e.1)) are ∙ stand.values_are)
    ∙ decoded_values locks stand.valid

pub same_locks : (xs ys : List DavLock) → map Some xs ≡ map Some ys → xs ≡ ys
same_locks [] [] is = refl
same_locks [] (y ∷ ys) is = absurd (let e = is in cc)
same_locks (x ∷ xs) [] is = absurd (let e = is in cc)
same_locks (x ∷ xs) (y ∷ ys) is = let first : x ≡ y = cc in let rest : map Some xs ≡ map Some ys = cc in ap₂ ◌∷◌ first (same_locks xs ys rest)

-- none of the rows is damaged
pub none_damaged : (rows : List LockRow) (index : ℕ) (row : LockRow) (locks : List DavLock) → index < length rows → row ≡ get_or rows index row → map lock_in_row rows ≡ map Some locks → lock_in_row row ≡ None → ⊥
none_damaged [] index row locks low at is damaged = omega arith
none_damaged (r ∷ rows) index row [] low at is damaged = let e = is in cc
none_damaged (r ∷ rows) zero row (lock ∷ locks) low at is damaged =
    let first : lock_in_row r ≡ Some lock = cc in let same = ap lock_in_row at in cc
none_damaged (r ∷ rows) (suc index) row (lock ∷ locks) low at is damaged =
    let rest : map lock_in_row rows ≡ map Some locks = cc in none_damaged rows index row locks (omega arith) at rest damaged
