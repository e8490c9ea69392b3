-- The seals of a table after a change, and those of its rows.
use Rattle.std.proofs.Common.{◌≡◌, ℕ, ℤ, T, List, [], ◌∷◌, map, length, refl, sym, ap, subst, ◌∙◌, int_cmp, arith}
use Rattle.std.specs.List.{AllByRecursion}
use Rattle.std.proofs.lemmas.Cmp.{int_cmp_total}
use Rattle.std.specs.FinMap.{empty, entries, entries_sorted, insert, remove, entries-insert, len-empty, len-entries}
use Rattle.std.specs.FinMap.Entries.{is_sorted}
use Rattle.sqlite_value.specs.Order.{Row}
use Rattle.dav_rows.specs.declared.change.Table.{Table}
use Rattle.dav_rows.specs.Stored.{Numbered, shown}
use Rattle.dav_rows.proofs.RowLemmas.{is_other, entries-remove}
use Rattle.dav_seal.specs.RowBytes.{AreCells}
use Rattle.dav_seal.specs.declared.table_seal.TableSeal.{TableSeal}
use Rattle.dav_seal.specs.Digests.{entry_digest, numbered_by, digests_of}
use Rattle.dav_seal.specs.Held.{IsRising, HasDigests, Puts, Removes}
use Rattle.dav_seal.specs.Puts.{put_all}
use Rattle.dav_seal.specs.Seals.{IsSealOf}
use Rattle.dav_seal.proofs.EntryLemmas.{insert_entry-numbered_by, remove_entry-numbered_by, All-put, All-where_key, All-map, is_sorted-numbered_by, put_all-sorted}
use Rattle.dav_seal.proofs.HeldLemmas.{rising-from_sorted}

nothing_in : {X : Type 0} (xs : List X) → length xs ≡ 0 → xs ≡ []
nothing_in [] e = refl
nothing_in (x ∷ xs) e = absurd (omega arith)

entries-empty : {V : Type 0} → entries (empty {X = V} {R = int_cmp}) ≡ []
entries-empty {V} = nothing_in _ (sym (len-entries (empty {X = V} {R = int_cmp})) ∙ len-empty int_cmp V)

module _ {V : Type 0} (key : ℕ) (table : Table) (cells : V → Row) where
  abbrev HasRowCells : ℤ × V → Type 0
  HasRowCells e = AreCells (shown cells e)

  rising : (m : Numbered V) → IsRising (digests_of key table cells m)
  rising m = rising-from_sorted _ (subst T (sym (is_sorted-numbered_by (entry_digest key table cells) (entries m))) (entries_sorted m))

  pub nothing_sealed : (seal : TableSeal) → HasDigests seal [] → IsSealOf key table cells empty seal
  nothing_sealed seal has = record {
    digests = subst (HasDigests seal) (ap (numbered_by (entry_digest key table cells)) (sym entries-empty)) has;
    whole = subst (AllByRecursion HasRowCells) (sym entries-empty) tt;
  }

  pub put_sealed : (m : Numbered V) (seal after : TableSeal) (k : ℤ) (v : V) → IsSealOf key table cells m seal → Puts k (entry_digest key table cells (k, v)) seal after
      → AreCells (shown cells (k, v)) → IsSealOf key table cells (insert m k v) after
  put_sealed m seal after k v was puts here =
      let now = entries-insert int_cmp_total m k v in
      record {
        digests = subst (HasDigests after) (insert_entry-numbered_by (entry_digest key table cells) k v (entries m) ∙ ap (numbered_by (entry_digest key table cells)) (sym now))
            (puts (digests_of key table cells m) (rising m) was.digests);
        whole = subst (AllByRecursion HasRowCells) (sym now) (All-put HasRowCells k v (entries m) here was.whole);
      }

  pub remove_sealed : (m : Numbered V) (seal after : TableSeal) (k : ℤ) → IsSealOf key table cells m seal → Removes k seal after → IsSealOf key table cells (remove m k) after
  remove_sealed m seal after k was removes =
      let now = entries-remove m k in
      record {
        digests = subst (HasDigests after) (remove_entry-numbered_by (entry_digest key table cells) k (entries m) (entries_sorted m) ∙ ap (numbered_by (entry_digest key table cells)) (sym now))
            (removes (digests_of key table cells m) (rising m) was.digests);
        whole = subst (AllByRecursion HasRowCells) (sym now) (All-where_key HasRowCells (is_other k) (entries m) was.whole);
      }

  pub rows_sealed : {R : Type 0} (entry : R → ℤ × V) (rows : List R) (m : Numbered V) (seal : TableSeal) → map entry rows ≡ entries m
      → HasDigests seal (put_all (λ r. (entry r).0) (λ r. entry_digest key table cells (entry r)) rows) → AllByRecursion (λ r. AreCells (shown cells (entry r))) rows
      → IsSealOf key table cells m seal
  rows_sealed entry rows m seal are has whole =
      record {
        digests = subst (HasDigests seal)
            (put_all-sorted (entry_digest key table cells) entry rows (subst (λ l. T (is_sorted int_cmp l)) (sym are) (entries_sorted m)) ∙ ap (numbered_by (entry_digest key table cells)) are)
            has;
        whole = subst (AllByRecursion HasRowCells) are (All-map HasRowCells entry rows whole);
      }
