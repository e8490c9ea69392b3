-- The rows of locks in order, and the rows that are saved.
use Rattle.std.proofs.Common.{◌≡◌, ℤ, List, [], ◌∷◌, ◌++◌, map, length, refl, sym, ap, ap₂, subst, ◌∙◌, append_assoc, append-nil, length-append, arith}
use Rattle.std.proofs.lemmas.List.{map-append, length-map}
use Rattle.std.specs.FinMap.{entries}
use Rattle.dav_rows.specs.Contents.{Contents, LockValues}
use Rattle.dav_rows.specs.Changes.{after, lock_entry}
use Rattle.dav_rows.specs.declared.change.Change.{Change}
use Rattle.dav_rows.specs.declared.lock.LockRow.{LockRow}
use Rattle.dav_store.specs.declared.lock.DavLock.{DavLock}
use Rattle.dav_store_rows.specs.LockRows.{lock_values, row_values, IsValidLock, AreValuesOf, LocksStand, LocksBecome, BringsLocks, SavesLocks}

values_entries : (rows : List LockRow) → map (λ e. e.1) (map lock_entry rows) ≡ map row_values rows
values_entries [] = refl
values_entries (row ∷ rows) = ap (λ vs. row_values row ∷ vs) (values_entries rows)

-- the rows of all locks, if those of the locks that are left follow
abbrev pub AreFirst : List LockRow → List DavLock → List DavLock → Type 0
AreFirst rows left all = (rest : List LockValues) → AreValuesOf rest left → AreValuesOf (map row_values rows ++ rest) all

pub values_next : (rows new : List LockRow) (row : LockRow) (lock : DavLock) (left later all : List DavLock) → AreFirst rows left all
    → left ≡ lock ∷ later → row_values row ≡ lock_values lock → IsValidLock lock → new ≡ rows ++ row ∷ [] → AreFirst new later all
values_next rows new row lock left later all first left_is row_is valid pushed = λ rest are.
    subst (λ vs. AreValuesOf vs all)
    (sym (ap (λ rs. map row_values rs ++ rest) pushed ∙ ap (λ vs. vs ++ rest) (map-append row_values rows (row ∷ [])) ∙ append_assoc (map row_values rows) (row_values row ∷ []) rest))
    (first (row_values row ∷ rest) (subst (AreValuesOf (row_values row ∷ rest)) (sym left_is) (record {
      values_are = ap₂ ◌∷◌ row_is are.values_are;
      valid = (valid, are.valid);
    })))

pub values_all : (rows : List LockRow) (left all : List DavLock) → AreFirst rows left all → left ≡ [] → AreValuesOf (map row_values rows) all
values_all rows left all first left_is =
    subst (λ vs. AreValuesOf vs all) (append-nil (map row_values rows)) (first [] (subst (AreValuesOf []) (sym left_is) (record { values_are = refl; valid = tt })))

pub saves : (locks : List DavLock) (old : List (ℤ × LockValues)) (before now : List Change) (rows wanted : List LockRow)
    → BringsLocks old (map lock_entry rows) before now → map row_values rows ≡ map row_values wanted → AreValuesOf (map row_values wanted) locks
    → SavesLocks locks old before (map lock_entry rows) now
saves locks old before now rows wanted brings values are = record {
  brings = brings;
  stands = λ m is. record {
    values_are = ap (map (λ e. e.1)) is ∙ values_entries rows ∙ values ∙ are.values_are;
    valid = are.valid;
  };
}

-- there are as many rows as locks
pub values_length : (rows : List LockRow) (locks : List DavLock) → AreValuesOf (map row_values rows) locks → length rows ≡ length locks
values_length rows locks are = sym (length-map rows row_values) ∙ ap length are.values_are ∙ length-map locks lock_values

nothing_more : {A : Type 0} (xs ys : List A) → xs ++ ys ≡ xs → ys ≡ []
nothing_more xs [] same = refl
nothing_more xs (y ∷ ys) same = absurd (omega (arith, length-append xs (y ∷ ys), ap length same))

-- if no change was appended, the table has the rows of the locks already, and the saved rows are the same
pub saves_nothing : (locks : List DavLock) (old : List (ℤ × LockValues)) (before : List Change) (new : List (ℤ × LockValues)) (now : List Change)
    → SavesLocks locks old before new now → now ≡ before → (m : Contents) → entries m.locks ≡ old → LocksStand m.locks locks × (new ≡ old)
saves_nothing locks old before new now saved same m is =
    let none : saved.brings.more ≡ [] = nothing_more before saved.brings.more (sym saved.brings.is ∙ same) in
    let made : LocksBecome new m m = subst (λ more. LocksBecome new m (after more m)) none (saved.brings.makes m is) in
    (saved.stands m made.locks, sym made.locks ∙ is)
