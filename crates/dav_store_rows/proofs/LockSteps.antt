-- The changes of the rows of locks, one after another.
use Rattle.std.proofs.Common.{◌≡◌, ◌<◌, ◌+◌, ℕ, zero, suc, ℤ, pos, List, [], ◌∷◌, ◌++◌, map, take, drop, length, get_or, refl, sym, ap, ap₂, subst, ◌∙◌, append_assoc, append-nil, add-one, arith, drop-cons}
use Rattle.std.proofs.Math.Seq.{take-suc}
use Rattle.std.proofs.lemmas.List.{map-append}
use Rattle.std.proofs.lemmas.Int.{ints}
use Rattle.std.specs.Int.Signed.{≤ℤ_refl}
use Rattle.std.specs.Prelude.{◌<ℤ◌, ◌≤ℤ◌}
use Rattle.std.specs.List.{AllByRecursion}
use Rattle.dav_rows.specs.Contents.{LockValues}
use Rattle.dav_rows.specs.Changes.{after, lock_entry}
use Rattle.dav_rows.specs.declared.lock.LockRow.{LockRow}
use Rattle.dav_rows.specs.declared.change.Change.{Change}
use Rattle.dav_rows.specs.declared.change.Change.TheVariants.{Remove, PutLock}
use Rattle.dav_rows.specs.declared.change.Table.TheVariants.{Lock}
use Rattle.dav_rows.proofs.SavingLemmas.{after-append}
use Rattle.dav_store_rows.specs.LockRows.{row_values, LocksBecome, BringsLocks}
use Rattle.dav_store_rows.specs.SaveErrors.{AreUpTo}
use Rattle.dav_store_rows.proofs.LockMaps.{insert_middle, remove_middle, insert_end}

pub brings_none : (es : List (ℤ × LockValues)) (a : List Change) → BringsLocks es es a a
brings_none es a = record {
  more = [];
  is = sym (append-nil a);
  makes = λ m is. record { locks = is; resources = refl; extents = refl; properties = refl; states = refl; notes = refl };
}

pub brings_then : (es fs gs : List (ℤ × LockValues)) (a b c : List Change) → BringsLocks es fs a b → BringsLocks fs gs b c → BringsLocks es gs a c
brings_then es fs gs a b c p q = record {
  more = p.more ++ q.more;
  is = q.is ∙ ap (λ xs. xs ++ q.more) p.is ∙ append_assoc a p.more q.more;
  makes = λ m is.
      let first = p.makes m is in
      let second = q.makes (after p.more m) first.locks in
      subst (LocksBecome gs m) (sym (after-append p.more q.more m)) (record {
        locks = second.locks;
        resources = second.resources ∙ first.resources;
        extents = second.extents ∙ first.extents;
        properties = second.properties ∙ first.properties;
        states = second.states ∙ first.states;
        notes = second.notes ∙ first.notes;
      });
}

-- a row is put again
pub brings_put : (done : List (ℤ × LockValues)) (k : ℤ) (v : LockValues) (rest : List (ℤ × LockValues)) (row : LockRow) (w : LockValues) (a b : List Change)
    → lock_entry row ≡ (k, w) → b ≡ a ++ PutLock row ∷ [] → BringsLocks (done ++ (k, v) ∷ rest) (done ++ (k, w) ∷ rest) a b
brings_put done k v rest row w a b is appended = record {
  more = PutLock row ∷ [];
  is = appended;
  makes = λ m at. record {
    locks = insert_middle m.locks done row.number v (lock_entry row).1 rest (at ∙ ap (λ x. done ++ (x, v) ∷ rest) (sym (ap (λ e. e.0) is))) ∙ ap (λ e. done ++ e ∷ rest) is;
    resources = refl;
    extents = refl;
    properties = refl;
    states = refl;
    notes = refl;
  };
}

-- a row is removed
pub brings_removal : (done : List (ℤ × LockValues)) (k : ℤ) (v : LockValues) (rest : List (ℤ × LockValues)) (a b : List Change)
    → b ≡ a ++ Remove Lock k ∷ [] → BringsLocks (done ++ (k, v) ∷ rest) (done ++ rest) a b
brings_removal done k v rest a b appended = record {
  more = Remove Lock k ∷ [];
  is = appended;
  makes = λ m at. record { locks = remove_middle m.locks done k v rest at; resources = refl; extents = refl; properties = refl; states = refl; notes = refl };
}

-- a row is added under a new number
pub brings_added : (es : List (ℤ × LockValues)) (k : ℤ) (row : LockRow) (w : LockValues) (a b : List Change)
    → lock_entry row ≡ (k, w) → b ≡ a ++ PutLock row ∷ [] → AllByRecursion (λ e. e.0 <ℤ k) es → BringsLocks es (es ++ (k, w) ∷ []) a b
brings_added es k row w a b is appended low = record {
  more = PutLock row ∷ [];
  is = appended;
  makes = λ m at. record {
    locks = insert_end m.locks es row.number (lock_entry row).1 at (subst (λ x. AllByRecursion (λ e. e.0 <ℤ x) es) (sym (ap (λ e. e.0) is)) low) ∙ ap (λ e. es ++ e ∷ []) is;
    resources = refl;
    extents = refl;
    properties = refl;
    states = refl;
    notes = refl;
  };
}

-- ---- the lists of rows

-- a row is pushed
pub pushed_entries : (old new : List LockRow) (copy : LockRow) (e : ℤ × LockValues) → new ≡ old ++ copy ∷ [] → lock_entry copy ≡ e → map lock_entry new ≡ map lock_entry old ++ e ∷ []
pushed_entries old new copy e is e_is = ap (map lock_entry) is ∙ map-append lock_entry old (copy ∷ []) ∙ ap (λ x. map lock_entry old ++ x ∷ []) e_is

pub pushed_values : (old new : List LockRow) (copy : LockRow) (e : ℤ × LockValues) → new ≡ old ++ copy ∷ [] → lock_entry copy ≡ e → map row_values new ≡ map row_values old ++ e.1 ∷ []
pushed_values old new copy e is e_is = ap (map row_values) is ∙ map-append row_values old (copy ∷ []) ∙ ap (λ x. map row_values old ++ x.1 ∷ []) e_is

pub pushed_before : (old new : List LockRow) (copy : LockRow) (e : ℤ × LockValues) (rest : List (ℤ × LockValues)) → new ≡ old ++ copy ∷ [] → lock_entry copy ≡ e → map lock_entry old ++ e ∷ rest ≡ map lock_entry new ++ rest
pushed_before old new copy e rest is e_is = sym (ap (λ es. es ++ rest) (pushed_entries old new copy e is e_is) ∙ append_assoc (map lock_entry old) (e ∷ []) rest)

-- a saved row that is the same as the wanted one
pub brings_same : (done : List (ℤ × LockValues)) (row : LockRow) (w : LockValues) (rest : List (ℤ × LockValues)) (a : List Change) → row_values row ≡ w → BringsLocks (done ++ lock_entry row ∷ rest) (done ++ (row.number, w) ∷ rest) a a
brings_same done row w rest a is = subst (λ x. BringsLocks (done ++ lock_entry row ∷ rest) (done ++ (row.number, x) ∷ rest) a a) is (brings_none (done ++ lock_entry row ∷ rest) a)

-- ---- the rows that are added

abbrev pub AllAtMost : ℤ → List (ℤ × LockValues) → Type 0
AllAtMost number = AllByRecursion (λ e. e.0 ≤ℤ number)

pub all_more : (es : List (ℤ × LockValues)) (e : ℤ × LockValues) (old new : ℤ) → AllAtMost old es → old ≤ℤ new → e.0 ≤ℤ new → AllAtMost new (es ++ e ∷ [])
all_more [] e old new low up last = (last, tt)
all_more (x ∷ es) e old new low up last = (let first = low.0 in omega (arith, ints, first), all_more es e old new low.1 up last)

pub all_below : (es : List (ℤ × LockValues)) (old new : ℤ) → AllAtMost old es → old <ℤ new → AllByRecursion (λ e. e.0 <ℤ new) es
all_below [] old new low up = tt
all_below (x ∷ es) old new low up = (let first = low.0 in omega (arith, ints, first), all_below es old new low.1 up)

-- these wanted rows are added, and no number is greater
pub record Adds (old new added : List LockRow) (number : ℤ) (before now : List Change) : Type 0 where
  pub brings : BringsLocks (map lock_entry old) (map lock_entry new) before now
  pub values : map row_values new ≡ map row_values old ++ map row_values added
  pub low : AllAtMost number (map lock_entry new)

pub adds_none : (rows : List LockRow) (number : ℤ) (a : List Change) → AllAtMost number (map lock_entry rows) → Adds rows rows [] number a a
adds_none rows number a low = record {
  brings = brings_none (map lock_entry rows) a;
  values = sym (append-nil (map row_values rows));
  low = low;
}

pub adds_next : (old rows new wanted : List LockRow) (index : ℕ) (lock put copy : LockRow) (number next : ℤ) (a b c : List Change)
    → Adds old rows (take index wanted) number a b → index < length wanted → lock ≡ get_or wanted index lock → number <ℤ next
    → lock_entry put ≡ (next, row_values lock) → c ≡ b ++ PutLock put ∷ [] → lock_entry copy ≡ (next, row_values lock) → new ≡ rows ++ copy ∷ []
    → Adds old new (take (index + 1) wanted) next a c
adds_next old rows new wanted index lock put copy number next a b c was low at up put_is appended copy_is pushed =
    let entries_are = pushed_entries rows new copy (next, row_values lock) pushed copy_is in
    let taken : take (index + 1) wanted ≡ take index wanted ++ lock ∷ [] = ap (λ n. take n wanted) (add-one index) ∙ take-suc wanted index lock low ∙ ap (λ x. take index wanted ++ x ∷ []) (sym at) in
    record {
      brings = brings_then (map lock_entry old) (map lock_entry rows) (map lock_entry new) a b c was.brings
          (subst (λ es. BringsLocks (map lock_entry rows) es b c) (sym entries_are)
          (brings_added (map lock_entry rows) next put (row_values lock) b c put_is appended (all_below (map lock_entry rows) number next was.low up)));
      values = pushed_values rows new copy (next, row_values lock) pushed copy_is ∙ ap (λ vs. vs ++ row_values lock ∷ []) was.values
          ∙ append_assoc (map row_values old) (map row_values (take index wanted)) (row_values lock ∷ [])
          ∙ ap (λ vs. map row_values old ++ vs) (sym (ap (map row_values) taken ∙ map-append row_values (take index wanted) (lock ∷ [])));
      low = subst (AllAtMost next) (sym entries_are) (all_more (map lock_entry rows) (next, row_values lock) number next was.low (omega (arith, ints, up)) (≤ℤ_refl next));
    }

-- the saved rows from an index on
pub saved_from : (saved : List LockRow) (index : ℕ) (row : LockRow) → index < length saved → row ≡ get_or saved index row → map lock_entry (drop index saved) ≡ lock_entry row ∷ map lock_entry (drop (index + 1) saved)
saved_from saved index row low at = ap (map lock_entry) (drop-cons saved index row low) ∙ ap₂ (λ x n. lock_entry x ∷ map lock_entry (drop n saved)) (sym at) (sym (add-one index))

-- the greatest number of one more row
pub greatest_next : (rows : List LockRow) (index : ℕ) (row : LockRow) (old new : ℤ) → AllAtMost old (map lock_entry (take index rows)) → index < length rows → row ≡ get_or rows index row
    → old ≤ℤ new → row.number ≤ℤ new → AllAtMost new (map lock_entry (take (index + 1) rows))
greatest_next rows index row old new was low at up last =
    let taken : take (index + 1) rows ≡ take index rows ++ row ∷ [] = ap (λ n. take n rows) (add-one index) ∙ take-suc rows index row low ∙ ap (λ x. take index rows ++ x ∷ []) (sym at) in
    subst (AllAtMost new) (sym (ap (map lock_entry) taken ∙ map-append lock_entry (take index rows) (row ∷ [])))
    (all_more (map lock_entry (take index rows)) (lock_entry row) old new was up last)

-- the number of a row is not above the greatest
pub up_to_at : (rows : List LockRow) (index : ℕ) (row : LockRow) (top : ℕ) → AreUpTo top (map lock_entry rows) → index < length rows → row ≡ get_or rows index row
    → row.number ≤ℤ pos top
up_to_at [] index row top all low at = absurd (omega arith)
up_to_at (r ∷ rows) zero row top all low at = subst (λ (x : LockRow). x.number ≤ℤ pos top) (sym at) all.0
up_to_at (r ∷ rows) (suc index) row top all low at = up_to_at rows index row top all.1 (omega arith) at

-- one more row
pub up_to_push : (old new : List LockRow) (copy : LockRow) (e : ℤ × LockValues) (top : ℕ) → new ≡ old ++ copy ∷ [] → lock_entry copy ≡ e → AreUpTo top (map lock_entry old)
    → e.0 ≤ℤ pos top → AreUpTo top (map lock_entry new)
up_to_push old new copy e top pushed copy_is all here =
    subst (AreUpTo top) (sym (pushed_entries old new copy e pushed copy_is)) (all_more (map lock_entry old) e (pos top) (pos top) all (≤ℤ_refl (pos top)) here)
