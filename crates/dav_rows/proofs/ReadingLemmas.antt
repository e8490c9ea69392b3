-- What is known of a query that is read row by row.
use Rattle.std.proofs.Common.{◌≡◌, ◌≤◌, ◌⊎◌, inl, inr, arith, ℕ, List, [], ◌∷◌, ◌++◌, map, Some, None, Option, option_map, Ok, Err, Result, IfOk, IfErr, OnErr, IsErr, IsErrAnd, Vec, refl, sym, ap, subst, ◌∙◌}
use Rattle.std.specs.declared.alloc.Global.{Global}
use Rattle.std.proofs.lemmas.List.{map-append}
use Rattle.sqlite_schema.specs.declared.command.Returning.{Returning}
use Rattle.sqlite_trees.specs.declared.store.Store.{Ghosts}
use Rattle.sqlite_trees.specs.declared.error.StoreError.{StoreError}
use Rattle.sqlite_trees.specs.declared.error.StoreError.TheVariants.{OutOfMemory, Io, Corrupt, Full, Broken, Unstorable}
use Rattle.sqlite.specs.declared.error.Error.{Error}
use Rattle.sqlite.specs.Order.{Row}
use Rattle.sqlite.specs.Effect.{Database, RefusesToRead}
use Rattle.sqlite.specs.Listing.{understood, reads_listing, IsSourceOf}
use Rattle.sqlite.specs.State.{State, HasCleanDisk, Shown, ShowsRows, Begins, IsUnchanged, IsRolledBack, HasCause, Fails, IsNotRun, FailsToQuery, FailsToShow, CommitsShowing, Survives}
use Rattle.sqlite.specs.Clock.{timed}
use Rattle.sqlite.specs.Held.{Held, state}
use Rattle.sqlite.specs.Given.{HasBegun, HasGiven, Advances, IsRefused}
use Rattle.sqlite.proofs.Callers.{IsPlain, begun_plain, given_begin, unchanged_then}
use Rattle.dav_rows.specs.Tables.{rows_schema}
use Rattle.dav_rows.specs.Contents.{Contents}
use Rattle.dav_rows.specs.Saving.{IsAt}
use Rattle.dav_rows.specs.Loading.{Reads, AreShown, GivesEntry, ReadsNext}
use Rattle.dav_rows.specs.Failing.{IsOutOfMemory, AreReadable, FailsNext}
use Rattle.dav_rows.proofs.FailLemmas.{passed}
use Rattle.dav_rows.proofs.LoadingLemmas.{at_still, leaves_old, then_reads, none_read, rows_read, read_as, mapped}

-- a call that keeps what was committed, whatever it answers
pub kept_reads : {X : Type 0} (old new : State) (r : Result X Error) (Is : X → Type 0) → Survives old new (λ _. ⊥) → (HasCleanDisk new → IsUnchanged old new ⊎ IsRolledBack old new)
    → (HasCleanDisk new → IfOk r (λ x. IsUnchanged old new × Is x)) → Reads old new r (λ x m. Is x)
kept_reads {X} old new r Is survives keeps is = record {
  clean = survives.clean;
  faults = survives.counts;
  limit = survives.limit;
  ok = λ clean. go r (is clean);
  at = λ clean m at. at_still old new m at (keeps clean);
  crash = λ clean m at db may. elim (survives.crash clean db may) [
    | inl was ↦ was
    | inr none ↦ absurd none
  ];
}
  where
    go : (r : Result X Error) → IfOk r (λ x. IsUnchanged old new × Is x) → IfOk r (λ x. (m : Contents) → IsAt old m → IsAt new m × Is x)
    go (Ok x) h = λ m at. (at_still old new m at (inl h.0) h.0.0.is_open, h.1)
    go (Err e) h = tt

kept_or_back : (old new : State) (e : Error) → Fails old new ⊥ e ⊎ IsUnchanged old new → IsUnchanged old new ⊎ IsRolledBack old new
kept_or_back old new e (inl failed) = inr failed.3
kept_or_back old new e (inr same) = inl same

-- a call that fails, and keeps what was committed
pub fails_kept : {X : Type 0} {old new : State} {e : Error} {Q : X → Contents → Type 0} (r : Result X Error) → IsErr r → Survives old new (λ _. ⊥) → (HasCleanDisk new → Fails old new ⊥ e ⊎ IsUnchanged old new) → Reads old new r Q
fails_kept {X} {old} {new} {e} r failed survives keeps =
    none_read r failed (kept_reads old new (Err e) (λ (x : X). Unit {0}) survives (λ clean. kept_or_back old new e (keeps clean)) (λ clean. tt))

-- the same where the call stops of itself
pub stops_kept : {X : Type 0} {old new : State} {Q : X → Contents → Type 0} (r : Result X Error) → IsErr r → Survives old new (λ _. ⊥) → (HasCleanDisk new → IsUnchanged old new) → Reads old new r Q
stops_kept {X} {old} {new} r failed survives same = none_read r failed (kept_reads old new (Ok tt) (λ (x : Unit {0}). Unit {0}) survives (λ clean. inl (same clean)) (λ clean. (same clean, tt)))

-- the rows that are shown later are shown from the start
shown_since : (sql : List ℕ) (first old new : State) (rows : List Row) → IsPlain (understood old.now.schema sql) → IsUnchanged first old → Shown sql [] old new rows → Shown sql [] first new rows
unfolding Shown
shown_since sql first old new rows plain same h =
    let none = (subst IsPlain h.1.is plain).0 in
    let back = same.0.now_is in (
      h.0,
      record { is = subst (λ (d : Database). understood d.schema sql ≡ Ok h.0) back h.1.is; whole = h.1.whole; given = h.1.given; now = h.1.now },
      go h.0.returning none h.2,
    )
  where
    go : (returning : Option Returning) → returning ≡ None → ShowsRows old new sql h.0 (timed [] h.0.formats h.1.now) rows returning → ShowsRows first new sql h.0 (timed [] h.0.formats h.1.now) rows returning
    go None none it = (it.0, subst (λ (d : Database). IsSourceOf (reads_listing d.schema sql) d it.0) same.0.now_is it.1, it.2, unchanged_then first old new same it.3)
    go (Some what) none it = absurd (let e = none in cc)

-- a store that fails later has failed since the start
store_since : (first old new : State) (e : Error) → IsUnchanged first old → first.faults ≤ old.faults → Fails old new ⊥ e → Fails first new ⊥ e
store_since first old new e same faults h = (
  h.0,
  h.1,
  cause h.0 h.2,
  record {
    was_open = λ is_open. same.0.was_open;
    undone = λ is_open. let undone = h.3.undone is_open in (undone.0 ∙ same.0.committed_is, undone.1 ∙ same.0.committed_is);
    autocommit = h.3.autocommit;
    unmarked = h.3.unmarked;
    counts = record { changes = h.3.counts.changes ∙ same.1.changes; last_rowid = h.3.counts.last_rowid ∙ same.1.last_rowid };
  },
  h.4,
)
  where
    cause : (cause : StoreError) → HasCause old new ⊥ cause → HasCause first new ⊥ cause
    cause OutOfMemory why = tt
    cause Io why = omega (arith, faults, why)
    cause Corrupt why = omega (arith, faults, why)
    cause Full why = omega (arith, faults, why)
    cause Broken why = absurd (let x = sym why ∙ same.0.is_open in cc)
    cause Unstorable why = why

-- a query that fails later has failed since the start
fails_since : (sql : List ℕ) (first old new : State) (e : Error) → IsPlain (understood old.now.schema sql) → IsUnchanged first old → first.faults ≤ old.faults → old.step_limit ≡ first.step_limit
    → FailsToQuery sql [] old new e → FailsToQuery sql [] first new e
unfolding FailsToQuery IsNotRun
fails_since sql first old new e plain same faults limit (inl (inl h)) = elim h.0 [
  | inl bad ↦ absurd (subst IsPlain bad.1 plain)
  | inr bad ↦ inl (inl (inr (bad.0, subst (λ (d : Database). understood d.schema sql ≡ Ok bad.0) same.0.now_is bad.1, bad.2), unchanged_then first old new same h.1))
]
fails_since sql first old new e plain same faults limit (inl (inr h)) = inl (inr (store_since first old new e same faults h))
fails_since sql first old new e plain same faults limit (inr h) = inr (
  h.0,
  record { is = subst (λ (d : Database). understood d.schema sql ≡ Ok h.0) same.0.now_is h.1.is; whole = h.1.whole; given = h.1.given; now = h.1.now },
  go h.0.returning (subst IsPlain h.1.is plain).0 h.2,
)
  where
    go : (returning : Option Returning) → returning ≡ None → FailsToShow old new sql h.0 (timed [] h.0.formats h.1.now) e returning → FailsToShow first new sql h.0 (timed [] h.0.formats h.1.now) e returning
    go None none it = (
      it.0,
      subst (λ (d : Database). IsSourceOf (reads_listing d.schema sql) d it.0) same.0.now_is it.1,
      subst (λ limit. RefusesToRead limit h.0.command it.0 (timed [] h.0.formats h.1.now) e) limit it.2,
      unchanged_then first old new same it.3,
    )
    go (Some what) none it = absurd (let f = none in cc)

-- an answer that begins so does it since the start
begins_since : (sql : List ℕ) (first now : State) (rows : List Row) → now.now ≡ first.now → Begins sql [] now rows → Begins sql [] first rows
unfolding Begins
begins_since sql first now rows same h = (
  h.0,
  record { is = subst (λ (d : Database). understood d.schema sql ≡ Ok h.0) same h.1.is; whole = h.1.whole; given = h.1.given; now = h.1.now },
  h.2,
  h.3,
  subst (λ (d : Database). IsSourceOf (reads_listing d.schema sql) d h.3) same h.4,
  h.5,
)

module _ {S T E : Type 0} (g : Ghosts S) (entry : T → E) (entry_in : Row → E) where
  pub gives : (old new : Held S) (found : Option T) (row : Option Row) → option_map entry found ≡ option_map entry_in row → Survives (state g old) (state g new) (λ _. ⊥)
      → (HasCleanDisk (state g new) → IsUnchanged (state g old) (state g new)) → (HasCleanDisk (state g new) → Advances g old new row)
      → ReadsNext g entry entry_in old new (Ok found)
  gives old new found row is survives same advances = kept_reads (state g old) (state g new) (Ok found) (λ found. GivesEntry g entry entry_in old new found) survives (λ clean. inl (same clean))
      (λ clean. let kept = same clean in (kept, (kept, row, advances clean, is)))

module _ {S T E : Type 0} (g : Ghosts S) (entry : T → E) (entry_in : Row → E) (sql : List ℕ) (plain : IsPlain (understood rows_schema sql)) where
  -- the query has given these rows so far, and each was read as its entry
  pub record HasRead (old new : Held S) (all : Vec T Global) : Type 0 where
    pub same : IsUnchanged (state g old) (state g new)
    pub rows : List Row
    pub given : HasGiven g sql [] new rows
    pub entries : map entry all.items ≡ map entry_in rows

  pub has_begun : (old new : Held S) (all : Vec T Global) → all.items ≡ [] → (HasCleanDisk (state g new) → HasBegun g sql [] old new) → Survives (state g old) (state g new) (CommitsShowing sql [] (state g old))
      → Reads (state g old) (state g new) (Ok all) (λ all m. HasRead old new all)
  has_begun old new all empty begun survives =
      let plainly = λ (m : Contents) (at : IsAt (state g old) m). subst (λ s. IsPlain (understood s sql)) (sym at.schema) plain in
      let start = λ (clean : HasCleanDisk (state g new)) (m : Contents) (at : IsAt (state g old) m). begun_plain g sql [] old new (plainly m at) (begun clean) in
      record {
        clean = survives.clean;
        faults = survives.counts;
        limit = survives.limit;
        ok = λ clean m at.
            let it = start clean m at in
            (at_still (state g old) (state g new) m at (inl it.1) it.1.0.is_open, record { same = it.1; rows = []; given = it.0; entries = ap (map entry) empty });
        at = λ clean m at. at_still (state g old) (state g new) m at (inl (start clean m at).1);
        crash = λ clean m at. leaves_old rows_schema sql plain (state g old) (state g new) at.schema survives clean;
      }

  one_more : (first old new : Held S) (all more : Vec T Global) (x : T) → more.items ≡ all.items ++ x ∷ [] → HasRead first old all → GivesEntry g entry entry_in old new (Some x) → HasRead first new more
  one_more first old new all more x is was next = go next.1 next.2 next.3
    where
      go : (row : Option Row) → Advances g old new row → option_map entry (Some x) ≡ option_map entry_in row → HasRead first new more
      go (Some row) advances e =
          let one : entry x ≡ entry_in row = cc in record {
            same = unchanged_then (state g first) (state g old) (state g new) was.same next.0;
            rows = was.rows ++ row ∷ [];
            given = advances sql [] was.rows was.given;
            entries = rw (is, map-append entry all.items (x ∷ []), map-append entry_in was.rows (row ∷ []), was.entries, one) refl;
          }
      go None advances e = absurd (let f = e in cc)

  pub reads_on : (first old new : Held S) (all more : Vec T Global) (x : T) → more.items ≡ all.items ++ x ∷ []
      → Reads (state g first) (state g old) (Ok all) (λ all m. HasRead first old all)
      → ReadsNext g entry entry_in old new (Ok (Some x))
      → Reads (state g first) (state g new) (Ok more) (λ all m. HasRead first new all)
  reads_on first old new all more x is before next = read_as (λ m it. one_more first old new all more x is it.0 it.1) (then_reads before next)

  pub reads_end : (first old new : Held S) (all : Vec T Global)
      → Reads (state g first) (state g old) (Ok all) (λ all m. HasRead first old all)
      → ReadsNext g entry entry_in old new (Ok None)
      → Reads (state g first) (state g new) (Ok all) (λ all m. AreShown entry entry_in sql (state g first) (state g new) all)
  reads_end first old new all before next = mapped (state g first) (state g new) None (Ok all) _ _ (then_reads before next) (λ m at it. ends m at it.0 it.1.0 it.1.1 it.1.2 it.1.3)
    where
      ends : (m : Contents) → IsAt (state g first) m → HasRead first old all → IsUnchanged (state g old) (state g new) → (row : Option Row) → Advances g old new row
          → option_map entry None ≡ option_map entry_in row → AreShown entry entry_in sql (state g first) (state g new) all
      ends m at was same None advances e =
          let schema = ap (λ (d : Database). d.schema) was.same.0.now_is ∙ at.schema in
          (was.rows, shown_since sql (state g first) (state g old) (state g new) was.rows (subst (λ s. IsPlain (understood s sql)) (sym schema) plain) was.same (advances sql [] was.rows was.given), was.entries)
      ends m at was same (Some row) advances e = absurd (let f = e in cc)

  -- a query that fails under way, or a row that is not read
  pub fails_midway : {X : Type 0} (IsReadable : Row → Type 0) (first old new : Held S) (all : Vec T Global) (e : Error) (r : Result X Error) → IsErrAnd r (λ f. f ≡ e)
      → Reads (state g first) (state g old) (Ok all) (λ all m. HasRead first old all)
      → ReadsNext g entry entry_in old new (Err e) → (HasCleanDisk (state g new) → FailsNext g IsReadable old new e) → (clean : HasCleanDisk (state g new))
      → IfErr r (λ e. (m : Contents) → IsAt (state g first) m → FailsToQuery sql [] (state g first) (state g new) e ⊎ (AreReadable IsReadable sql (state g first) → IsOutOfMemory e))
  fails_midway IsReadable first old new all e r is before next fails clean = passed e r _ is (λ m at.
      let early : HasCleanDisk (state g old) = omega (arith, next.clean, clean) in
      go m at (before.ok early m at).1 (fails clean))
    where
      go : (m : Contents) → IsAt (state g first) m → HasRead first old all → FailsNext g IsReadable old new e → FailsToQuery sql [] (state g first) (state g new) e ⊎ (AreReadable IsReadable sql (state g first) → IsOutOfMemory e)
      go m at was (inl fails) =
          let schema = ap (λ (d : Database). d.schema) was.same.0.now_is ∙ at.schema in
          inl (fails_since sql (state g first) (state g old) (state g new) e (subst (λ s. IsPlain (understood s sql)) (sym schema) plain) was.same before.faults before.limit (fails sql [] was.rows was.given))
      go m at was (inr unread) = inr (λ readable.
          let rows = was.rows ++ unread.1 ∷ [] in
          let begun = given_begin g sql [] new rows (unread.2 sql [] was.rows was.given) in
          unread.3 (readable was.rows unread.1 (begins_since sql (state g first) (state g new) rows (unread.0.0.now_is ∙ was.same.0.now_is) begun)))

-- a query that does not begin
pub none_begun : {S X Y : Type 0} (g : Ghosts S) (sql : List ℕ) → IsPlain (understood rows_schema sql) → (old new : Held S) (asked : Result X Error) (e : Error) → asked ≡ Err e → OnErr asked (IsRefused g sql [] old asked new)
    → {Q : Y → Contents → Type 0} (r : Result Y Error) → IsErr r → Reads (state g old) (state g new) r Q
none_begun g sql plain old new asked e is held r none =
    let refused = subst (λ a. OnErr a (IsRefused g sql [] old a new)) is held in
    none_read r none (rows_read sql (state g old) (state g new) plain (Err e) (λ clean. tt) refused.err refused.survives)
