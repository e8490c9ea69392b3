-- A read leaves the tables as they are.
use Rattle.std.proofs.Common.{◌≡◌, ◌⊎◌, inl, inr, ℤ, ℕ, List, [], ◌∷◌, map, arith, Some, None, Option, Ok, Err, Result, IfOk, IfErr, IsErr, IsTrue, Vec, refl, sym, ap, subst, ◌∙◌}
use Rattle.std.specs.declared.alloc.Global.{Global}
use Rattle.std.specs.FinMap.{entries}
use Rattle.sqlite_schema.specs.declared.command.Returning.{Returning}
use Rattle.sqlite_resolve.specs.declared.compiled.Compiled.{Compiled}
use Rattle.sqlite.specs.declared.error.Error.{Error}
use Rattle.sqlite.specs.Order.{Row}
use Rattle.sqlite.specs.Program.{overlay}
use Rattle.sqlite.specs.Tree.{Trees}
use Rattle.sqlite.specs.Effect.{Database}
use Rattle.sqlite.specs.Listing.{understood}
use Rattle.sqlite.specs.State.{State, HasCleanDisk, Shown, IsUnchanged, IsRolledBack, IsNotRun, FailsToQuery, FailsToShow, ShowsRows, CommitsShowing, Survives}
use Rattle.sqlite.proofs.Callers.{never_commits, IsPlain}
use Rattle.sqlite.specs.Schema.{Schema}
use Rattle.dav_rows.specs.Tables.{rows_schema, no_schema}
use Rattle.dav_rows.specs.Stored.{Numbered, shown, AreRows}
use Rattle.dav_rows.specs.Contents.{Contents, Holds}
use Rattle.dav_rows.specs.Saving.{IsAt}
use Rattle.dav_rows.specs.declared.loading.Rows.{Rows}
use Rattle.dav_rows.specs.Creating.{IsBlank, IsWhole}
use Rattle.dav_rows.specs.Loading.{Reads, ReadsText, ReadsBlank, AreAll}
use Rattle.dav_rows.proofs.Suits.{Selects}
use Rattle.dav_rows.proofs.ReadLemmas.{loads}

module _ (schema : Schema) (sql : List ℕ) (plain : IsPlain (understood schema sql)) (old new : State) (has : old.now.schema ≡ schema) where
  pub leaves_old : Survives old new (CommitsShowing sql [] old) → HasCleanDisk new → (db : Trees) → new.may_leave db → old.may_leave db
  leaves_old survives clean db may = elim (survives.crash clean db may) [
    | inl was ↦ was
    | inr commits ↦ absurd (never_commits sql [] old db (subst (λ s. IsPlain (understood s sql)) (sym has) plain) commits)
  ]

  shown_same : (c : Compiled) (params : Row) (rows : List Row) (returning : Option Returning) → returning ≡ None → ShowsRows old new sql c params rows returning → IsUnchanged old new
  shown_same c params rows None none h = h.3
  shown_same c params rows (Some what) none h = absurd (let e = none in cc)

  pub shown_keeps : (rows : List Row) → Shown sql [] old new rows → IsUnchanged old new
  unfolding Shown
  shown_keeps rows h =
      let bare = subst IsPlain (ap (λ s. understood s sql) (sym has) ∙ h.1.is) plain in
      shown_same h.0 _ rows h.0.returning bare.0 h.2

module _ (sql : List ℕ) (old new : State) where
  failed_same : (c : Compiled) (params : Row) (e : Error) (returning : Option Returning) → FailsToShow old new sql c params e returning → IsUnchanged old new ⊎ IsRolledBack old new
  failed_same c params e None h = inl h.3
  failed_same c params e (Some what) (inl h) = inl h.1
  failed_same c params e (Some what) (inr h) = inr h.3

  not_run : (e : Error) → IsNotRun old new sql [] e → IsUnchanged old new ⊎ IsRolledBack old new
  unfolding IsNotRun
  not_run e (inl h) = inl h.1
  not_run e (inr h) = inr h.3

  failed_keeps : (e : Error) → FailsToQuery sql [] old new e → IsUnchanged old new ⊎ IsRolledBack old new
  unfolding FailsToQuery
  failed_keeps e (inl h) = not_run e h
  failed_keeps e (inr h) = failed_same h.0 _ e h.0.returning h.2

-- what was committed is seen still
same_still : (old new : State) → old.now ≡ old.committed → IsUnchanged old new ⊎ IsRolledBack old new → IsTrue new.is_open → (new.now ≡ old.now) × (new.now ≡ new.committed)
same_still old new settled (inl same) is_open = (same.0.now_is, same.0.now_is ∙ settled ∙ sym same.0.committed_is)
same_still old new settled (inr back) is_open = let undone = back.undone is_open in (undone.0 ∙ sym settled, undone.0 ∙ sym undone.1)

pub at_still : (old new : State) (m : Contents) → IsAt old m → IsUnchanged old new ⊎ IsRolledBack old new → IsTrue new.is_open → IsAt new m
at_still old new m at kept is_open =
    let it = same_still old new at.settled kept is_open in
    record {
      is_open = is_open;
      schema = ap (λ (d : Database). d.schema) it.0 ∙ at.schema;
      settled = it.1;
      holds = subst (λ (d : Database). Holds d.trees m) (sym it.0) at.holds;
    }

blank_still : (old new : State) → IsBlank old → IsUnchanged old new ⊎ IsRolledBack old new → IsTrue new.is_open → IsBlank new
blank_still old new blank kept is_open =
    let it = same_still old new blank.settled kept is_open in
    record {
      is_open = is_open;
      schema = ap (λ (d : Database). d.schema) it.0 ∙ blank.schema;
      settled = it.1;
      sound = subst IsWhole (sym it.0) blank.sound;
    }

module _ (sql : List ℕ) (old new : State) where
  pub rows_read : IsPlain (understood rows_schema sql) → (r : Result (Vec Row Global) Error) → (HasCleanDisk new → IfOk r (λ rows. Shown sql [] old new rows.items))
      → (HasCleanDisk new → IfErr r (FailsToQuery sql [] old new)) → Survives old new (CommitsShowing sql [] old) → Reads old new r (λ rows m. Shown sql [] old new rows.items)
  rows_read plain (Ok rows) ok err survives =
      let keeps = λ (has : old.now.schema ≡ rows_schema) (clean : HasCleanDisk new). shown_keeps rows_schema sql plain old new has rows.items (ok clean) in
      record {
        clean = survives.clean;
        faults = survives.counts;
        limit = survives.limit;
        ok = λ clean m at. let same = keeps at.schema clean in (at_still old new m at (inl same) same.0.is_open, ok clean);
        at = λ clean m at. at_still old new m at (inl (keeps at.schema clean));
        crash = λ clean m at. leaves_old rows_schema sql plain old new at.schema survives clean;
      }
  rows_read plain (Err e) ok err survives = record {
    clean = survives.clean;
    faults = survives.counts;
    limit = survives.limit;
    ok = λ clean. tt;
    at = λ clean m at. at_still old new m at (failed_keeps sql old new e (err clean));
    crash = λ clean m at. leaves_old rows_schema sql plain old new at.schema survives clean;
  }

  pub blank_read : IsPlain (understood no_schema sql) → (r : Result (Vec Row Global) Error) → (HasCleanDisk new → IfOk r (λ rows. Shown sql [] old new rows.items))
      → (HasCleanDisk new → IfErr r (FailsToQuery sql [] old new)) → Survives old new (CommitsShowing sql [] old) → ReadsBlank old new r (λ rows. Shown sql [] old new rows.items)
  blank_read plain (Ok rows) ok err survives =
      let keeps = λ (has : old.now.schema ≡ no_schema) (clean : HasCleanDisk new). shown_keeps no_schema sql plain old new has rows.items (ok clean) in
      record {
        clean = survives.clean;
        faults = survives.counts;
        limit = survives.limit;
        ok = λ clean blank. let same = keeps blank.schema clean in (blank_still old new blank (inl same) same.0.is_open, ok clean);
        at = λ clean blank. blank_still old new blank (inl (keeps blank.schema clean));
        crash = λ clean blank. leaves_old no_schema sql plain old new blank.schema survives clean;
      }
  blank_read plain (Err e) ok err survives = record {
    clean = survives.clean;
    faults = survives.counts;
    limit = survives.limit;
    ok = λ clean. tt;
    at = λ clean blank. blank_still old new blank (failed_keeps sql old new e (err clean));
    crash = λ clean blank. leaves_old no_schema sql plain old new blank.schema survives clean;
  }

-- what is read fails, or gives what is so of the rows that were shown
pub mapped : {X Y : Type 0} (old new : State) (x : X) (r : Result Y Error) (P : X → Contents → Type 0) (Q : Y → Contents → Type 0) → Reads old new (Ok x) P
    → IfOk r (λ y. (m : Contents) → IsAt old m → P x m → Q y m) → Reads old new r Q
mapped old new x (Ok y) P Q reads is = record { clean = reads.clean; faults = reads.faults; limit = reads.limit; ok = λ clean m at. let both = reads.ok clean m at in (both.0, is m at both.1); at = reads.at; crash = reads.crash }
mapped old new x (Err e) P Q reads is = record { clean = reads.clean; faults = reads.faults; limit = reads.limit; ok = λ clean. tt; at = reads.at; crash = reads.crash }

-- a read that fails at last, whatever was read before
pub none_read : {X Y : Type 0} {old new : State} {read : Result X Error} {P : X → Contents → Type 0} {Q : Y → Contents → Type 0} (r : Result Y Error) → IsErr r → Reads old new read P → Reads old new r Q
none_read (Ok y) failed reads = absurd (let e = failed in cc)
none_read (Err f) failed reads = record { clean = reads.clean; faults = reads.faults; limit = reads.limit; ok = λ clean. tt; at = reads.at; crash = reads.crash }

-- the same read, as what is so of it where the old state has the maps
where_at : {X : Type 0} {old new : State} {P Q : X → Contents → Type 0} (r : Result X Error) → Reads old new r P → ((x : X) (m : Contents) → IsAt old m → P x m → Q x m) → Reads old new r Q
where_at (Ok x) reads is = record { clean = reads.clean; faults = reads.faults; limit = reads.limit; ok = λ clean m at. let both = reads.ok clean m at in (both.0, is x m at both.1); at = reads.at; crash = reads.crash }
where_at (Err e) reads is = record { clean = reads.clean; faults = reads.faults; limit = reads.limit; ok = λ clean. tt; at = reads.at; crash = reads.crash }

module _ {V T : Type 0} (cells : V → Row) (entry : T → ℤ × V) (entry_in : Row → ℤ × V) (back : (e : ℤ × V) → entry_in (shown cells e) ≡ e) (field : Contents → Numbered V)
    (tree : ℕ) (text : List ℕ) (seen : (db : Trees) → overlay db [] tree ≡ db tree) (s : Selects cells tree text) (has : (db : Trees) (m : Contents) → Holds db m → AreRows cells (db tree) (field m)) where
  entries_in : (es : List (ℤ × V)) → map entry_in (map (shown cells) es) ≡ es
  entries_in [] = refl
  entries_in (e ∷ es) = ap (λ x. x ∷ map entry_in (map (shown cells) es)) (back e) ∙ ap (λ l. e ∷ l) (entries_in es)

  pub all_read : (old new : State) (r : Result (Vec T Global) Error) → ReadsText entry entry_in text old new r → Reads old new r (λ all m. map entry all.items ≡ entries (field m))
  all_read old new r reads = where_at r (reads s.plain) (λ all m at it.
      let shows = loads cells tree text seen s old new it.0 (field m) at.schema (has old.now.trees m at.holds) it.1 in
      it.2 ∙ ap (map entry_in) shows ∙ entries_in (entries (field m)))

-- the same for what holds of a database with nothing in it
pub mapped_blank : {X Y : Type 0} (old new : State) (x : X) (r : Result Y Error) (P : X → Type 0) (Q : Y → Type 0) → ReadsBlank old new (Ok x) P → IfOk r (λ y. P x → Q y) → ReadsBlank old new r Q
mapped_blank old new x (Ok y) P Q reads is = record { clean = reads.clean; faults = reads.faults; limit = reads.limit; ok = λ clean blank. let both = reads.ok clean blank in (both.0, is both.1); at = reads.at; crash = reads.crash }
mapped_blank old new x (Err e) P Q reads is = record { clean = reads.clean; faults = reads.faults; limit = reads.limit; ok = λ clean. tt; at = reads.at; crash = reads.crash }

pub none_blank : {X Y : Type 0} {old new : State} {e : Error} {P : X → Type 0} {Q : Y → Type 0} (r : Result Y Error) → IsErr r → ReadsBlank old new (Err e) P → ReadsBlank old new r Q
none_blank (Ok y) failed reads = absurd (let e = failed in cc)
none_blank (Err f) failed reads = record { clean = reads.clean; faults = reads.faults; limit = reads.limit; ok = λ clean. tt; at = reads.at; crash = reads.crash }

-- one read after another
pub then_reads : {X Y : Type 0} {a b c : State} {x : X} {r : Result Y Error} {P : X → Contents → Type 0} {Q : Y → Contents → Type 0} → Reads a b (Ok x) P → Reads b c r Q → Reads a c r (λ y m. P x m × Q y m)
then_reads {X} {Y} {a} {b} {c} {x} {r} {P} {Q} first next =
    let was = λ (now : HasCleanDisk c). let clean : HasCleanDisk b = omega (arith, next.clean) in clean in
    record {
      clean = omega (arith, first.clean, next.clean);
      faults = omega (arith, first.faults, next.faults);
      limit = next.limit ∙ first.limit;
      ok = λ now. both r (next.ok now) (first.ok (was now));
      at = λ now m at. next.at now m (first.ok (was now) m at).0;
      crash = λ now m at db may. first.crash (was now) m at db (next.crash now m (first.ok (was now) m at).0 db may);
    }
  where
    both : (r : Result Y Error) → IfOk r (λ y. (m : Contents) → IsAt b m → IsAt c m × Q y m) → ((m : Contents) → IsAt a m → IsAt b m × P x m) → IfOk r (λ y. (m : Contents) → IsAt a m → IsAt c m × (P x m × Q y m))
    both (Ok y) here before = λ m at. let one = before m at in let two = here m one.0 in (two.0, (one.1, two.1))
    both (Err e) here before = tt

-- the same rows, read as what is so of them
pub read_as : {X Y : Type 0} {old new : State} {x : X} {y : Y} {P : X → Contents → Type 0} {Q : Y → Contents → Type 0} → ((m : Contents) → P x m → Q y m) → Reads old new (Ok x) P → Reads old new (Ok y) Q
read_as is reads = record { clean = reads.clean; faults = reads.faults; limit = reads.limit; ok = λ clean m at. let both = reads.ok clean m at in (both.0, is m both.1); at = reads.at; crash = reads.crash }

pub given : {E : Type 0} (r : Result Rows E) (At Still : Contents → Type 0) (m : Contents) → IfOk r (λ rows. (n : Contents) → At n → Still n × AreAll rows n) → At m → IfOk r (λ rows. AreAll rows m)
given (Ok rows) At Still m h at = (h m at).1
given (Err e) At Still m h at = tt

-- what is read where the old state has the maps
pub read_where : (b c : State) (r : Result Rows Error) (Old : Type 0) (m : Contents) → IfOk r (λ rows. (n : Contents) → IsAt b n → IsAt c n × AreAll rows n) → (Old → IsAt b m) → IfOk r (λ rows. Old → IsAt c m × AreAll rows m)
read_where b c (Ok rows) Old m reads was = λ old. reads m (was old)
read_where b c (Err e) Old m reads was = tt
