-- What is left of a run whose keeper keeps each batch.
use Rattle.std.proofs.Common.{◌≡◌, ◌∙◌, ◌⊎◌, ◌≤◌, arith, inl, inr, ℕ, List, [], ◌∷◌, ◌++◌, Option, Some, None, Result, Ok, Err, refl, sym, subst}
use Rattle.std.specs.Prelude.{IfSome, IsTrue, Bool, true, false, IsOk, IsErr, IfErr, OnOk, OnErr, option_map}
use Rattle.std.specs.Result.{IsErrAnd}
use Rattle.std.proofs.Math.Logic.{∥∥₁_map}
use base.Stored.{Gv}
use Rattle.dav_data.specs.declared.claim.Claim as claim
use Rattle.dav_data.specs.declared.claimed_file.ClaimedFile.{ClaimedFile}
use Rattle.dav_engine.specs.DavInner.{lent_locks}
use Rattle.dav_folder.specs.Claims.{IsKeyed}
use Rattle.dav_folder.specs.Closing.{LeavesAlone, LeavesWhole, LeavesOneOf}
use Rattle.dav_folder.specs.Files.{KeptStore, HoldFrom, Leave, LeaveEither, kept_at}
use Rattle.dav_folder.specs.Folders.{batch_of}
use Rattle.dav_folder.specs.Lasting.{At, Lasts, LastsAlone, LastsEither, IsSameKept, HasCleanDatabase, alone}
use Rattle.dav_folder.specs.Numbered.{LastsNumbered, LastsEitherNumbered}
use Rattle.dav_folder.specs.Opening.{opened_at}
use Rattle.dav_folder.specs.declared.folder.Folder.{Folder}
use Rattle.dav_folder.specs.declared.opening.Opened.{Opened}
use Rattle.dav_last.specs.Batches.{IsInBoth, Names, HasCleanSlots, number_of, key_of, is_usable}
use Rattle.dav_last.specs.declared.last_batch.LastBatch.{LastBatch}
use Rattle.dav_memls.specs.MemLs.{locks_of}
use Rattle.dav_memls.specs.declared.memory_locks.MemLs.{MemLs}
use Rattle.dav_pieces.specs.declared.piece.Piece.{Piece}
use Rattle.dav_server.specs.Batches.{Exchange}
use Rattle.dav_server.specs.Keeping.{snapshot_of, IsKept, IsKeptAfter, IsKeptOrNow}
use Rattle.dav_server.specs.Snapshots.{snapshot_at}
use Rattle.dav_server.specs.State.{Rules, ServerState, store_in}
use Rattle.dav_tree.specs.TreeFs.{memory_of, store_of, before_of, reads_of}
use Rattle.dav_tree.specs.declared.medium.Medium.{Ghosts}
use Rattle.dav_tree.specs.declared.tree_fs.TreeFs.{TreeFs}
use Rattle.sqlite.specs.Recovery as database
use Rattle.sqlite_disk.specs.declared.Disk as disk
use Rattle.sqlite_store.specs.FileStore.{view}
use Rattle.sqlite_store.specs.declared.store.FileStore.{FileStore}
use Rattle.sqlite_trees.specs.View.{IsClean}
use Rattle.sqlite_trees.specs.declared.store.Store as store
use Rattle.davd.specs.Folder.{Serving, state_now, state_from, IsOpenedAsKept, BeginsOpened, FindsKept, FindsFirst, HeldSealed, OpensUpToDate, OpensNumbered, Keep, ServesOpened, StopsOpened}
use Rattle.davd.specs.declared.folder.StartOptions.{StartOptions}
use Rattle.davd.specs.Leaving.{LeaveNumbered, LeaveNoted, LeavesAfter, LeavesAfterOrNow, RunsAndLeaves, RunsWithLog, StopsAndLeaves, HeldAStore, BeginsWith, BeginsNumbered, GoesOn, GoesOnWithLog, GoesOnAndStops}

-- what follows on Ok, or on Err
pub on_ok : {T E A B : Type 0} (result : Result T E) → OnOk result A → (A → B) → OnOk result B
on_ok (Ok value) a f = f a
on_ok (Err e) a f = tt

pub on_err : {T E A B : Type 0} (result : Result T E) → OnErr result A → (A → B) → OnErr result B
on_err (Ok value) a f = tt
on_err (Err e) a f = f a

-- an error that is passed on
pub passed_on : {T E : Type 0} (result : Result T E) (e : E) (P : E → Type 0) → IsErrAnd result (λ y. y ≡ e) → P e → IfErr result P
passed_on (Ok value) e P is p = tt
passed_on (Err y) e P is p = subst P (sym is) p

-- what holds anyway, and what follows from two facts
pub ok_anyway : {T E A : Type 0} (result : Result T E) → A → OnOk result A
ok_anyway (Ok value) a = a
ok_anyway (Err e) a = tt

pub err_anyway : {T E A : Type 0} (result : Result T E) → A → OnErr result A
err_anyway (Ok value) a = tt
err_anyway (Err e) a = a

pub ok_by_both : {T E A B C : Type 0} (result : Result T E) → OnOk result A → OnOk result B → (A → B → C) → OnOk result C
ok_by_both (Ok value) a b f = f a b
ok_by_both (Err e) a b f = tt

-- the result is Ok, or it is Err
pub is_ok : {T E A : Type 0} (result : Result T E) (value : T) → result ≡ Ok value → OnOk result A → A
is_ok {T} {E} {A} result value is holds = subst (λ (r : Result T E). OnOk r A) is holds

pub is_err : {T E A : Type 0} (result : Result T E) (e : E) → result ≡ Err e → OnErr result A → A
is_err {T} {E} {A} result e is holds = subst (λ (r : Result T E). OnErr r A) is holds

pub of_ok : {T E A : Type 0} (result : Result T E) → IsOk result → OnOk result A → A
of_ok (Ok value) ok holds = holds
of_ok (Err e) ok holds = absurd (let no = ok in cc)

pub true_if_ok : {T E : Type 0} (result : Result T E) (is : Bool) → IsOk result → (is ≡ false → IsErr result) → is ≡ true
true_if_ok result true ok fails = refl
true_if_ok (Ok value) false ok fails = absurd (let no = fails refl in cc)
true_if_ok (Err e) false ok fails = absurd (let no = ok in cc)

-- after a sync that ended well the number that was noted is that of the batch that was kept last, and both files have it
pub synced : {L T E : Type 0} {l : disk.Ghosts L} (old new : LastBatch L l) (batch : ℕ) (result : Result T E) → IsOk result → (is_usable old ≡ true → number_of old ≡ batch)
    → (is_usable old ≡ false → IsErr result) → number_of new ≡ number_of old → OnOk result (IsInBoth (number_of new) new) → IsInBoth batch new × (number_of new ≡ batch)
synced old new batch result ok exact fails same both =
    let is = same ∙ exact (true_if_ok result (is_usable old) ok fails) in
    (subst (λ n. IsInBoth n new) is (of_ok result ok both), is)

-- the same number is not greater either
pub lower : {m n batch : ℕ} → n ≡ m → m ≤ batch → n ≤ batch
lower is low = omega (arith, is, low)

-- a keeper that begins with this folder and this number names the number of the folder's last batch
pub named_by : {S L : Type 0} {rows : store.Ghosts S} {l : disk.Ghosts L} (folder opened : Folder S rows) (number last : LastBatch L l) → folder ≡ opened → number ≡ last
    → Names (batch_of opened) last → Names (batch_of folder) number
named_by {S} {L} {rows} {l} folder opened number last is same named =
    subst (λ (it : LastBatch L l). Names (batch_of folder) it) (sym same) (subst (λ (f : Folder S rows). Names (batch_of f) last) (sym is) named)

module _ {M : Type 0} {g : Ghosts M (List Piece)} where
  has_store : (kept : TreeFs M (List Piece) g) (locks : Option MemLs) (now last : ℕ)
      → IfSome (option_map (λ l. snapshot_at kept l now last) locks) (λ (snapshot : At g). snapshot.store ≡ kept)
  has_store kept None now last = tt
  has_store kept (Some locks) now last = refl

  -- the snapshot of a server has its store
  snapshot_store : (server : Serving g) (snapshot : At g) → snapshot_of server ≡ Some snapshot → snapshot.store ≡ store_in server
  snapshot_store server snapshot is =
      subst (λ these. IfSome these (λ (s : At g). s.store ≡ store_in server)) is
      (has_store (store_in server) (lent_locks server.engine) server.now server.last)

module _ {D E C : Type 0} {d : disk.Ghosts D} {e : disk.Ghosts E} {c : claim.Ghosts C} (files : FileStore D d × ClaimedFile E C e c) where
  -- one of two stores is left, and neither is of an earlier batch than a lower one
  or_lower : (low batch : ℕ) (one other : KeptStore) → low ≤ batch → LeaveEither files batch one other → LeaveEither files low one other
  or_lower low batch one other less leave = λ clean left file may also. ∥∥₁_map (leave clean left file may also) (λ held. elim held [
    | inl hold ↦ let above = hold.1 in let either : HoldFrom c low left file one ⊎ HoldFrom c low left file other = inl (hold.0, omega (arith, less, above)) in either
    | inr hold ↦ let above = hold.1 in let either : HoldFrom c low left file one ⊎ HoldFrom c low left file other = inr (hold.0, omega (arith, less, above)) in either
  ])

  -- a store that the folder keeps is left, with a number that is not greater than that of the folder
  noted : {S M L : Type 0} {rows : store.Ghosts S} {l : disk.Ghosts L} {g : Ghosts M (List Piece)} (folder : Folder S rows) (saved : Gv) (snapshot : At g) (number : LastBatch L l)
      → number_of number ≤ batch_of folder → Lasts c folder saved snapshot → (LastsAlone c folder saved snapshot → Leave files (kept_at snapshot)) → LeaveNoted files number (kept_at snapshot)
  noted folder saved snapshot number low lasts leaves = let is = lasts.number in (leaves (alone c folder saved snapshot lasts), omega (arith, low, is))

module _ {D E C : Type 0} {d : disk.Ghosts D} {e : disk.Ghosts E} {c : claim.Ghosts C} {rows : store.Ghosts (FileStore D d)} {g : Ghosts (ClaimedFile E C e c) (List Piece)} (rules : Rules)
    (opened : Opened (FileStore D d) (ClaimedFile E C e c) (List Piece) rows g) (folder : Folder (FileStore D d) rows) (kept : TreeFs (ClaimedFile E C e c) (List Piece) g)
    (files : FileStore D d × ClaimedFile E C e c) {L : Type 0} {l : disk.Ghosts L} where
  begins_kept : (keep : Keep l opened folder) (first : Serving g) → BeginsOpened first opened → IsOpenedAsKept opened
      → IsKept (store_of {g = g}) (LastsNumbered c) keep.keeper first
  begins_kept keep first begins lasts = record {
    snapshot = opened_at opened;
    is = begins.snapshot;
    kept = (subst (λ (f : Folder (FileStore D d) rows). Lasts c f (before_of opened.store) (opened_at opened)) (sym keep.begins) lasts, keep.named);
  }

  module _ (keep : Keep l opened folder) (last : Serving g) (ends : store_in last ≡ kept) where
    after : (IsLeft : KeptStore → Type 0) (exchanges : List Exchange) (old : ServerState)
        → ((snapshot : At g) → Lasts c folder (before_of kept) snapshot → IsLeft (kept_at snapshot))
        → IsKeptAfter store_of locks_of (LastsNumbered c) IsSameKept reads_of rules keep.keeper' exchanges old last → LeavesAfter g rules exchanges old last IsLeft
    after IsLeft exchanges old leaves is_kept =
        let same = snapshot_store last is_kept.since.snapshot is_kept.since.is ∙ ends in
        let here : Lasts c folder (before_of is_kept.since.snapshot.store) is_kept.snapshot =
        subst (λ (f : Folder (FileStore D d) rows). Lasts c f (before_of is_kept.since.snapshot.store) is_kept.snapshot) keep.ends is_kept.since.kept.0 in
        let lasts : Lasts c folder (before_of kept) is_kept.snapshot =
        subst (λ (these : TreeFs (ClaimedFile E C e c) (List Piece) g). Lasts c folder (before_of these) is_kept.snapshot) same here in
        record {
          snapshot = is_kept.snapshot;
          passed = is_kept.passed;
          now = is_kept.since.snapshot;
          is = is_kept.since.is;
          unchanged = is_kept.since.unchanged;
          left = leaves is_kept.snapshot lasts;
        }

    after_or_now : (exchanges : List Exchange) (old mid : ServerState) → LeavesOneOf folder kept files
        → IsKeptOrNow store_of locks_of (LastsNumbered c) (LastsEitherNumbered c) IsSameKept reads_of rules keep.keeper' exchanges old mid last
        → (number : LastBatch L l) → number_of number ≤ batch_of folder → LeavesAfterOrNow g rules exchanges old mid last files number
    after_or_now exchanges old mid one_of is_kept number low =
        let now = is_kept.either.snapshot in
        let same = snapshot_store last now is_kept.either.is ∙ ends in
        let here : LastsEither c folder (before_of now.store) is_kept.snapshot now =
        subst (λ (f : Folder (FileStore D d) rows). LastsEither c f (before_of now.store) is_kept.snapshot now) keep.ends is_kept.either.kept in
        record {
          snapshot = is_kept.snapshot;
          passed = is_kept.passed;
          after = is_kept.last;
          was = is_kept.was;
          unchanged = is_kept.unchanged;
          now = now;
          is = is_kept.either.is;
          left = or_lower files (number_of number) (batch_of folder) (kept_at is_kept.snapshot) (kept_at now) low (one_of is_kept.snapshot now
              (subst (λ (these : TreeFs (ClaimedFile E C e c) (List Piece) g). LastsEither c folder (before_of these) is_kept.snapshot now) same here) same);
        }

  -- a run whose keeper keeps it leaves it in the files
  module _ (input input' output output' : Option (List ℕ)) where
    pub runs_and_leaves : (number : LastBatch L l) → LeavesWhole folder kept files → IsInBoth (batch_of folder) number × (number_of number ≡ batch_of folder)
        → ServesOpened l rules opened (folder, kept) input input' output output'
        → RunsAndLeaves g rules (IsOpenedAsKept opened) (state_from (opened_at opened)) files number input input' output output'
    runs_and_leaves number whole named serves =
        let leaves : (snapshot : At g) → Lasts c folder (before_of kept) snapshot → LeaveNumbered files number (kept_at snapshot) =
        λ snapshot lasts. let both = subst (λ batch. IsInBoth batch number × (number_of number ≡ batch)) lasts.number named in
        (whole snapshot (alone c folder (before_of kept) snapshot lasts), both.0, both.1) in
        subst (λ old. RunsAndLeaves g rules (IsOpenedAsKept opened) old files number input input' output output') serves.begins.state
        (record {
          last = serves.last;
          run = serves.runs.run;
          leaves = λ lasts. after serves.keep serves.last serves.ends (LeaveNumbered files number) serves.runs.run.exchanges (state_now serves.first) leaves
              (serves.runs.kept (begins_kept serves.keep serves.first serves.begins lasts));
          noted = subst (λ batch. IsInBoth batch number) (sym named.1) named.0;
        })

    pub runs_with_log : (number : LastBatch L l) → number_of number ≤ batch_of folder → (IsTrue (view files.0).is_numbered → LeavesAlone folder kept files)
        → ServesOpened l rules opened (folder, kept) input input' output output'
        → RunsWithLog g rules (IsOpenedAsKept opened) (state_from (opened_at opened)) files number input input' output output'
    runs_with_log number low leaves serves =
        subst (λ old. RunsWithLog g rules (IsOpenedAsKept opened) old files number input input' output output') serves.begins.state
        (record {
          last = serves.last;
          run = serves.runs.run;
          leaves = λ numbered lasts. after serves.keep serves.last serves.ends (LeaveNoted files number) serves.runs.run.exchanges (state_now serves.first)
              (λ snapshot here. noted files folder (before_of kept) snapshot number low here (leaves numbered snapshot)) (serves.runs.kept (begins_kept serves.keep serves.first serves.begins lasts));
        })

  -- so does one that an error stops
  module _ (output output' : Option (List ℕ)) where
    pub stops_and_leaves : (number : LastBatch L l) → number_of number ≤ batch_of folder → LeavesAlone folder kept files → LeavesOneOf folder kept files
        → StopsOpened l rules opened (folder, kept) output output'
        → StopsAndLeaves g rules (IsOpenedAsKept opened) (state_from (opened_at opened)) files number output output'
    stops_and_leaves number low leaves one_of serves =
        subst (λ old. StopsAndLeaves g rules (IsOpenedAsKept opened) old files number output output') serves.begins.state
        (record {
          exchanges = serves.stops.exchanges;
          mid = serves.stops.mid;
          answered = serves.stops.answered;
          law = serves.stops.law;
          last = serves.last;
          stopped = serves.stops.stopped;
          leaves = λ lasts. after_or_now serves.keep serves.last serves.ends serves.stops.exchanges (state_now serves.first) serves.stops.mid one_of
              (serves.stops.kept (begins_kept serves.keep serves.first serves.begins lasts)) number low;
          in_order = elim serves.stops.in_order [
            | inl written ↦ inl written
            | inr more ↦ inr (record {
              exchange = more.exchange;
              served = more.answered;
              leaves = λ lasts. after serves.keep serves.last serves.ends (LeaveNoted files number) (serves.stops.exchanges ++ more.exchange ∷ []) (state_now serves.first)
                  (λ snapshot here. noted files folder (before_of kept) snapshot number low here (leaves snapshot)) (more.kept (begins_kept serves.keep serves.first serves.begins lasts));
            })
          ];
        })

module _ {D E C : Type 0} {d : disk.Ghosts D} {e : disk.Ghosts E} {c : claim.Ghosts C} {rows : store.Ghosts (FileStore D d)} {g : Ghosts (ClaimedFile E C e c) (List Piece)} (rules : Rules)
    (opened : Opened (FileStore D d) (ClaimedFile E C e c) (List Piece) rows g) (files : FileStore D d × ClaimedFile E C e c) where
  -- `left` and `file` are what the files held
  module _ (left : database.Image) (file : List ℕ) (start : StartOptions) (finds : FindsKept left file start.quota opened) (finds_new : FindsFirst left file start.quota start.key opened) (held_sealed : HeldSealed left opened)
      (tagged : (memory_of opened.store).tag_part ≡ start.tag_part) (marks : (memory_of opened.store).marks ≡ true) (keyed : IsKeyed c opened.key)
      (was_clean : IsClean (view files.0) → HasCleanDatabase opened.folder) where
    lasts_at_start : HeldAStore left file files → IsOpenedAsKept opened
    lasts_at_start (clean, inl (held, hold)) = (finds held hold (was_clean clean)).lasts
    lasts_at_start (clean, inr vacant) = (finds_new.found vacant (was_clean clean)).lasts

    limit_at_start : HeldAStore left file files → (memory_of opened.store).limit ≡ option_map Some start.quota
    limit_at_start (clean, inl (held, hold)) = (finds held hold (was_clean clean)).limit_is
    limit_at_start (clean, inr vacant) = (finds_new.found vacant (was_clean clean)).limit_is

    begins_with : BeginsWith left file files start (opened_at opened)
    begins_with = record {
      kept = λ held clean hold. (finds held hold (was_clean clean)).is;
      new = λ clean vacant. (finds_new.found vacant (was_clean clean)).is;
      empty = λ clean vacant. finds_new.empty vacant (was_clean clean);
      limit = limit_at_start;
      tags = tagged;
      marks = marks;
      key = opened.key;
      sealed = λ tables clean keeps. held_sealed tables keeps (was_clean clean);
      keyed = λ clean vacant. finds_new.keyed vacant (was_clean clean);
      claimed = keyed;
    }

    -- `number` is what is noted at the end, and `said` what the files of the number held
    module _ {L : Type 0} {l : disk.Ghosts L} (said : database.Image) (begun number : LastBatch L l) (calm : HasCleanSlots number → HasCleanSlots begun)
        (noted_under : key_of number ≡ opened.key)
        (up_to_date : start.accepts_loss ≡ false → OpensUpToDate said opened begun) (numbered : start.accepts_loss ≡ false → OpensNumbered left said opened begun) where
      begins_numbered : BeginsNumbered left file files said number start (opened_at opened)
      unfolding begins_with
      begins_numbered = record {
        begins = begins_with;
        noted_under = noted_under;
        up_to_date = λ strict clean. up_to_date strict (calm clean);
        numbered = λ strict clean tables sound keeps. numbered strict (calm clean) tables keeps (was_clean sound);
      }

      -- what was found goes on
      pub goes_on : (input input' output output' : Option (List ℕ)) → RunsAndLeaves g rules (IsOpenedAsKept opened) (state_from (opened_at opened)) files number input input' output output'
          → GoesOn left file files said number g rules start input input' output output'
      goes_on input input' output output' runs =
          record {
            first = opened_at opened;
            begins = begins_numbered;
            goes = record { last = runs.last; run = runs.run; leaves = λ held. runs.leaves (lasts_at_start held); noted = runs.noted };
          }

      pub goes_on_with_log : (input input' output output' : Option (List ℕ)) → RunsWithLog g rules (IsOpenedAsKept opened) (state_from (opened_at opened)) files number input input' output output'
          → GoesOnWithLog left file files said number g rules start input input' output output'
      goes_on_with_log input input' output output' runs =
          record {
            first = opened_at opened;
            begins = begins_numbered;
            goes = record { last = runs.last; run = runs.run; leaves = λ numbered held. runs.leaves numbered (lasts_at_start held) };
          }

      pub goes_on_and_stops : (output output' : Option (List ℕ)) → StopsAndLeaves g rules (IsOpenedAsKept opened) (state_from (opened_at opened)) files number output output'
          → GoesOnAndStops left file files said number g rules start output output'
      goes_on_and_stops output output' stops =
          record {
            first = opened_at opened;
            begins = begins_numbered;
            stops = record {
              exchanges = stops.exchanges;
              mid = stops.mid;
              answered = stops.answered;
              law = stops.law;
              last = stops.last;
              stopped = stops.stopped;
              leaves = λ held. stops.leaves (lasts_at_start held);
              in_order = elim stops.in_order [
                | inl written ↦ inl written
                | inr more ↦ inr (record { exchange = more.exchange; served = more.served; leaves = λ held. more.leaves (lasts_at_start held) })
              ];
            };
          }
