-- What a start that fails leaves still holds what the files held.
use Rattle.std.proofs.Common.{◌≡◌, ◌∙◌, inl, inr, ℕ, true, false, List, Option, Some, None, Result, Ok, Err, sym, ap, subst}
use Rattle.std.proofs.Math.Logic.{∥∥₁_map}
use Rattle.std.specs.Prelude.{IfErr}
use Rattle.dav_data.specs.declared.claim.Claim as claim
use Rattle.dav_data.specs.declared.claimed_file.ClaimedFile.{ClaimedFile}
use Rattle.dav_folder.specs.Closing.{LeavesAlone}
use Rattle.dav_folder.specs.Failing.{LeavesOnly}
use Rattle.dav_folder.specs.Files.{KeptStore, Hold, Leave, kept_at}
use Rattle.dav_folder.specs.Lasting as lasting
use Rattle.dav_folder.specs.Lasting.{Lasts, LastsAlone, HasCleanDatabase}
use Rattle.dav_folder.specs.Opening.{AreOnlyRead, opened_at}
use Rattle.dav_folder.specs.declared.failing.DataLeft.{DataLeft}
use Rattle.dav_folder.specs.declared.failing.Remains.{Remains}
use Rattle.dav_rows_files.specs.Starting.{Keeps, IsExempt, FailsUnharmed}
use Rattle.sqlite.specs.Files.{image_of}
use Rattle.sqlite.specs.Recovery as database
use Rattle.sqlite.specs.declared.file.Leftover.{Leftover}
use Rattle.sqlite.specs.declared.file.Leftover.TheVariants as leftover
use Rattle.sqlite_disk.specs.declared.Disk as disk
use Rattle.sqlite_disk.specs.declared.Files.{Files}
use Rattle.sqlite_store.specs.FileStore.{view}
use Rattle.sqlite_store.specs.declared.store.FileStore.{FileStore}
use Rattle.sqlite_trees.proofs.Doubt.{no_doubt}
use Rattle.sqlite_trees.specs.View.{IsClean}
use Rattle.sqlite_trees.specs.declared.store.Store as store
use Rattle.dav_folder.specs.declared.failing.DataLeft.TheVariants as data_left
use Rattle.dav_folder.specs.declared.opening.Opened.{Opened}
use Rattle.dav_pieces.specs.declared.piece.Piece.{Piece}
use Rattle.dav_tree.specs.TreeFs.{before_of}
use Rattle.dav_tree.specs.declared.medium.Medium.{Ghosts}
use Rattle.sqlite_disk.specs.Disk.{Only}
use Rattle.davd.specs.Failing.{HasOnly, HoldsOn, HoldsOnLeft, HoldsOnIfOpened, AreOnlyJudged, StaysAsHeldLeft, HoldsFoundLeft, IsUntouched}
use Rattle.davd.specs.Folder.{FindsHeld}
use Rattle.davd.specs.Program.{is_judged}
use Rattle.davd.specs.declared.program.Stopped.{Stopped}
use Rattle.sqlite_wal.specs.Files.{outcomes}
use Rattle.sqlite_wal.specs.Reads.{OnlyReadsBoth}
use Rattle.davd.specs.declared.folder.Unserved.{Unserved}

-- what else is known of an error
pub err_also : {T X : Type 0} {P Q : X → Type 0} (result : Result T X) → IfErr result P → ((e : X) → P e → Q e) → IfErr result Q
err_also (Ok value) is more = tt
err_also (Err e) is more = more e is

module _ {D E C : Type 0} {d : disk.Ghosts D} {e : disk.Ghosts E} {c : claim.Ghosts C} (left : database.Image) (file : List ℕ) where
  pub if_opened : (remains : Option (Remains D E C d e c)) → HoldsOnLeft left file remains → HoldsOnIfOpened left file remains
  if_opened remains has = subst (λ these. HoldsOnIfOpened left file these) (sym has.1) has.2

  -- the same, where the files held what `left` and `file` are
  pub moved : {T X : Type 0} (result : Result T X) (left_of : X → Option (Remains D E C d e c)) {now : database.Image} {shown : List ℕ} → now ≡ left → shown ≡ file
      → IfErr result (λ e. HoldsOnLeft now shown (left_of e)) → IfErr result (λ e. HoldsOnIfOpened left file (left_of e))
  moved result left_of {now = now} is_left is_file holds =
      let here = subst (λ (image : database.Image). IfErr result (λ e. HoldsOnLeft image file (left_of e))) is_left
      (subst (λ bytes. IfErr result (λ e. HoldsOnLeft now bytes (left_of e))) is_file holds) in
      err_also result here (λ e. if_opened (left_of e))

same_image : {D : Type 0} {d : disk.Ghosts D} (old now : Files D) → AreOnlyRead d old now → image_of d now ≡ image_of d old
same_image old now only = λ i. record { log = only.0.seen i; db = only.1.seen i }

-- the same tables and the same bytes
held_still : {C : Type 0} (c : claim.Ghosts C) (left image : database.Image) (file contents : List ℕ) (kept : KeptStore) (hold : Hold c left file kept) → Keeps image hold.tables
    → contents ≡ file → Hold c image contents kept
held_still c left image file contents kept hold keeps same = subst (λ bytes. Hold c image bytes kept) (sym same) (record {
  tables = hold.tables;
  keeps = keeps;
  image = hold.image;
  stand = hold.stand;
  whole = hold.whole;
  within = hold.within;
  bytes = hold.bytes;
  claimed = hold.claimed;
  sound = hold.sound;
  counter = hold.counter;
  locks_are = hold.locks_are;
  time = hold.time;
  batch_is = hold.batch_is;
})

module _ {D E C : Type 0} {d : disk.Ghosts D} {e : disk.Ghosts E} {c : claim.Ghosts C} (old now : Files D) (only : AreOnlyRead d old now) (has : HasOnly d old) (file : List ℕ) where
  -- the files of the database were only read, or a start over them left them unharmed
  pub holds_on : (rest : Leftover D d) (bytes : DataLeft E C e c) → FailsUnharmed now rest → LeavesOnly file bytes → HoldsOn (image_of d old) file (record { database = rest; data_file = bytes })
  holds_on rest bytes unharmed leaves kept hold clean honest image contents may also =
      let same = leaves honest contents also in
      let keeps = subst (λ (image : database.Image). Keeps image hold.tables) (sym (same_image old now only)) hold.keeps in
      elim (unharmed hold.tables keeps clean image may) [
        | inl was ↦ inl ∣ held_still c (image_of d old) image file contents kept hold
            (subst (λ (image : database.Image). Keeps image hold.tables) (sym (has image (only.0.crash image.log was.0, only.1.crash image.db was.1))) hold.keeps) same ∣₁
        | inr (inl some) ↦ inl (∥∥₁_map some (λ keeps. held_still c (image_of d old) image file contents kept hold keeps same))
        | inr (inr exempt) ↦ inr (subst (λ (image : database.Image). IsExempt image rest) (same_image old now only) exempt)
      ]

  pub only_read : (bytes : DataLeft E C e c) → LeavesOnly file bytes → HoldsOn {d = d} {e = e} {c = c} (image_of d old) file (record { database = leftover.Files now; data_file = bytes })
  only_read bytes leaves = holds_on (leftover.Files now) bytes (λ m keeps clean image may. inl may) leaves

-- a store that was opened is given up: whatever a crash leaves holds what was found
module _ {D E C : Type 0} {d : disk.Ghosts D} {e : disk.Ghosts E} {c : claim.Ghosts C} {rows : store.Ghosts (FileStore D d)} {g : Ghosts (ClaimedFile E C e c) (List Piece)}
    (opened : Opened (FileStore D d) (ClaimedFile E C e c) (List Piece) rows g) (files : FileStore D d × ClaimedFile E C e c)
    (alone : LeavesAlone opened.folder opened.store files) (clean : IsClean (view files.0) → HasCleanDatabase opened.folder) where
  lasts_alone : Lasts c opened.folder (before_of opened.store) (opened_at opened) → LastsAlone c opened.folder (before_of opened.store) (opened_at opened)
  lasts_alone lasts = lasting.alone c opened.folder (before_of opened.store) (opened_at opened) lasts

  pub opened_holds : (left : database.Image) (file : List ℕ) (limit : Option (Option ℕ)) → FindsHeld left file limit opened
      → HoldsOn left file (record { database = leftover.Store files.0; data_file = data_left.File files.1 })
  opened_holds left file limit finds kept hold is_clean honest image contents may also =
      let is = no_doubt (view files.0).is_clean is_clean in
      let found = finds kept hold (clean is) in
      let leave : Leave files (kept_at (opened_at opened)) = alone (opened_at opened) (lasts_alone found.lasts) in
      inl (subst (λ kept. ∥ Hold c image contents kept ∥₁) found.is (leave is image contents may also))

-- ---- a folder that is refused for what its files hold

-- what is not judged is no reason to refuse it
pub not_judged : {X : Type 0} (stopped other : Stopped) → stopped ≡ other → is_judged other ≡ false → is_judged stopped ≡ true → X
not_judged stopped other same early judged = let no : true ≡ false = sym judged ∙ ap is_judged same ∙ early in absurd cc

-- files that were only judged stay as they were held
pub stays_as_held : {D E F C : Type 0} (e : disk.Ghosts E) {d : disk.Ghosts D} {f : disk.Ghosts F} {c : claim.Ghosts C} (files : Files D) (file : E) (rest : Option (Remains D F C d f c)) → HasOnly d files
    → Only (e.seen file) (e.may_leave file) → AreOnlyJudged e files file rest → StaysAsHeldLeft (image_of d files) (e.seen file) rest
stays_as_held e files file rest has only judged = (
  record { database = leftover.Files judged.database; data_file = judged.data_file },
  judged.is,
  record {
    database = λ image may. has image (judged.only.0.crash image.log may.0, judged.only.1.crash image.db may.1);
    data_file = λ clean contents may. judged.unharmed only clean contents may;
  },
)

-- the same, where the files held what `left` and `file` are
pub stays_moved : {D E C : Type 0} {d : disk.Ghosts D} {e : disk.Ghosts E} {c : claim.Ghosts C} (remains : Option (Remains D E C d e c)) (now left : database.Image) (shown file : List ℕ) → now ≡ left → shown ≡ file
    → StaysAsHeldLeft now shown remains → StaysAsHeldLeft left file remains
stays_moved remains now left shown file is_left is_file stays =
    subst (λ bytes. StaysAsHeldLeft left bytes remains) is_file (subst (λ (image : database.Image). StaysAsHeldLeft image shown remains) is_left stays)

-- whatever a crash leaves of the files is what they held, if those of the number were only read
pub untouched : {D E L C : Type 0} {l : disk.Ghosts L} {d : disk.Ghosts D} {e : disk.Ghosts E} {c : claim.Ghosts C} {left said : database.Image} {file : List ℕ} (unserved : Unserved D E L C d e c) (old now : Files L)
    → ((image : database.Image) → outcomes l old.log old.db image → image ≡ said) → OnlyReadsBoth l (old.log, old.db) (now.log, now.db) → unserved.last ≡ Some now → StaysAsHeldLeft left file unserved.start.left
    → IsUntouched l left file said unserved
untouched unserved old now has reads is stays = record {
  files = stays;
  number = (now, is, λ image may. has image (reads.0.crash image.log may.0, reads.1.crash image.db may.1));
}

-- a store that was found and is given up: the files hold on to what they held
pub found_if_opened : {D E C : Type 0} {d : disk.Ghosts D} {e : disk.Ghosts E} {c : claim.Ghosts C} {rows : store.Ghosts (FileStore D d)} {g : Ghosts (ClaimedFile E C e c) (List Piece)}
    (opened : Opened (FileStore D d) (ClaimedFile E C e c) (List Piece) rows g) (remains : Option (Remains D E C d e c)) (left : database.Image) (file : List ℕ) (limit : Option (Option ℕ))
    → FindsHeld left file limit opened → HoldsFoundLeft opened remains → HoldsOnIfOpened left file remains
found_if_opened opened None left file limit finds found = tt
found_if_opened opened (Some rest) left file limit finds found = found left file limit finds
