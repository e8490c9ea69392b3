-- What is found in the files of a store before they are opened, and why they are not judged.
use Rattle.std.specs.Prelude.{◌≡◌, ℕ, List}
use Rattle.sqlite_catalog.specs.Listing.{IsSound}
use Rattle.sqlite.specs.Recovery.{Image}
use Rattle.sqlite.specs.Tree.{Trees}
use Rattle.sqlite.specs.Files.{AreFoundIn}
use Rattle.dav_rows.specs.Tables.{older_schema}
use Rattle.dav_rows.specs.Contents.{Contents}
use Rattle.dav_rows.specs.Failing.{HasUtf8}
use Rattle.dav_rows.specs.declared.change.Change.{Change}
use Rattle.dav_log.specs.Damage.{IsDamaged}
use Rattle.disk_readonly.specs.Copies.{IsExcused}
use Rattle.disk_readonly.specs.declared.error.CopyError.TheVariants.{Memory}
use Rattle.dav_rows.specs.Loading.{AreAll}
use Rattle.dav_rows_files.specs.Starting.{Keeps, KeepsOlder, IsVacant, IsUnused, IsStopped, IsStoppedFirst}
use Rattle.dav_rows.specs.declared.opening.Loaded.{Loaded}
use Rattle.dav_rows.specs.declared.opening.Version.TheVariants.{New, Older, Current}
use Rattle.dav_rows_files.specs.declared.judging.Unjudged.{Unjudged}
use Rattle.dav_rows_files.specs.declared.judging.Unjudged.TheVariants.{Copy, Log, Start}

-- The rows are those that the files keep, of the current version; or if the files have no table, those of these maps, which are new.
-- The version is `New` if the files have no table, and only then. It is `Older` if they have the tables of version 1, and only if an open finds these.
pub record IsJudged (image : Image) (new : Contents) (loaded : Loaded) : Type 0 where
  pub kept : (m : Contents) → Keeps image m → AreAll loaded.rows m × (loaded.version ≡ Current)
  pub first : IsVacant image → AreAll loaded.rows new × (loaded.version ≡ New)
  pub only_new : loaded.version ≡ New → IsVacant image
  pub older : (m : Contents) → KeepsOlder image m → loaded.version ≡ Older
  pub only_older : loaded.version ≡ Older → (db : Trees) × AreFoundIn image db × IsSound older_schema db

-- a log is damaged, or memory ran out while it was looked at
abbrev pub IsLogFault : List ℕ → Unjudged → Type 0
IsLogFault log (Copy e) = e ≡ Memory
IsLogFault log Log = IsDamaged log
IsLogFault log (Start e left) = ⊥

-- Memory ran out, a disk reported a fault, whose count was the first of these numbers before and is the second one now, the log is damaged, or a file is as
-- long as SQLite allows.
abbrev pub IsJudgeStopped : Image → ℕ → ℕ → Unjudged → Type 0
IsJudgeStopped image old new (Copy e) = IsExcused old new e
IsJudgeStopped image old new Log = IsDamaged image.log
IsJudgeStopped image old new (Start e left) = IsStopped left e

-- the same causes, or a row of the first changes is too long
abbrev pub IsJudgeStoppedFirst : Image → List Change → ℕ → ℕ → Unjudged → Type 0
IsJudgeStoppedFirst image changes old new (Copy e) = IsExcused old new e
IsJudgeStoppedFirst image changes old new Log = IsDamaged image.log
IsJudgeStoppedFirst image changes old new (Start e left) = IsStoppedFirst left changes e

-- Where the files keep maps whose texts are UTF-8, or are unused, nothing else stops it.
pub record FailsToJudge (image : Image) (changes : List Change) (old new : ℕ) (e : Unjudged) : Type 0 where
  pub kept : (m : Contents) → Keeps image m → HasUtf8 m → IsJudgeStopped image old new e
  pub first : IsUnused image → IsJudgeStoppedFirst image changes old new e
