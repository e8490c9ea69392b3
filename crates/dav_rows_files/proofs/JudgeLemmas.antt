-- Copies in memory, and a connection over them.
use Rattle.std.proofs.Common.{◌≡◌, ◌+◌, ℕ, List, inl, inr, Result, Ok, Err, refl, sym, subst, arith}
use Rattle.std.specs.Prelude.{IfErr}
use Rattle.std.specs.Result.{IsErrAnd}
use Rattle.sqlite_disk.specs.Disk.{MoreFaults}
use Rattle.sqlite_pool.specs.Pool.{state}
use Rattle.sqlite_store.specs.declared.store.FileStore.{FileStore}
use Rattle.sqlite_trees.specs.View.{doubt}
use Rattle.sqlite.specs.Files.{file_state, IsCleanLeft}
use Rattle.sqlite.specs.Held.{Held}
use Rattle.sqlite.specs.State.{HasCleanDisk}
use Rattle.sqlite.specs.declared.file.Leftover.{Leftover}
use Rattle.sqlite.specs.declared.file.Leftover.TheVariants as left
use Rattle.disk_readonly.specs.Copies.{IsExcused}
use Rattle.disk_readonly.specs.declared.copied.Copied.{Copied}
use Rattle.disk_readonly.specs.declared.error.CopyError.{CopyError}
use Rattle.sqlite.specs.Recovery.{Image}
use Rattle.dav_rows.specs.declared.change.Change.{Change}
use Rattle.dav_rows_files.specs.Judging.{IsLogFault, FailsToJudge}
use Rattle.dav_rows_files.specs.declared.judging.Unjudged.{Unjudged}
use Rattle.dav_rows_files.specs.declared.judging.Unjudged.TheVariants.{Copy, Log, Start}
use Rattle.disk_readonly.specs.contracts.copied.CopiedDisk.TheImpl as copied

-- memory takes no wrong answer as true
pub always_clean : (c : Held (FileStore Copied copied.ghosts)) → HasCleanDisk (file_state c)
unfolding state doubt
always_clean c = refl

pub clean_left : (left : Leftover Copied copied.ghosts) → IsCleanLeft left
unfolding state
clean_left (left.Files files) = refl
clean_left (left.Unopened files) = refl
clean_left (left.Store it) = refl

-- an error of the second file is one of both
pub excused-behind : (first old new : ℕ) (e : CopyError) → IsExcused old new e → IsExcused (first + old) (first + new) e
excused-behind first old new e (inl memory) = inl memory
excused-behind first old new e (inr (cause, is, more)) = inr (cause, is, let both : MoreFaults (first + old) (first + new) = omega (arith, more) in both)

-- and one of the first file
pub excused-before : (second old new : ℕ) (e : CopyError) → IsExcused old new e → IsExcused (old + second) (new + second) e
excused-before second old new e (inl memory) = inl memory
excused-before second old new e (inr (cause, is, more)) = inr (cause, is, let both : MoreFaults (old + second) (new + second) = omega (arith, more) in both)

-- an error that is passed on
pub if-err-same : {T E : Type 0} (result : Result T E) (e : E) (P : E → Type 0) → IsErrAnd result (λ y. y ≡ e) → P e → IfErr result P
if-err-same (Ok x) e P is p = tt
if-err-same (Err y) e P is p = subst P (sym is) p

-- a fault of the log stops a judge for an allowed cause
pub log_fault : (image : Image) (changes : List Change) (old new : ℕ) (e : Unjudged) → IsLogFault image.log e → FailsToJudge image changes old new e
log_fault image changes old new (Copy cause) is = record { kept = λ m keeps utf8. inl is; first = λ unused. inl is }
log_fault image changes old new Log is = record { kept = λ m keeps utf8. is; first = λ unused. is }
log_fault image changes old new (Start cause left) is = absurd is
