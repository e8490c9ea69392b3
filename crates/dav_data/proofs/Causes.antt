-- Causes of errors, which stay causes for a caller.
use Rattle.std.proofs.Common.{◌≡◌, ◌∙◌, ◌≤◌, ◌+◌, ℕ, leb, Bool, true, length, refl, inl, inr, ⊎_elim, arith}
use Rattle.std.specs.declared.io.Error.{Error}
use Rattle.std.proofs.lemmas.Bool.{and_parts, leb-true}
use Rattle.sqlite_disk.specs.declared.Disk.{Ghosts}
use Rattle.dav_resource.specs.declared.error.FsError.{FsError}
use Rattle.dav_blocks.specs.Blocks as blocks
use Rattle.dav_data.specs.declared.data_file.DataFile.{DataFile}
use Rattle.dav_data.specs.Errors.{failure_of}
use Rattle.dav_data.specs.Data.{in_use, Keeps, HasCause, TellsRoom, IsDiskFailure, IsForced, IsUnread}

module _ {D : Type 0} {g : Ghosts D} where
  -- a cause of the block file's first call
  cause-here : (old new : DataFile D g) → blocks.HasCause old.file new.file → HasCause old new
  cause-here old new cause = record {
    before = old.file;
    kept = record { used = λ at n is. is; same = λ at n is. refl; safe = λ at n is. is };
    usable = refl;
    cause = cause;
  }

  pub failure-here : (old new : DataFile D g) (error : Error) (e : FsError) → e ≡ failure_of error → blocks.HasCause old.file new.file → TellsRoom error old.file new.file → IsDiskFailure old new e
  unfolding cause-here
  failure-here old new error e kind cause room = record { error = error; kind = kind; cause = cause-here old new cause; room = room }

  module _ (old middle new : DataFile D g) (keeps : Keeps old middle) where
    cause-later : HasCause middle new → HasCause old new
    cause-later is = record {
      before = is.before;
      kept = record {
        used = λ at n used. is.kept.used at n (keeps.blocks.used at n used);
        same = λ at n used. is.kept.same at n (keeps.blocks.used at n used) ∙ keeps.blocks.same at n used;
        safe = λ at n safe. is.kept.safe at n (keeps.blocks.safe at n safe);
      };
      usable = is.usable ∙ keeps.usable;
      cause = is.cause;
    }

    pub failure-later : (e : FsError) → IsDiskFailure middle new e → IsDiskFailure old new e
    unfolding cause-later
    failure-later e is = record { error = is.error; kind = is.kind; cause = cause-later is.cause; room = is.room }

    pub forced-later : (e : FsError) → IsForced middle new e → IsForced old new e
    forced-later e (inl memory) = inl memory
    forced-later e (inr failure) = inr (failure-later e failure)

    -- a read of something, as a read of more
    pub unread-later : (passes more : Bool) → (more ≡ true → passes ≡ true) → (e : FsError) → IsUnread passes middle new e → IsUnread more old new e
    unread-later passes more part e (inl memory) = inl memory
    unread-later passes more part e (inr (inl fails)) = inr (inl (record {
      error = fails.error;
      kind = fails.kind;
      before = fails.before;
      usable = fails.usable ∙ keeps.usable;
      cause = fails.cause;
    }))
    unread-later passes more part e (inr (inr damage)) = inr (inr (record { is = damage.is; wrong = λ honest all. damage.wrong honest (part all) }))

  -- a read of the block file in use
  pub read-fails : (old new : DataFile D g) (passes : Bool) (at n : ℕ) (error : Error) (e : FsError) → e ≡ failure_of error → in_use old at n ≡ true → blocks.HasReadCause at n error old.file new.file → IsUnread passes old new e
  read-fails old new passes at n error e kind used cause =
      let end = leb-true (at + n) old.file.end (and_parts (leb (at + n) old.file.end) _ used).0 in
      let within : old.file.end ≤ length (g.seen old.file.disk) = old.file.within in
      inr (inl (record {
        error = error;
        kind = kind;
        before = old.file;
        usable = refl;
        cause = ⊎_elim (λ unusable. inl unusable.0) (λ fault. inr (fault (λ honest. omega arith))) cause;
      }))
