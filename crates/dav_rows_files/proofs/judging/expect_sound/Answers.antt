use Rattle.std.proofs.Common.{ℕ, List, inl, inr, refl, sym, subst}
use Rattle.sqlite_wal.specs.Format.{be32}
use Rattle.sqlite_wal.specs.Opening.{RefusesLog}
use Rattle.sqlite_wal.specs.Outcome.{HasCause}
use Rattle.sqlite_wal.specs.Recovery.{Replays}
use Rattle.sqlite_wal.specs.declared.error.Error.TheVariants.{Corrupt}
use Rattle.disk_readonly.specs.Copies.{contents_of, faults_of}
use Rattle.dav_log.specs.Damage.{IsDamaged}
use Rattle.dav_rows_files.proofs.judging.expect_sound.Goals as goal

-- a log of which recovery takes no number of frames loses none
unread : (log : List ℕ) → RefusesLog (be32 log 8) log Corrupt → IsDamaged log → ⊥
unread log (inl none) (inl head) = none.1 0 (inl (inr head.wrong, refl))
unread log (inl none) (inr loses) = none.1 loses.taken (subst (λ size. Replays size log loses.taken) (sym loses.names.named) loses.replays)
unread log (inr long) damaged = absurd (let is = long.0 in cc)

pub returns-in-Err-Corrupt-clause-sound : goal.returns-in-Err-Corrupt-clause-sound
returns-in-Err-Corrupt-clause-sound c = λ damaged.
    let log = contents_of c.args.log.now in
    unread log
    (subst (HasCause (faults_of c.args.log.now) (faults_of c.is_damaged.new.log) (RefusesLog (be32 log 8) log)) c.in-Err-Corrupt.field-0-is c.in-Err-Corrupt.ensures.err) damaged
