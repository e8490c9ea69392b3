use Rattle.std.proofs.Common.{Some, refl}
use Rattle.std.proofs.lemmas.Result.{IfOk-weaker}
use Rattle.dav_engine.specs.DavInner.{lent, lent_locks, seen_by, settings_by}
use Rattle.dav_engine.specs.State.{Seen, state_of, IsLawfulState}
use Rattle.dav_guarding.specs.Guarding.{policy_of, inner_of, seen_behind, log_allowed, is_allowed}
use Rattle.dav_rights.specs.contracts.rights.RightsPolicy.TheImpl as rights
use Rattle.dav_access.proofs.ChangeLaws.{changes_by_allowed, changes_where_written}
use Rattle.dav_access.proofs.ReadLaws.{distinct_tokens, run_reveals}
use Rattle.dav_access.proofs.run_with_rights.Goals as goal

pub returns : goal.returns
returns g c =
    let old : Seen = seen_by (seen_behind {g = rights.ghosts} g.F.GuardedFileSystem.seen) g.L.DavLockSystem.seen c.args.engine.now in
    let new : Seen = seen_by (seen_behind {g = rights.ghosts} g.F.GuardedFileSystem.seen) g.L.DavLockSystem.seen c.run.new.self in
    let lawful : IsLawfulState (state_of old) = record {
      contents = g.met.F.GuardedFileSystem.well_formed (inner_of (lent c.args.engine.now));
      locks = distinct_tokens g.L.DavLockSystem.seen g.met.L.DavLockSystem.distinct (lent_locks c.args.engine.now);
    } in
    record {
      changed = IfOk-weaker c.run.result _ _ (λ replies runs. changes_where_written (policy_of (lent c.args.engine.now)).rules.items old new (λ call. refl)
          (changes_by_allowed _ _ _ _ _ runs (is_allowed g.F.GuardedFileSystem.seen (lent c.run.new.self)))) c.run.ensures.run;
      reveals = IfOk-weaker c.run.result _ _ (λ replies runs. run_reveals (Some (policy_of (lent c.args.engine.now)).rules.items) (settings_by (seen_behind {g = rights.ghosts} g.F.GuardedFileSystem.seen) c.args.engine.now) old new
          (record { allows = λ call. refl; shows = λ key. refl }) refl (log_allowed (lent c.run.new.self)) lawful _ _ runs) c.run.ensures.run;
    }
