use Rattle.std.proofs.Common.{refl, subst}
use Rattle.dav_resource.specs.Methods.{method_of}
use Rattle.dav_messages.specs.Reply.{answer_of}
use Rattle.dav_store.specs.Store.{Store}
use Rattle.dav_access.proofs.ReadLaws.{distinct_tokens, step_reveals}
use Rattle.dav_engine.specs.DavInner.{lent, lent_locks, seen_by}
use Rattle.dav_engine.specs.State.{IsLawfulState, Seen, state_of as engine_state}
use Rattle.dav_engine.specs.Step.{Serves}
use Rattle.dav_guarding.specs.Guarding.{inner_of, log_allowed, seen_behind}
use Rattle.dav_rights.specs.Access.{refuses_to, rights_under}
use Rattle.dav_server.specs.State.{behind_refusals, rules_of, settings_at, state_of, store_in}
use Rattle.dav_server.proofs.Executing.{caller_view}
use Rattle.dav_server.proofs.server.Server.execute.Goals as goal

pub returns-clause-executes : goal.returns-clause-executes
returns-clause-executes g c =
    let state = state_of g.F.GuardedFileSystem.seen g.L.DavLockSystem.seen c.args.self.now in
    let request = c.args.request.now in
    let guarded = c.set_policy.ensures in
    let view =
    caller_view g.F.GuardedFileSystem.seen c.args.self.now.engine.fs.now c.set_policy.new.self c.args.access state.rights request.principal refl guarded.inner guarded.policy
    guarded.records c.requires in
    let old : Seen = record { store = behind_refusals (refuses_to state.rights request.principal) state.seen.store; locks = state.seen.locks } in
    let after = seen_by (seen_behind g.F.GuardedFileSystem.seen) g.L.DavLockSystem.seen c.serve-answer.new.self in
    let settings = settings_at (rules_of c.args.self.now) old in
    let served : Serves (method_of request.method) settings old request (answer_of c.serve-answer.result) after =
    subst (λ (store : Store). Serves (method_of request.method) (settings_at (rules_of c.args.self.now) (record { store = store; locks = state.seen.locks }))
    (record { store = store; locks = state.seen.locks }) request (answer_of c.serve-answer.result) after) view c.serve-answer.ensures.step in
    let was : IsLawfulState (engine_state old) = record {
      contents = g.met.F.GuardedFileSystem.well_formed (store_in c.args.self.now);
      locks = distinct_tokens g.L.DavLockSystem.seen g.met.L.DavLockSystem.distinct (lent_locks c.args.self.now.engine);
    } in
    let is : IsLawfulState (engine_state after) = record {
      contents = g.met.F.GuardedFileSystem.well_formed (inner_of (lent c.serve-answer.new.self));
      locks = distinct_tokens g.L.DavLockSystem.seen g.met.L.DavLockSystem.distinct (lent_locks c.serve-answer.new.self);
    } in
    record {
      after = after;
      served = served;
      reveals = step_reveals (rights_under state.rights request.principal) settings old after (record { allows = λ call. refl; shows = λ key. refl }) (refl {a = old.store.facts})
          (log_allowed (lent c.serve-answer.new.self)) was request (answer_of c.serve-answer.result) is served;
      tagged = g.met.F.GuardedFileSystem.tagged (inner_of (lent c.serve-answer.new.self));
      emptied = rw c.clear_log.ensures.inner refl;
    }
