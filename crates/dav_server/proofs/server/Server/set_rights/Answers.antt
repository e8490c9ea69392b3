use Rattle.std.proofs.Common.{refl, rules}
use Rattle.dav_rules.specs.Rules.{HasNoRules}
use Rattle.dav_wire.specs.Replies.{Done, Failed, Refused}
use Rattle.dav_server.specs.Events as events
use Rattle.dav_server.proofs.Reactions.{reacts}
use Rattle.dav_server.proofs.server.Server.set_rights.Goals as goal

pub returns-in-Ok-clause-reacts : goal.returns-in-Ok-clause-reacts
returns-in-Ok-clause-reacts g c =
    let text = c.args.text.now in
    reacts _ _ _ _ _ _ _ (events.RightsRead text Done) _ refl (c.in-Ok.rules.rules.items, (c.in-Ok.ensures {u = tt}).ok, c.set_rules.ensures.state) refl c.encode.ensures

pub returns-in-Err-Memory-clause-reacts : goal.returns-in-Err-Memory-clause-reacts
returns-in-Err-Memory-clause-reacts g c =
    reacts _ _ _ _ _ _ _ (events.RightsRead c.args.text.now (Failed 507)) _ refl (refl, refl) c.no_memory.ensures c.encode-in-Err-Memory.ensures

pub returns-in-Ok-reason_of : goal.returns-in-Ok-reason_of
returns-in-Ok-reason_of g c =
    let text = c.args.text.now in
    let none : HasNoRules text = search rules in
    record {
      rules = refl;
      loans = refl;
      reacts = reacts _ _ _ _ _ _ _ (events.RightsRead text (Refused c.deref.result.now)) _ refl (none, refl) refl c.encode-in-Ok-reason_of.ensures;
      log = λ empty. empty;
    }

pub returns-in-Err-reason_of : goal.returns-in-Err-reason_of
returns-in-Err-reason_of g c =
    record {
      rules = refl;
      loans = refl;
      reacts = reacts _ _ _ _ _ _ _ (events.RightsRead c.args.text.now (Failed 507)) _ refl (refl, refl) c.no_memory-in-Err-reason_of.ensures c.encode-in-Err-reason_of.ensures;
      log = λ empty. empty;
    }
