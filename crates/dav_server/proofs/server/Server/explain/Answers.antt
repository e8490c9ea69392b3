use Rattle.std.proofs.Common.{refl, ap, ◌∙◌}
use Rattle.dav_resource.specs.Errors.{dav_status}
use Rattle.dav_wire.specs.Replies.{Explained, Failed}
use Rattle.dav_wire.specs.Views.{explain_frame_of, explained_frame_of}
use Rattle.dav_server.specs.Events as events
use Rattle.dav_server.proofs.Reactions.{reacts}
use Rattle.dav_server.proofs.RightsReplies.{explains_nothing, explains_at, explains_without_memory}
use Rattle.dav_server.proofs.server.Server.explain.Goals as goal

pub returns-in-Err : goal.returns-in-Err
returns-in-Err g c =
    let asked = explain_frame_of c.args.asked in
    let e = c.in-Err.error in
    record {
      reacts = reacts _ _ _ _ _ _ _ (events.RightsExplained asked (Failed (dav_status e))) _ refl
          (refl, explains_nothing _ _ asked e (rw c.prefix.ensures at (c.in-Err.ensures {u = tt})))
          (c.failed.ensures ∙ ap Failed c.statuscode.ensures) c.encode.ensures;
    }

pub returns-in-Ok-of : goal.returns-in-Ok-of
returns-in-Ok-of g c =
    let asked = explain_frame_of c.args.asked in
    let value = explained_frame_of c.explained.result in
    record {
      reacts = reacts _ _ _ _ _ _ _ (events.RightsExplained asked (Explained value)) _ refl
          (refl, explains_at _ _ asked c.in-Ok.path _ value (rw c.prefix.ensures at (c.in-Ok.ensures {u = tt})) (rw c.as_ref.ensures.value at (c.in-Ok-of.ensures {u = tt})) (rw c.key.ensures.value at c.explained.ensures))
          refl c.encode-in-Ok-of.ensures;
    }

pub returns : goal.returns
returns g c =
    let asked = explain_frame_of c.args.asked in
    record {
      reacts = reacts _ _ _ _ _ _ _ (events.RightsExplained asked (Failed 507)) _ refl
          (refl, explains_without_memory _ _ asked c.in-Ok.path (rw c.prefix.ensures at (c.in-Ok.ensures {u = tt})))
          c.no_memory.ensures c.encode-in-Err-of.ensures;
    }
