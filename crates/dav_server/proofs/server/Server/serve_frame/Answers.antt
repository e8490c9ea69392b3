use Rattle.std.proofs.Common.{refl, sym}
use Rattle.dav_server.specs.Events as events
use Rattle.dav_server.proofs.Reactions.{reacts}
use Rattle.dav_server.proofs.server.Server.serve_frame.Goals as goal

pub returns-in-Ok-clause-served : goal.returns-in-Ok-clause-served
returns-in-Ok-clause-served g c =
    rw (c.in-Ok.ensures {u = tt}, ← c.remove_expired.ensures.rules, ← c.remove_expired.ensures.expired) c.react.ensures.reacts

pub returns-in-Err-Malformed-clause-served : goal.returns-in-Err-Malformed-clause-served
returns-in-Err-Malformed-clause-served g c =
    let unread = rw c.in-Err-Malformed.field-0-is at (c.in-Err-Malformed.ensures {u = tt}) in
    reacts _ _ _ _ _ _ _ events.Malformed _ (sym unread) c.remove_expired.ensures.expired c.failed.ensures c.encode.ensures

pub returns-in-Err-Memory-clause-served : goal.returns-in-Err-Memory-clause-served
returns-in-Err-Memory-clause-served g c =
    reacts _ _ _ _ _ _ _ (events.OutOfMemory _) _ refl c.remove_expired.ensures.expired refl tt
