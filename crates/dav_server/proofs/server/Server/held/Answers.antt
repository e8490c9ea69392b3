use Rattle.std.proofs.Common.{refl, ap}
use Rattle.dav_server.specs.Events as events
use Rattle.dav_server.specs.Replies.{reply_with}
use Rattle.dav_server.specs.State.{state_of, with_store}
use Rattle.dav_server.proofs.Reactions.{reacts, held, quota_keeps}
use Rattle.dav_server.proofs.server.Server.held.Goals as goal

pub returns-clause-reacts : goal.returns-clause-reacts
returns-clause-reacts g c =
    let state = state_of g.F.GuardedFileSystem.seen g.L.DavLockSystem.seen c.args.self.now in
    reacts _ _ _ _ _ _ _ (events.HeldReturned (reply_with c.lock_count.result c.get_quota-quota.result)) _ refl
    (rw c.clear_log.ensures.inner (ap (with_store state) (quota_keeps _ _ _ c.get_quota-quota.ensures.seen)), held state _ _ _ _ c.lock_count.ensures c.get_quota-quota.ensures.seen refl)
    c.held_reply-reply.ensures c.encode.ensures
