use Rattle.std.proofs.Common.{refl}
use Rattle.dav_server.specs.Events as events
use Rattle.dav_server.proofs.Reactions.{reacts}
use Rattle.dav_server.proofs.server.Server.drop_body.Goals as goal

pub returns-clause-reacts : goal.returns-clause-reacts
returns-clause-reacts g c = reacts _ _ _ _ _ _ _ (events.BodyDropped c.args.number) _ refl (rw c.drop_body.ensures.inner refl) refl c.encode.ensures
