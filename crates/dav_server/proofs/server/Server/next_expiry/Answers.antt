use Rattle.std.proofs.Common.{refl}
use Rattle.dav_server.specs.Events as events
use Rattle.dav_server.proofs.Reactions.{reacts}
use Rattle.dav_server.proofs.server.Server.next_expiry.Goals as goal

pub returns : goal.returns
returns g c = record { reacts = reacts _ _ _ _ _ _ _ (events.ExpiryReturned c.earliest.result) _ refl (refl, c.earliest.ensures) refl c.encode.ensures }
