use Rattle.std.proofs.lemmas.Bool.Decides.{same_from_decides}
use Rattle.dav_key.specs.Key.{is_same_key, same_key_decides}
use Rattle.dav_store.proofs.lock.DavLock.covers.Goals as goal

pub returns-else-self : goal.returns-else-self
returns-else-self c =
    let asked = c.args.path.now.key in
    let own = c.args.self.now.path.key in
    rw c.if-self.false (same_from_decides c.same_key.result (is_same_key asked own) c.same_key.ensures (same_key_decides asked own))
