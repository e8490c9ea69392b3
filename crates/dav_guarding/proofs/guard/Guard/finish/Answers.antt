use Rattle.std.proofs.Common.{is_ok, refl}
use Rattle.dav_guarding.proofs.Allowing.{allowed-pushed}
use Rattle.dav_guarding.proofs.guard.Guard.finish.Goals as goal

pub invariant_of-self : goal.invariant_of-self
invariant_of-self g c = record {
  allowed = allowed-pushed (g.P.Policy.refusals c.args.self.now.policy) (is_ok c.push.result) c.args.self.now.records.items c.args.self.now.records.items c.push.new.self.items c.args.call refl c.push.ensures.items c.args.self.now.allowed c.requires.allowed;
}
