use Rattle.std.proofs.Common.{is_ok}
use Rattle.dav_guarding.proofs.Allowing.{allowed-pushed, allowed-other}
use Rattle.dav_guarding.proofs.guard.Guard.begin.Goals as goal

pub invariant_of-self-then-refuses : goal.invariant_of-self-then-refuses
invariant_of-self-then-refuses g c = record {
  allowed = allowed-pushed (g.P.Policy.refusals c.args.self.now.policy) (is_ok c.push.result) c.args.self.now.records.items c.reserve.new.self.items c.push.new.self.items _ c.reserve.ensures.items c.push.ensures.items c.args.self.now.allowed (allowed-other _ _ (λ reveals. reveals));
}
