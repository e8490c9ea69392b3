use Rattle.std.proofs.Common.{is_ok}
use Rattle.dav_guarding.proofs.Allowing.{allowed-pushed, allowed-appended}
use Rattle.dav_guarding.proofs.guard.Guard.keep_listing.Goals as goal

pub invariant_of-self-2 : goal.invariant_of-self-2
invariant_of-self-2 g c = record {
  allowed = allowed-appended (g.P.Policy.refusals c.args.self.now.policy) (is_ok c.append.result) c.push.new.self.items c.append.new.self.items c.args.unseen.items c.append.ensures.items
      (allowed-pushed (g.P.Policy.refusals c.args.self.now.policy) (is_ok c.push.result) c.args.self.now.records.items c.reserve.new.self.items c.push.new.self.items c.args.call c.reserve.ensures.items c.push.ensures.items c.args.self.now.allowed c.requires.listing) c.requires.unseen;
}
