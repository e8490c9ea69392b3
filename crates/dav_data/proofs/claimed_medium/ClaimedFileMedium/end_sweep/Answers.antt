use Rattle.std.proofs.Common.{◌∙◌}
use Rattle.dav_data.proofs.Claims.{keeps-marked}
use Rattle.dav_data.proofs.claimed_medium.ClaimedFileMedium.end_sweep.Goals as goal

pub invariant_of-self : goal.invariant_of-self
invariant_of-self g c = record { keyed = λ up. c.end.ensures.disk.key ∙ c.args.self.now.keyed up }

pub returns : goal.returns
returns g c = let end = c.end.ensures in keeps-marked _ _ end.held end.same end.synced end.digests
