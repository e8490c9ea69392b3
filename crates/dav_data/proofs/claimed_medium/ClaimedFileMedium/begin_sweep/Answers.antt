use Rattle.std.proofs.Common.{◌∙◌}
use Rattle.dav_data.proofs.Claims.{keeps-claimed}
use Rattle.dav_data.proofs.claimed_medium.ClaimedFileMedium.begin_sweep.Goals as goal

pub invariant_of-self : goal.invariant_of-self
invariant_of-self g c = record { keyed = λ up. c.begin.ensures.kept.key ∙ c.args.self.now.keyed up }

pub returns : goal.returns
returns g c = keeps-claimed _ _ c.begin.ensures.kept
