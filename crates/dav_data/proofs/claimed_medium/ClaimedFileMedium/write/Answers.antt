use Rattle.std.proofs.Common.{◌∙◌}
use Rattle.std.proofs.lemmas.Bool.{and_parts}
use Rattle.dav_data.specs.Data.{is_held}
use Rattle.dav_data.specs.Claimed.{meets_claim}
use Rattle.dav_data.proofs.Claims.{keeps-claimed, written-kept}
use Rattle.dav_data.proofs.claimed_medium.ClaimedFileMedium.write.Goals as goal

pub write-requires-clause-held : goal.write-requires-clause-held
write-requires-clause-held g c = (and_parts (is_held c.args.self.now.file c.args.body.now) (meets_claim c.args.self.now c.args.body.now) c.requires.held).0

pub invariant_of-self : goal.invariant_of-self
invariant_of-self g c = record { keyed = λ up. c.write.ensures.all.key ∙ c.args.self.now.keyed up }

pub returns-clause-held : goal.returns-clause-held
returns-clause-held g c =
    let write = c.write.ensures in
    written-kept g.C.Claim.holds g.C.Claim.key c.write.result c.args.self.now.file c.write.new.self c.args.self.now.keyed write.all c.args.body.now c.write.new.body c.requires.held write.held write.digests write.still

pub returns-clause-kept : goal.returns-clause-kept
returns-clause-kept g c = keeps-claimed _ _ c.write.ensures.all
