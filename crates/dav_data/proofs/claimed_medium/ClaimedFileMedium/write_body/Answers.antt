use Rattle.std.proofs.Common.{◌∙◌}
use Rattle.std.proofs.lemmas.Bool.{and_parts}
use Rattle.dav_data.specs.Data.{is_held}
use Rattle.dav_data.specs.Claimed.{meets_claim}
use Rattle.dav_data.proofs.Claims.{keeps-claimed, joined-kept}
use Rattle.dav_data.proofs.Keeping.{keeps-same}
use Rattle.dav_data.proofs.claimed_medium.ClaimedFileMedium.write_body.Goals as goal

pub write_body-requires-clause-held : goal.write_body-requires-clause-held
write_body-requires-clause-held g c = (and_parts (is_held c.args.self.now.file c.args.body.now) (meets_claim c.args.self.now c.args.body.now) c.requires.held).0

pub write_body-requires-clause-other : goal.write_body-requires-clause-other
write_body-requires-clause-other g c = (and_parts (is_held c.args.self.now.file c.args.from.now) (meets_claim c.args.self.now c.args.from.now) c.requires.other).0

pub invariant_of-self : goal.invariant_of-self
invariant_of-self g c = record { keyed = λ up. (keeps-same c.args.self.now.file c.write_body.new.self c.write_body.ensures.all).key ∙ c.args.self.now.keyed up }

pub returns-clause-held : goal.returns-clause-held
returns-clause-held g c =
    let write = c.write_body.ensures in
    joined-kept g.C.Claim.holds g.C.Claim.key c.write_body.result c.args.self.now.file c.write_body.new.self write.all c.args.body.now c.args.from.now c.write_body.new.body c.requires.held c.requires.other write.held write.sound
    write.still

pub returns-clause-kept : goal.returns-clause-kept
returns-clause-kept g c = keeps-claimed _ _ (keeps-same c.args.self.now.file c.write_body.new.self c.write_body.ensures.all)
