use Rattle.std.proofs.Common.{◌∙◌}
use Rattle.std.proofs.lemmas.Bool.{and_parts, and_from}
use Rattle.dav_data.specs.Data.{is_held}
use Rattle.dav_data.specs.Claimed.{meets_claim}
use Rattle.dav_data.proofs.Claims.{keeps-claimed, kept-still, marked-still}
use Rattle.dav_data.proofs.claimed_medium.ClaimedFileMedium.keep.Goals as goal

pub invariant_of-self : goal.invariant_of-self
invariant_of-self g c = record { keyed = λ up. c.mark.ensures.kept.key ∙ c.args.self.now.keyed up }

pub returns-clause-marked : goal.returns-clause-marked
returns-clause-marked g c = λ kept.
    let it = c.args.self.now in let body = c.args.body.now in
    let was = and_parts (is_held it.file body) (meets_claim it body) kept in
    let still = kept-still g.C.Claim.holds g.C.Claim.key it.file c.mark.new.self c.mark.ensures.kept body kept in
    and_from _ _ (c.mark.ensures.marked was.0) (and_parts (is_held c.mark.new.self body) _ still).1

pub returns-clause-marks : goal.returns-clause-marks
returns-clause-marks g c = λ body. marked-still g.C.Claim.holds g.C.Claim.key c.args.self.now.file c.mark.new.self c.mark.ensures.kept body (c.mark.ensures.marks body)

pub returns-clause-kept : goal.returns-clause-kept
returns-clause-kept g c = keeps-claimed _ _ c.mark.ensures.kept
