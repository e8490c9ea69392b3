use Rattle.std.proofs.Common.{◌∙◌, subst}
use Rattle.std.specs.Prelude.{IfErr}
use Rattle.std.proofs.lemmas.Bool.{and_parts}
use Rattle.dav_data.specs.Data.{is_held, is_honest, IsUnread}
use Rattle.dav_data.specs.Claimed.{meets_claim}
use Rattle.dav_data.proofs.ClaimedReads.{are-read, fails-with}
use Rattle.dav_data.proofs.Claims.{keeps-claimed, claim-digests}
use Rattle.dav_data.proofs.claimed_medium.ClaimedFileMedium.read.Goals as goal

pub read_checked-requires : goal.read_checked-requires
read_checked-requires g c = (and_parts (is_held c.args.self.now.file c.args.body.now) (meets_claim c.args.self.now c.args.body.now) c.requires).0

pub invariant_of-self : goal.invariant_of-self
invariant_of-self g c = record { keyed = λ up. c.read_checked.ensures.kept.key ∙ c.args.self.now.keyed up }

pub returns-clause-bytes : goal.returns-clause-bytes
returns-clause-bytes g c =
    are-read c.args.self.now c.args.body.now c.requires c.args.place c.args.count (is_honest c.read_checked.new.self) c.read_checked.result c.read_checked.ensures.bytes c.read_checked.ensures.right

pub returns-clause-cause : goal.returns-clause-cause
returns-clause-cause g c =
    fails-with c.args.self.now c.args.body.now c.requires c.read_checked.new.self c.read_checked.ensures.kept c.read_checked.result c.read_checked.ensures.cause

pub returns-clause-why : goal.returns-clause-why
returns-clause-why g c = λ up.
    let it = c.args.self.now in let body = c.args.body.now in
    let met = (and_parts (is_held it.file body) (meets_claim it body) c.requires).1 in
    subst (λ passes. IfErr c.read_checked.result (IsUnread passes it.file c.read_checked.new.self)) (claim-digests g.C.Claim.holds g.C.Claim.key it.file body it.keyed up met) c.read_checked.ensures.cause

pub returns-clause-kept : goal.returns-clause-kept
returns-clause-kept g c = keeps-claimed _ _ c.read_checked.ensures.kept
