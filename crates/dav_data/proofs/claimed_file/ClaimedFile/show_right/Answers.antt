use Rattle.std.proofs.Common.{◌≡◌, true, subst}
use Rattle.std.proofs.lemmas.Bool.{and_parts}
use Rattle.dav_data.specs.Digests.{are_right}
use Rattle.dav_data.specs.Data.{is_held, is_synced}
use Rattle.dav_data.specs.Claimed.{contents_of, meets_claim}
use Rattle.dav_data.proofs.Claims.{claim-to, claim-digests}
use Rattle.dav_data.proofs.claimed_file.ClaimedFile.show_right.Goals as goal

pub returns-clause-held : goal.returns-clause-held
returns-clause-held g c = λ up body kept.
    let it = c.args.self.now in
    claim-to g.C.Claim.holds (are_right g.C.Claim.key (contents_of it) body) up (and_parts (is_held it.file body) (meets_claim it body) kept).1

pub returns-clause-left : goal.returns-clause-left
returns-clause-left g c = λ up left may body safe.
    let it = c.args.self.now in
    let both = and_parts (is_synced it.file body) (meets_claim it body) safe in
    let right = claim-digests g.C.Claim.holds g.C.Claim.key it.file body it.keyed up both.1 in
    subst (λ key. are_right key left body ≡ true) (it.keyed up) (c.show_synced.ensures.digests left may body both.0 right)
