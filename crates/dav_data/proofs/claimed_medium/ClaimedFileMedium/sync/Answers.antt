use Rattle.std.proofs.Common.{◌∙◌}
use Rattle.std.proofs.lemmas.Bool.{and_parts}
use Rattle.dav_blocks.proofs.Keeping.{if-ok}
use Rattle.dav_data.specs.Data.{is_held}
use Rattle.dav_data.specs.Claimed.{meets_claim}
use Rattle.dav_data.proofs.Claims.{keeps-synced, synced-safe}
use Rattle.dav_data.proofs.claimed_medium.ClaimedFileMedium.sync.Goals as goal

pub invariant_of-self : goal.invariant_of-self
invariant_of-self g c = record { keyed = λ up. c.sync_bodies.ensures.key ∙ c.args.self.now.keyed up }

pub returns-clause-safe : goal.returns-clause-safe
returns-clause-safe g c =
    let it = c.args.self.now in
    if-ok c.sync_bodies.result
    (λ synced body kept.
    let both = and_parts (is_held it.file body) (meets_claim it body) kept in
    synced-safe g.C.Claim.holds g.C.Claim.key it.file c.sync_bodies.new.self c.sync_bodies.ensures.contents body (synced body both.0) both.1)
    c.sync_bodies.ensures.synced

pub returns-clause-kept : goal.returns-clause-kept
returns-clause-kept g c = keeps-synced _ _ c.sync_bodies.ensures.kept c.sync_bodies.ensures.contents
