use Rattle.std.proofs.lemmas.Bool.{and_parts}
use Rattle.dav_data.specs.Data.{is_held}
use Rattle.dav_data.specs.Claimed.{meets_claim}
use Rattle.dav_data.proofs.Claims.{copied}
use Rattle.dav_data.proofs.claimed_medium.ClaimedFileMedium.copy.Goals as goal

pub copy-requires : goal.copy-requires
copy-requires g c = (and_parts (is_held c.args.self.now.file c.args.body.now) (meets_claim c.args.self.now c.args.body.now) c.requires).0

pub returns-clause-ok : goal.returns-clause-ok
returns-clause-ok g c = copied c.args.self.now c.args.body.now c.copy.result c.requires c.copy.ensures.pieces
