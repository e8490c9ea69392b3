use Rattle.std.proofs.lemmas.Bool.{and_parts}
use Rattle.dav_data.specs.Data.{is_held}
use Rattle.dav_data.specs.Claimed.{meets_claim}
use Rattle.dav_data.proofs.claimed_medium.ClaimedFileMedium.len.Goals as goal

pub len-requires : goal.len-requires
len-requires g c = (and_parts (is_held c.args.self.now.file c.args.body.now) (meets_claim c.args.self.now c.args.body.now) c.requires).0
