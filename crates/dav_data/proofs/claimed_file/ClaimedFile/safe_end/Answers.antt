use Rattle.std.proofs.lemmas.Bool.{and_parts}
use Rattle.dav_data.specs.Data.{is_synced}
use Rattle.dav_data.specs.Claimed.{meets_claim}
use Rattle.dav_data.proofs.claimed_file.ClaimedFile.safe_end.Goals as goal

pub returns-clause-below : goal.returns-clause-below
returns-clause-below g c = λ body safe. c.safe_end.ensures.below body (and_parts (is_synced c.args.self.now.file body) (meets_claim c.args.self.now body) safe).0
