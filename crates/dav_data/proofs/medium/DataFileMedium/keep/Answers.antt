use Rattle.dav_data.proofs.Keeping.{keeps-bodies}
use Rattle.dav_data.proofs.medium.DataFileMedium.keep.Goals as goal

pub returns-clause-kept : goal.returns-clause-kept
returns-clause-kept g c = keeps-bodies _ _ c.mark.ensures.kept
