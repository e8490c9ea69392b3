use Rattle.dav_data.proofs.Keeping.{keeps-bodies}
use Rattle.dav_data.proofs.medium.DataFileMedium.begin_sweep.Goals as goal

pub returns-clause-kept : goal.returns-clause-kept
returns-clause-kept g c = keeps-bodies _ _ c.begin.ensures.kept
