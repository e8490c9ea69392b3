use Rattle.std.proofs.Common.{arith}
use Rattle.dav_data.proofs.Places.{synced-below, synced-place}
use Rattle.dav_data.proofs.data_file.DataFile.safe_end.Goals as goal

pub returns-clause-below : goal.returns-clause-below
returns-clause-below g c =
    let value = c.synced.ensures.value in
    synced-below c.args.self.now c.synced.result (omega arith)

pub returns-clause-reached : goal.returns-clause-reached
returns-clause-reached g c =
    let value = c.synced.ensures.value in
    synced-place c.args.self.now c.synced.result (omega arith)
