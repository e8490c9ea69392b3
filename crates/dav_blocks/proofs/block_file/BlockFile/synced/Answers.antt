use Rattle.std.proofs.Common.{◌+◌, leb}
use Rattle.std.proofs.lemmas.Bool.{and_parts, leb-true}
use Rattle.dav_space.specs.Space.{unused}
use Rattle.dav_blocks.specs.Runs.{are_clear}
use Rattle.dav_blocks.proofs.Keeping.{run-kept}
use Rattle.dav_blocks.proofs.block_file.BlockFile.synced.Goals as goal

pub returns-clause-survives : goal.returns-clause-survives
returns-clause-survives g c = λ left leaves at n safe.
    let it = c.args.self.now in
    let both = and_parts (leb (at + n) it.synced) (are_clear (unused it.at_sync.value) at n) safe in
    run-kept _ _ at n _ _ (it.survives left leaves) (leb-true (at + n) it.synced both.0) both.1
