use Rattle.std.proofs.Common.{◌≤◌, length, arith}
use Rattle.dav_blocks.specs.Blocks.{is_safe}
use Rattle.dav_data.proofs.Adding.{right-kept}
use Rattle.dav_data.proofs.Bodies.{sound-body, body-bytes}
use Rattle.dav_data.proofs.Places.{synced-below}
use Rattle.dav_data.proofs.data_file.DataFile.show_synced.Goals as goal

pub returns-clause-bytes : goal.returns-clause-bytes
returns-clause-bytes g c = λ left leaves body synced. body-bytes _ _ _ (λ at n safe. c.synced.ensures.survives left leaves at n safe) body synced

pub returns-clause-digests : goal.returns-clause-digests
returns-clause-digests g c = λ left leaves body synced right.
    let safe = is_safe c.args.self.now.file in
    right-kept _ _ _ safe (λ at n is. c.synced.ensures.survives left leaves at n is) body (sound-body safe body synced) right

pub returns-clause-ends : goal.returns-clause-ends
returns-clause-ends g c = λ left leaves.
    let within = c.synced.ensures.within left leaves in
    let value = c.synced.ensures.value in
    let longer : c.args.self.now.file.synced ≤ length left = omega arith in
    synced-below c.args.self.now (length left) longer
