use Rattle.std.proofs.Common.{◌≡◌, length, ap, subst, arith}
use Rattle.dav_blocks.specs.Blocks as blocks
use Rattle.dav_data.proofs.Causes.{read-fails}
use Rattle.dav_data.proofs.data_file.DataFile.read_block.Goals as goal

pub returns-in-Err-clause-cause : goal.returns-in-Err-clause-cause
returns-in-Err-clause-cause g c = λ used.
    let size : length c.deref_mut.result.now ≡ c.args.block.size =
    let view = ap length c.deref_mut.ensures.value in let len = c.deref_mut.ensures.len in let count = c.in_ok-bytes.ensures.len in let small = c.in_ok-bytes.bytes.ok in omega arith in
    read-fails _ _ _ c.args.block.at c.args.block.size c.in-Err.error _ c.failure.ensures.value used
    (subst (λ n. blocks.HasReadCause c.args.block.at n c.in-Err.error c.args.self.now.file c.read.new.self) size c.in-Err.ensures.err)
