use Rattle.std.proofs.Common.{◌≡◌, length, arith}
use Rattle.dav_blocks.specs.Blocks.{data_of}
use Rattle.dav_blocks.proofs.Keeping.{read-run, if-ok}
use Rattle.dav_blocks.proofs.block_file.BlockFile.read.Goals as goal

pub returns-clause-bytes : goal.returns-clause-bytes
returns-clause-bytes g c =
    let long : length c.args.buf.now ≡ length c.read_at.new.buf = omega arith in
    if-ok c.read_at.result (λ holds honest. read-run (data_of c.args.self.now) c.read_at.new.buf c.args.at (length c.args.buf.now) long (holds honest)) c.read_at.ensures.read
