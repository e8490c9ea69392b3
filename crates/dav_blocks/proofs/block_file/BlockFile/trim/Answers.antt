use Rattle.dav_space.specs.Space.{unused}
use Rattle.dav_blocks.proofs.Keeping.{cut-bytes}
use Rattle.dav_blocks.proofs.block_file.BlockFile.trim.Goals as goal

pub returns-then-is_ok-clause-kept : goal.returns-then-is_ok-clause-kept
returns-then-is_ok-clause-kept g c = record {
  used = λ at n used. used;
  same = λ at n used. cut-bytes (unused c.args.self.now.space) c.args.self.now.end _ _ c.args.self.now.within c.set_len.ensures.others at n used;
  safe = λ at n safe. safe;
}

pub returns-else-is_ok-clause-kept : goal.returns-else-is_ok-clause-kept
returns-else-is_ok-clause-kept g c = record {
  used = λ at n used. used;
  same = λ at n used. cut-bytes (unused c.args.self.now.space) c.args.self.now.end _ _ c.args.self.now.within c.set_len.ensures.others at n used;
  safe = λ at n safe. safe;
}
