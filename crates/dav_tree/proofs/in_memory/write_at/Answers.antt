use Rattle.std.proofs.Common.{arith}
use Rattle.dav_tree.proofs.WrittenBytes.{written-lengthened}
use Rattle.dav_tree.proofs.in_memory.write_at.Goals as goal

pub returns-clause-ok : goal.returns-clause-ok
returns-clause-ok c = written-lengthened _ _ _ _ c.args.place (λ none. grind (arith, c.is_empty.ensures, none, c.if-is_empty.false)) c.in_ok-lengthen.ensures.ok c.overwrite.ensures
