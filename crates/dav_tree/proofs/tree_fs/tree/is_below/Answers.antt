use Rattle.dav_tree.proofs.Below.{below_test}
use Rattle.dav_tree.proofs.tree_fs.tree.is_below.Goals as goal

pub returns-then-is_at_or_below : goal.returns-then-is_at_or_below
returns-then-is_at_or_below c = below_test c.is_at_or_below.result c.same_key.result c.args.path.now.key c.args.other.now.key c.if-is_at_or_below.true c.is_at_or_below.ensures c.same_key.ensures
