use Rattle.std.proofs.Common.{refl}
use Rattle.dav_tree.proofs.Rows.{file_there}
use Rattle.dav_tree.proofs.Places.{at-key}
use Rattle.dav_tree.proofs.Effects.{over-ok, memory-same}
use Rattle.dav_tree.proofs.tree_fs.TreeFs.check_file.Goals as goal

pub returns-clause-answer : goal.returns-clause-answer
returns-clause-answer g c =
    let e = c.args.self.now.entries in
    let found = c.in_ok-find_file.ensures.found in
    let at = at-key e e refl c.args.file.now.path.key _ c.key.ensures.value _ _ found.at in
    over-ok _ _ _ _ _ _ (file_there e.resources c.args.file.now.path.key found.stored at.there found.file) (memory-same _ _ _ _ _ _ _ c.find_file.ensures.same)
