use Rattle.std.proofs.Common.{◌∙◌, ap, is_some}
use Rattle.dav_tree.specs.TreeFs.{memory_of}
use Rattle.dav_tree.proofs.Marking.{copy-next, copy-member}
use Rattle.dav_tree.proofs.tree_fs.TreeFs.copy_version.Goals as goal

pub returns-in-Some : goal.returns-in-Some
returns-in-Some g c = λ there some. copy-next there (memory_of c.args.self.now) _ (some ∙ ap is_some c.in-Some.is) c.next_version.ensures

pub returns-in-None : goal.returns-in-None
returns-in-None g c = λ there none. copy-member there (memory_of c.args.self.now) _ (none ∙ ap is_some c.in-None.is) c.member_version.ensures
