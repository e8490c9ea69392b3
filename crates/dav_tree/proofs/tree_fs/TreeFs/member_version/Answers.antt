use Rattle.std.proofs.Common.{◌∙◌, sym}
use Rattle.dav_tree.specs.TreeFs.{memory_of}
use Rattle.dav_tree.proofs.Marking.{member-full, member-version}
use Rattle.dav_tree.proofs.tree_fs.TreeFs.member_version.Goals as goal

pub returns-then-not-has_room : goal.returns-then-not-has_room
returns-then-not-has_room g c = member-full (memory_of c.args.self.now) (sym c.has_room.ensures ∙ c.if-not-has_room.true)

pub returns : goal.returns
returns g c = member-version (memory_of c.args.self.now) _ (sym c.has_room.ensures ∙ c.if-not-has_room.false) c.next_version.ensures
