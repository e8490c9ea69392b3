use Rattle.std.proofs.Common.{map}
use Rattle.dav_store.specs.Logged.{logged_of}
use Rattle.dav_tree.proofs.Starting.{starts-body}
use Rattle.dav_tree.proofs.tree_fs.TreeFsGuardedFileSystem.start_body.Goals as goal

pub returns-clause-seen : goal.returns-clause-seen
returns-clause-seen g c =
    let s = c.args.self.now in
    starts-body s.version s.moment s.limit s.tag_part s.marks_parents (map logged_of s.log.items) s.entries c.start_body.new.self c.start_body.result c.start_body.ensures.number c.start_body.ensures.free c.start_body.ensures.ok c.start_body.ensures.same c.start_body.ensures.err
