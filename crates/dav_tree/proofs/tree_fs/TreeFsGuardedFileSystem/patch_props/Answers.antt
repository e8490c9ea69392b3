use Rattle.std.proofs.Common.{◌∙◌, ap, map}
use Rattle.dav_resource.specs.PathText.{PathValue}
use Rattle.dav_tree.specs.TreeFs.{memory_of}
use Rattle.dav_tree.proofs.Answering.{patches-call}
use Rattle.dav_tree.proofs.tree_fs.TreeFsGuardedFileSystem.patch_props.Goals as goal

pub returns-clause-seen : goal.returns-clause-seen
returns-clause-seen g c =
    patches-call c.args.path.now.key c.args.patches.now c.in_ok-paths.paths
    (memory_of c.args.self.now) (memory_of c.begin_record.new.self) (memory_of c.patch-answer.new.self) (memory_of c.end_record_with.new.self)
    c.args.self.now.log.items c.begin_record.new.self.log.items c.patch-answer.new.self.log.items c.end_record_with.new.self.log.items
    c.from_vec-statuses.result c.patch-answer.result c.end_record_with.result
    c.end_record_with.ensures.answer c.in_ok-paths.ensures.memory c.end_record_with.ensures.memory c.in_ok-paths.ensures.log (ap (λ v. v.items) c.patch-answer.ensures.log) (ap (map (λ (p : PathValue). p.key)) c.in_ok-paths.ensures.paths)
    c.patch-answer.ensures.patched c.end_record_with.ensures.record c.patch-answer.ensures.statuses (c.from_vec-statuses.ensures ∙ c.in_ok-all_ok.ensures)
