use Rattle.std.proofs.Common.{◌≡◌, ◌∙◌, ap, map}
use Rattle.std.specs.FinMap.{get}
use Rattle.dav_key.specs.Key.{parent}
use Rattle.dav_resource.specs.PathText.{PathValue}
use Rattle.dav_tree.specs.TreeFs.{memory_of}
use Rattle.dav_store.specs.Members.{members, remove_dir_call, IsRemovedAt}
use Rattle.dav_tree.specs.Memory.{tree_of, contents_of, without, removed, facts_of}
use Rattle.dav_tree.specs.MarkingLaws.{marked-facts}
use Rattle.dav_tree.specs.MemoryCalls.{remove_dir_error}
use Rattle.dav_tree.proofs.Answering.{answers-call, any_ok, lawful-bar, lawful-mark, mark-none, remove_dir_row, takes}
use Rattle.dav_tree.proofs.tree_fs.TreeFsGuardedFileSystem.remove_dir.Goals as goal

pub returns-clause-seen : goal.returns-clause-seen
returns-clause-seen g c =
    let m = memory_of c.args.self.now in
    (answers-call (remove_dir_call (contents_of m) c.args.path.now.key) c.in_ok-paths.paths (λ _. IsRemovedAt c.args.path.now.key) (remove_dir_error c.args.path.now.key) (λ old new. new ≡ removed c.args.path.now.key old)
    m (memory_of c.begin_record.new.self) (memory_of c.take_directory-answer.new.self) (memory_of c.end_record.new.self)
    c.args.self.now.log.items c.begin_record.new.self.log.items c.take_directory-answer.new.self.log.items c.end_record.new.self.log.items
    c.take_directory-answer.result c.end_record.result (λ _. Unit {0})
    c.end_record.ensures.answer c.in_ok-paths.ensures.memory c.end_record.ensures.memory c.in_ok-paths.ensures.log (ap (λ v. v.items) c.take_directory-answer.ensures.log) (ap (map (λ (p : PathValue). p.key)) c.in_ok-paths.ensures.paths)
    c.take_directory-answer.ensures.removed c.end_record.ensures.record
    (mark-none 1 (remove_dir_call (contents_of m) c.args.path.now.key).bar m) (λ e. lawful-mark 1 (remove_dir_call (contents_of m) c.args.path.now.key).bar (remove_dir_call (contents_of m) c.args.path.now.key).bar m e (λ free. free) (lawful-bar (remove_dir_call (contents_of m) c.args.path.now.key).bar e (remove_dir_row c.args.path.now.key (get (tree_of m.resources) c.args.path.now.key) (members (tree_of m.resources) c.args.path.now.key))))
    (λ is. ap facts_of is ∙ marked-facts (parent c.args.path.now.key) (without c.args.path.now.key m)) (any_ok c.take_directory-answer.result) (λ a says none is. takes c.args.path.now.key m _ is))
