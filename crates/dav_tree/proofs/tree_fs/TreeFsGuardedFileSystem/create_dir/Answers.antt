use Rattle.std.proofs.Common.{◌≡◌, ◌∙◌, ap, map}
use Rattle.std.specs.FinMap.{get}
use Rattle.dav_key.specs.Key.{parent}
use Rattle.dav_resource.specs.PathText.{PathValue}
use Rattle.dav_tree.specs.TreeFs.{memory_of}
use Rattle.dav_store.specs.Store.{Directory}
use Rattle.dav_store.specs.Calls.{create_dir_call, IsMadeAt}
use Rattle.dav_tree.specs.Memory.{tree_of, contents_of, made, added, facts_of}
use Rattle.dav_tree.specs.MarkingLaws.{marked-facts}
use Rattle.dav_tree.specs.MemoryCalls.{create_dir_error}
use Rattle.dav_tree.proofs.Answering.{answers-call, any_ok, member-none, lawful-member, create_dir_row, adds}
use Rattle.dav_tree.proofs.tree_fs.TreeFsGuardedFileSystem.create_dir.Goals as goal

pub returns-clause-seen : goal.returns-clause-seen
returns-clause-seen g c =
    let m = memory_of c.args.self.now in
    (answers-call (create_dir_call (contents_of m) c.args.path.now.key) c.in_ok-paths.paths (λ _. IsMadeAt c.args.path.now.key) (create_dir_error c.args.path.now.key) (λ old new. new ≡ added c.args.path.now.key Directory old)
    m (memory_of c.begin_record.new.self) (memory_of c.make_directory-answer.new.self) (memory_of c.end_record.new.self)
    c.args.self.now.log.items c.begin_record.new.self.log.items c.make_directory-answer.new.self.log.items c.end_record.new.self.log.items
    c.make_directory-answer.result c.end_record.result (λ _. Unit {0})
    c.end_record.ensures.answer c.in_ok-paths.ensures.memory c.end_record.ensures.memory c.in_ok-paths.ensures.log (ap (λ v. v.items) c.make_directory-answer.ensures.log) (ap (map (λ (p : PathValue). p.key)) c.in_ok-paths.ensures.paths)
    c.make_directory-answer.ensures.made c.end_record.ensures.record
    (member-none (create_dir_call (contents_of m) c.args.path.now.key).bar m) (λ e. lawful-member (create_dir_call (contents_of m) c.args.path.now.key).bar m e (create_dir_row (get (tree_of m.resources) c.args.path.now.key) (get (tree_of m.resources) (parent c.args.path.now.key))))
    (λ is. ap facts_of is ∙ marked-facts (parent c.args.path.now.key) (made c.args.path.now.key Directory m)) (any_ok c.make_directory-answer.result) (λ a says none is. adds c.args.path.now.key m _ (member-none (create_dir_call (contents_of m) c.args.path.now.key).bar m none) is))
