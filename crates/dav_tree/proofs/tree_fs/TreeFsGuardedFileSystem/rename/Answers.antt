use Rattle.std.proofs.Common.{ap, map}
use Rattle.std.specs.FinMap.{get}
use Rattle.dav_key.specs.Key.{parent}
use Rattle.dav_resource.specs.PathText.{PathValue}
use Rattle.dav_tree.specs.TreeFs.{memory_of}
use Rattle.dav_store.specs.Transfers.{rename_call, IsRenamedTo}
use Rattle.dav_tree.specs.Memory.{tree_of, contents_of, IsRenamedAndMarked}
use Rattle.dav_tree.specs.MemoryCalls.{rename_error}
use Rattle.dav_tree.proofs.Answering.{answers-call, any_ok, lawful-bar, lawful-mark, mark-none, rename_row, facts-renamed, renames-marked}
use Rattle.dav_tree.proofs.tree_fs.TreeFsGuardedFileSystem.rename.Goals as goal

pub returns-clause-seen : goal.returns-clause-seen
returns-clause-seen g c =
    let m = memory_of c.args.self.now in
    (answers-call (rename_call (contents_of m) c.args.from.now.key c.args.to.now.key) c.in_ok-paths.paths (λ _. IsRenamedTo c.args.from.now.key c.args.to.now.key) (rename_error c.args.from.now.key c.args.to.now.key) (IsRenamedAndMarked c.args.from.now.key c.args.to.now.key)
    m (memory_of c.begin_record_of_two.new.self) (memory_of c.move_all-answer.new.self) (memory_of c.end_record.new.self)
    c.args.self.now.log.items c.begin_record_of_two.new.self.log.items c.move_all-answer.new.self.log.items c.end_record.new.self.log.items
    c.move_all-answer.result c.end_record.result (λ _. Unit {0})
    c.end_record.ensures.answer c.in_ok-paths.ensures.memory c.end_record.ensures.memory c.in_ok-paths.ensures.log (ap (λ v. v.items) c.move_all-answer.ensures.log) (ap (map (λ (p : PathValue). p.key)) c.in_ok-paths.ensures.paths)
    c.move_all-answer.ensures.renamed c.end_record.ensures.record
    (mark-none 2 (rename_call (contents_of m) c.args.from.now.key c.args.to.now.key).bar m) (λ e. lawful-mark 2 (rename_call (contents_of m) c.args.from.now.key c.args.to.now.key).bar (rename_call (contents_of m) c.args.from.now.key c.args.to.now.key).bar m e (λ free. free) (lawful-bar (rename_call (contents_of m) c.args.from.now.key c.args.to.now.key).bar e (rename_row c.args.from.now.key c.args.to.now.key (get (tree_of m.resources) c.args.from.now.key) (get (tree_of m.resources) c.args.to.now.key) (get (tree_of m.resources) (parent c.args.to.now.key)))))
    (facts-renamed c.args.from.now.key c.args.to.now.key m _) (any_ok c.move_all-answer.result) (λ a says none is. renames-marked c.args.from.now.key c.args.to.now.key m _ is))
