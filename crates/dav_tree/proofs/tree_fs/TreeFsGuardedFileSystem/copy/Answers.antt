use Rattle.std.proofs.Common.{◌≡◌, ◌∙◌, ap, map}
use Rattle.std.specs.FinMap.{get}
use Rattle.dav_key.specs.Key.{parent}
use Rattle.dav_resource.specs.PathText.{PathValue}
use Rattle.dav_tree.specs.TreeFs.{memory_of}
use Rattle.dav_store.specs.Transfers.{copy_call, IsCopiedTo}
use Rattle.dav_tree.specs.Memory.{tree_of, contents_of, copied_into, facts_of}
use Rattle.dav_tree.specs.MemoryCalls.{copy_error}
use Rattle.dav_tree.proofs.Answering.{answers-over, any_ok, copying-none, copying-law, copy_row, facts-copied, copies-into}
use Rattle.dav_tree.proofs.tree_fs.TreeFsGuardedFileSystem.copy.Goals as goal

pub returns-clause-seen : goal.returns-clause-seen
returns-clause-seen g c =
    let m = memory_of c.args.self.now in
    (answers-over g.M.Medium.refuses g.met.M.Medium.own (copy_call (contents_of m) c.args.from.now.key c.args.to.now.key) c.in_ok-paths.paths (λ _. IsCopiedTo c.args.from.now.key c.args.to.now.key) (copy_error c.args.from.now.key c.args.to.now.key) (λ old new. new ≡ copied_into c.args.from.now.key c.args.to.now.key old)
    m (memory_of c.begin_record_of_two.new.self) (memory_of c.copy_file-answer.new.self) (memory_of c.end_record.new.self)
    c.args.self.now.log.items c.begin_record_of_two.new.self.log.items c.copy_file-answer.new.self.log.items c.end_record.new.self.log.items
    c.copy_file-answer.result c.end_record.result (λ _. Unit {0})
    c.end_record.ensures.answer c.in_ok-paths.ensures.memory c.end_record.ensures.memory c.in_ok-paths.ensures.log (ap (λ v. v.items) c.copy_file-answer.ensures.log) (ap (map (λ (p : PathValue). p.key)) c.in_ok-paths.ensures.paths)
    c.copy_file-answer.ensures.copied c.end_record.ensures.record
    (copying-none (get m.resources c.args.to.now.key) (copy_call (contents_of m) c.args.from.now.key c.args.to.now.key).bar m) (λ e. copying-law (get m.resources c.args.to.now.key) (copy_call (contents_of m) c.args.from.now.key c.args.to.now.key).bar m e (copy_row (get (tree_of m.resources) c.args.from.now.key) (get (tree_of m.resources) c.args.to.now.key) (get (tree_of m.resources) (parent c.args.to.now.key))))
    (λ is. ap facts_of is ∙ facts-copied c.args.from.now.key c.args.to.now.key m) (any_ok c.copy_file-answer.result) (λ a says none is. copies-into c.args.from.now.key c.args.to.now.key m _ none is))
