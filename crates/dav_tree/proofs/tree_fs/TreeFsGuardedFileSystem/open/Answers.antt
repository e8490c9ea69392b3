use Rattle.std.proofs.Common.{◌≡◌, ◌∙◌, ap, map}
use Rattle.std.specs.FinMap.{get}
use Rattle.dav_key.specs.Key.{parent}
use Rattle.dav_resource.specs.PathText.{PathValue}
use Rattle.dav_tree.specs.TreeFs.{memory_of}
use Rattle.dav_store.specs.Calls.{open_call, IsOpened}
use Rattle.dav_tree.specs.Memory.{tree_of, contents_of, facts_of}
use Rattle.dav_tree.specs.MemoryCalls.{open_error, opened}
use Rattle.dav_tree.proofs.Answering.{answers-call, opening-none, opening-law, open_row, facts-opened, opens}
use Rattle.dav_tree.proofs.tree_fs.TreeFsGuardedFileSystem.open.Goals as goal

pub returns-clause-seen : goal.returns-clause-seen
returns-clause-seen g c =
    let m = memory_of c.args.self.now in
    (answers-call (open_call (contents_of m) c.args.path.now.key c.args.options.now) c.in_ok-paths.paths (IsOpened c.args.path.now c.args.options.now) (open_error c.args.options.now c.args.path.now.key) (λ old new. new ≡ opened c.args.options.now c.args.path.now.key old)
    m (memory_of c.begin_record.new.self) (memory_of c.open_file-answer.new.self) (memory_of c.end_record.new.self)
    c.args.self.now.log.items c.begin_record.new.self.log.items c.open_file-answer.new.self.log.items c.end_record.new.self.log.items
    c.open_file-answer.result c.end_record.result (λ file. file ≡ record { path = c.args.path.now; pos = 0; append = c.args.options.now.append })
    c.end_record.ensures.answer c.in_ok-paths.ensures.memory c.end_record.ensures.memory c.in_ok-paths.ensures.log (ap (λ v. v.items) c.open_file-answer.ensures.log) (ap (map (λ (p : PathValue). p.key)) c.in_ok-paths.ensures.paths)
    c.open_file-answer.ensures.opened c.end_record.ensures.record
    (opening-none c.args.options.now (get m.resources c.args.path.now.key) (open_call (contents_of m) c.args.path.now.key c.args.options.now).bar m) (λ e. opening-law c.args.options.now (get m.resources c.args.path.now.key) (open_call (contents_of m) c.args.path.now.key c.args.options.now).bar m e (open_row c.args.options.now (get (tree_of m.resources) c.args.path.now.key) (get (tree_of m.resources) (parent c.args.path.now.key))))
    (λ is. ap facts_of is ∙ facts-opened c.args.options.now c.args.path.now.key m (get m.resources c.args.path.now.key)) (c.open_file-answer.ensures.file) (λ a says none is. opens c.args.path.now c.args.options.now a m _ says none is))
