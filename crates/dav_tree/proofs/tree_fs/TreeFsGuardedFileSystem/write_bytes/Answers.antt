use Rattle.dav_resource.specs.declared.record.Op.TheVariants.{WriteBytes}
use Rattle.std.proofs.Common.{◌≡◌, ap, map}
use Rattle.std.specs.FinMap.{get}
use Rattle.dav_resource.specs.PathText.{PathValue}
use Rattle.dav_tree.specs.TreeFs.{memory_of}
use Rattle.dav_store.specs.Calls.{file_call, IsWritten}
use Rattle.dav_tree.specs.Memory.{tree_of, contents_of, facts_of}
use Rattle.dav_tree.specs.MemoryCalls.{write_error, written}
use Rattle.dav_tree.proofs.Answering.{answers-over, any_ok, change-none, lawful-change, file_row, writes}
use Rattle.dav_tree.proofs.tree_fs.TreeFsGuardedFileSystem.write_bytes.Goals as goal

pub returns-clause-written : goal.returns-clause-written
returns-clause-written g c =
    let m = memory_of c.args.self.now in
    (answers-over g.M.Medium.refuses g.met.M.Medium.own (file_call WriteBytes (contents_of m) c.args.file.now.path.key) c.in_ok-paths.paths (λ _. IsWritten c.args.file.now c.args.bytes.now) (write_error c.args.file.now.path.key) (λ old new. new ≡ written c.args.file.now c.args.bytes.now old)
    m (memory_of c.begin_record.new.self) (memory_of c.write_file-answer.new.self) (memory_of c.end_record.new.self)
    c.args.self.now.log.items c.begin_record.new.self.log.items c.write_file-answer.new.self.log.items c.end_record.new.self.log.items
    c.write_file-answer.result c.end_record.result (λ _. Unit {0})
    c.end_record.ensures.answer c.in_ok-paths.ensures.memory c.end_record.ensures.memory c.in_ok-paths.ensures.log (ap (λ v. v.items) c.write_file-answer.ensures.log) (ap (map (λ (p : PathValue). p.key)) c.in_ok-paths.ensures.paths)
    c.write_file-answer.ensures.written c.end_record.ensures.record
    (change-none (file_call WriteBytes (contents_of m) c.args.file.now.path.key).bar m) (λ e. lawful-change (file_call WriteBytes (contents_of m) c.args.file.now.path.key).bar m e (file_row (get (tree_of m.resources) c.args.file.now.path.key)))
    (λ is. ap facts_of is) (any_ok c.write_file-answer.result) (λ a says none is. writes c.args.file.now c.args.bytes.now m _ none is))
