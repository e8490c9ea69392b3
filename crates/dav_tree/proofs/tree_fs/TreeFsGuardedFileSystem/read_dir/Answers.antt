use Rattle.std.proofs.Common.{◌≡◌, ap, map, refl, subst, IfOk}
use Rattle.std.specs.FinMap.{get}
use Rattle.dav_resource.specs.PathText.{PathValue}
use Rattle.dav_tree.specs.TreeFs.{memory_of, store_of}
use Rattle.dav_store.specs.Members.{read_dir_call}
use Rattle.dav_tree.specs.Memory.{Memory, tree_of, contents_of, facts_of}
use Rattle.dav_tree.specs.MemoryCalls.{read_dir_error, IsListing}
use Rattle.dav_tree.proofs.Answering.{answers-call, lawful-bar, read_dir_row}
use Rattle.dav_tree.proofs.MemoryListings.{reads, ShowsAll}
use Rattle.dav_tree.proofs.tree_fs.TreeFsGuardedFileSystem.read_dir.Goals as goal

pub returns-clause-seen : goal.returns-clause-seen
returns-clause-seen g c =
    let m = memory_of c.args.self.now in
    reads c.args.path.now.key m (store_of c.args.self.now) (store_of c.end_record.new.self) c.end_record.result refl refl (answers-call (read_dir_call (contents_of m) c.args.path.now.key) c.in_ok-paths.paths (ShowsAll c.args.path.now.key m) (read_dir_error c.args.path.now.key) (λ old new. new ≡ old)
    m (memory_of c.begin_record.new.self) (memory_of c.list-answer.new.self) (memory_of c.end_record.new.self)
    c.args.self.now.log.items c.begin_record.new.self.log.items c.list-answer.new.self.log.items c.end_record.new.self.log.items
    c.list-answer.result c.end_record.result (λ listing. IsListing m.tag_part c.args.path.now.key m.resources listing.items)
    c.end_record.ensures.answer c.in_ok-paths.ensures.memory c.end_record.ensures.memory c.in_ok-paths.ensures.log (ap (λ v. v.items) c.list-answer.ensures.log) (ap (map (λ (p : PathValue). p.key)) c.in_ok-paths.ensures.paths)
    c.list-answer.ensures.answer c.end_record.ensures.record
    (λ none. none) (λ e. lawful-bar (read_dir_call (contents_of m) c.args.path.now.key).bar e (read_dir_row (get (tree_of m.resources) c.args.path.now.key)))
    (λ is. ap facts_of is) (subst (λ (x : Memory). IfOk c.list-answer.result (λ listing. IsListing x.tag_part c.args.path.now.key x.resources listing.items)) c.in_ok-paths.ensures.memory c.list-answer.ensures.listing) (λ a says none is. (ap contents_of is, says)))
