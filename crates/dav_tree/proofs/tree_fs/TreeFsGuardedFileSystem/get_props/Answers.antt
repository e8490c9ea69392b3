use Rattle.std.proofs.Common.{◌≡◌, ap, map, subst, IfOk}
use Rattle.std.specs.FinMap.{get}
use Rattle.dav_resource.specs.PathText.{PathValue}
use Rattle.dav_tree.specs.TreeFs.{memory_of, store_of}
use Rattle.dav_store.specs.PropertyCalls.{properties_at, get_props_call, ArePropertiesAt}
use Rattle.dav_tree.specs.Memory.{Memory, tree_of, contents_of, facts_of}
use Rattle.dav_tree.specs.MemoryCalls.{properties_error, IsPropertyList}
use Rattle.dav_tree.proofs.Answering.{answers-call, lawful-bar, properties_row, lists_props}
use Rattle.dav_tree.proofs.tree_fs.TreeFsGuardedFileSystem.get_props.Goals as goal

pub returns-clause-seen : goal.returns-clause-seen
returns-clause-seen g c =
    let m = memory_of c.args.self.now in
    (answers-call (get_props_call (store_of c.args.self.now) c.args.path.now.key) c.in_ok-paths.paths (λ props. ArePropertiesAt c.args.path.now.key props.items) (properties_error c.args.path.now.key) (λ old new. new ≡ old)
    m (memory_of c.begin_record.new.self) (memory_of c.list_props-answer.new.self) (memory_of c.end_record.new.self)
    c.args.self.now.log.items c.begin_record.new.self.log.items c.list_props-answer.new.self.log.items c.end_record.new.self.log.items
    c.list_props-answer.result c.end_record.result (λ props. IsPropertyList (properties_at (contents_of m) c.args.path.now.key) props.items)
    c.end_record.ensures.answer c.in_ok-paths.ensures.memory c.end_record.ensures.memory c.in_ok-paths.ensures.log (ap (λ v. v.items) c.list_props-answer.ensures.log) (ap (map (λ (p : PathValue). p.key)) c.in_ok-paths.ensures.paths)
    c.list_props-answer.ensures.answer c.end_record.ensures.record
    (λ none. none) (λ e. lawful-bar (get_props_call (store_of c.args.self.now) c.args.path.now.key).bar e (properties_row (get (tree_of m.resources) c.args.path.now.key)))
    (λ is. ap facts_of is) (subst (λ (x : Memory). IfOk c.list_props-answer.result (λ props. IsPropertyList (properties_at (contents_of x) c.args.path.now.key) props.items)) c.in_ok-paths.ensures.memory c.list_props-answer.ensures.props) (λ a says none is. lists_props c.args.path.now.key a.items m _ says is))
