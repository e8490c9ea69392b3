use Rattle.std.proofs.Common.{◌∙◌, ap, sym, Some, None, true, subst}
use Rattle.dav_tree.specs.TreeFs.{memory_of}
use Rattle.dav_store.specs.PropertyCalls.{properties_bar}
use Rattle.dav_tree.specs.MemoryCalls.{IsPropertyList}
use Rattle.dav_tree.proofs.Answering.{properties-there}
use Rattle.dav_tree.proofs.Rows.{node_at}
use Rattle.dav_tree.proofs.Places.{number-again, at-again, missing-key, found-key}
use Rattle.dav_tree.proofs.Effects.{over-ok, over-err, memory-same}
use Rattle.dav_tree.proofs.tree_fs.TreeFs.list_props.Goals as goal

pub returns-in_default-clause-answer : goal.returns-in_default-clause-answer
returns-in_default-clause-answer g c =
    let missing = missing-key _ _ c.find.ensures.same _ _ c.key.ensures.value c.in_default.ensures.found in
    over-err _ _ _ _ _ _ (ap (properties_bar true) (node_at c.args.self.now.entries.resources c.args.path.now.key None missing)) (memory-same _ _ _ _ _ _ _ c.find.ensures.same)

pub properties-properties-requires : goal.properties-properties-requires
properties-properties-requires g c = number-again _ _ _ c.find.ensures.same _ _ c.in-Some.ensures.found

pub returns-clause-props : goal.returns-clause-props
returns-clause-props g c =
    let here = found-key _ _ c.find.ensures.same _ _ c.key.ensures.value _ _ c.in-Some.ensures.found in
    let props = c.properties-properties.ensures _ _ (at-again _ _ _ c.find.ensures.same _ _ c.in-Some.ensures.found) in
    subst (λ p. IsPropertyList p c.in_ok-list.field-0.items) (props ∙ sym (properties-there (memory_of c.args.self.now) c.args.path.now.key c.in-Some.ensures.found.stored here)) c.in_ok-list.ensures

pub returns-clause-answer : goal.returns-clause-answer
returns-clause-answer g c =
    let here = found-key _ _ c.find.ensures.same _ _ c.key.ensures.value _ _ c.in-Some.ensures.found in
    over-ok _ _ _ _ _ _ (ap (properties_bar true) (node_at c.args.self.now.entries.resources c.args.path.now.key (Some c.in-Some.ensures.found.stored) here)) (memory-same _ _ _ _ _ _ _ c.find.ensures.same)
