use Rattle.std.proofs.Common.{◌∙◌, ap, sym, Some}
use Rattle.std.specs.Option.{option_copied}
use Rattle.std.specs.FinMap.{get}
use Rattle.dav_tree.specs.TreeFs.{memory_of}
use Rattle.dav_store.specs.PropertyCalls.{name_of, get_prop_bar}
use Rattle.dav_tree.proofs.Answering.{property-missing, property-kept}
use Rattle.dav_tree.proofs.Places.{number-again, at-again, missing-key, found-key}
use Rattle.dav_tree.proofs.Effects.{over-ok, over-err, memory-same}
use Rattle.dav_tree.proofs.tree_fs.TreeFs.find_prop.Goals as goal

pub returns-in_default-clause-answer : goal.returns-in_default-clause-answer
returns-in_default-clause-answer g c =
    let missing = missing-key _ _ c.find.ensures.same _ _ c.key.ensures.value c.in_default.ensures.found in
    over-err _ _ _ _ _ _ (ap get_prop_bar (property-missing (memory_of c.args.self.now) c.args.path.now.key (name_of c.args.prop.now) missing)) (memory-same _ _ _ _ _ _ _ c.find.ensures.same)

pub properties-requires : goal.properties-requires
properties-requires g c = number-again _ _ _ c.find.ensures.same _ _ c.in-Some.ensures.found

pub returns-in_ok-clone-in-Some-found-clause-element : goal.returns-in_ok-clone-in-Some-found-clause-element
returns-in_ok-clone-in-Some-found-clause-element g c =
    let here = found-key _ _ c.find.ensures.same _ _ c.key.ensures.value _ _ c.in-Some.ensures.found in
    let props = c.properties.ensures _ _ (at-again _ _ _ c.find.ensures.same _ _ c.in-Some.ensures.found) in
    property-kept (memory_of c.args.self.now) c.args.path.now.key (name_of c.args.prop.now) c.in-Some.ensures.found.stored here ∙ ap (λ p. get p (name_of c.args.prop.now)) (sym props) ∙ sym c.in_ok-found.ensures ∙ ap option_copied c.in-Some-found.is ∙ ap Some (sym c.as_element.ensures) ∙ ap Some (sym c.in_ok-clone-in-Some-found.ensures)

pub returns-in_ok-clone-in-Some-found-clause-answer : goal.returns-in_ok-clone-in-Some-found-clause-answer
returns-in_ok-clone-in-Some-found-clause-answer g c =
    let here = found-key _ _ c.find.ensures.same _ _ c.key.ensures.value _ _ c.in-Some.ensures.found in
    let props = c.properties.ensures _ _ (at-again _ _ _ c.find.ensures.same _ _ c.in-Some.ensures.found) in
    over-ok _ _ _ _ _ _ (ap get_prop_bar (property-kept (memory_of c.args.self.now) c.args.path.now.key (name_of c.args.prop.now) c.in-Some.ensures.found.stored here ∙ ap (λ p. get p (name_of c.args.prop.now)) (sym props) ∙ sym c.in_ok-found.ensures ∙ ap option_copied c.in-Some-found.is)) (memory-same _ _ _ _ _ _ _ c.find.ensures.same)

pub returns-in-None-clause-answer : goal.returns-in-None-clause-answer
returns-in-None-clause-answer g c =
    let here = found-key _ _ c.find.ensures.same _ _ c.key.ensures.value _ _ c.in-Some.ensures.found in
    let props = c.properties.ensures _ _ (at-again _ _ _ c.find.ensures.same _ _ c.in-Some.ensures.found) in
    over-err _ _ _ _ _ _ (ap get_prop_bar (property-kept (memory_of c.args.self.now) c.args.path.now.key (name_of c.args.prop.now) c.in-Some.ensures.found.stored here ∙ ap (λ p. get p (name_of c.args.prop.now)) (sym props) ∙ sym c.in_ok-found.ensures ∙ ap option_copied c.in-None.is)) (memory-same _ _ _ _ _ _ _ c.find.ensures.same)
