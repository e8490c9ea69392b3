use Rattle.std.proofs.Common.{◌≡◌, ◌∙◌, ap, refl, sym, subst, true, false}
use Rattle.std.specs.FinMap as fin
use Rattle.dav_store.specs.Store.{element_key}
use Rattle.dav_tree.specs.OrderedMaps.{seen_entries}
use Rattle.dav_tree.specs.PropertyNames.{key_of}
use Rattle.dav_tree.proofs.PropertyMaps.{entries-properties_of}
use Rattle.dav_tree.proofs.Naming.{AllNamedBy, named-entries, entries-named}
use Rattle.dav_tree.proofs.properties.Properties.are_named.Goals as goal

pub loop-name-init : goal.loop-name-init
loop-name-init c =
    let same : seen_entries key_of c.into_iter-name-iterator.result ≡ fin.entries c.args.self.now =
    ap (seen_entries key_of) c.into_iter-name-iterator.ensures.into_iter_gives.0
    ∙ sym (entries-properties_of c.self.inside.map c.self.invariant) ∙ ap fin.entries c.self.view_is in
    record { all = subst AllNamedBy same; left = subst AllNamedBy (sym same) }

pub loop-name-preserved : goal.loop-name-preserved
loop-name-preserved c =
    let before = c.loop-name.invariant in
    let next = ap (seen_entries key_of) c.in-Some.ensures.steps in
    record {
      all = λ rest. before.all (subst AllNamedBy (sym next) (ap element_key (sym c.as_element.ensures) ∙ c.if-not-is_of.ensures.named refl, rest));
      left = λ each. (subst AllNamedBy next (before.left each)).1;
    }

pub returns-then-not-is_of-clause-passes : goal.returns-then-not-is_of-clause-passes
returns-then-not-is_of-clause-passes c = λ named.
    let left = subst AllNamedBy (ap (seen_entries key_of) c.in-Some.ensures.steps) (c.loop-name.invariant.left (named-entries c.args.self.now named)) in
    absurd (let clash : false ≡ true = c.if-not-is_of.ensures.passes (ap element_key c.as_element.ensures ∙ left.0) in cc)

pub returns-clause-named : goal.returns-clause-named
returns-clause-named c = λ _.
    entries-named c.args.self.now (c.loop-name.invariant.all (subst AllNamedBy (ap (seen_entries key_of) (sym c.in-None.ensures.steps.0)) tt))
