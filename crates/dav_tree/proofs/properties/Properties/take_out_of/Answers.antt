use Rattle.std.proofs.Common.{◌∙◌, ap, sym, if◌then◌else◌, is_some, None}
use Rattle.std.specs.FinMap as fin
use Rattle.dav_tree.specs.OrderedMaps.{seen_entries}
use Rattle.dav_tree.specs.PropertyNames.{key_of}
use Rattle.dav_tree.proofs.PropertyMaps.{but, taken-step, entries-properties_of}
use Rattle.dav_tree.proofs.properties.Properties.take_out_of.Goals as goal

pub loop-name-init : goal.loop-name-init
loop-name-init c = λ q.
    ap (λ es. but es q (fin.get c.args.others.now q))
    (ap (seen_entries key_of) c.into_iter-name-iterator.ensures.into_iter_gives.0
    ∙ sym (entries-properties_of c.self.inside.map c.self.invariant) ∙ ap fin.entries c.self.view_is)

pub loop-name-preserved : goal.loop-name-preserved
loop-name-preserved c = λ q.
    ap (λ m. but (seen_entries key_of c.next.new.self) q (fin.get m q)) c.remove.ensures
    ∙ taken-step c.loop-name.others q (key_of c.in-Some.name.now, c.in-Some.field-0-1.now) (seen_entries key_of c.next.new.self)
    ∙ ap (λ es. but (seen_entries key_of es) q (fin.get c.loop-name.others q)) (sym c.in-Some.ensures.steps)
    ∙ c.loop-name.invariant q

pub returns : goal.returns
returns c = λ q.
    ap (λ es. but (seen_entries key_of es) q (fin.get c.loop-name.others q)) (sym c.in-None.ensures.steps.0)
    ∙ c.loop-name.invariant q
    ∙ ap (λ o. if is_some o then None else fin.get c.args.others.now q) (sym (fin.get-entries c.args.self.now q))
