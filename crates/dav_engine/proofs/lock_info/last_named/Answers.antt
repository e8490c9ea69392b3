use Rattle.std.proofs.Common.{rules, ◌∙◌, ap, None, Bor}
use Rattle.std.specs.List.{last_or}
use Rattle.std.proofs.lemmas.Iterator.{items_from_drains}
use Rattle.std.proofs.lemmas.Iterator.Consumers.{YieldsList-from_first, YieldsList-from_filter}
use Rattle.dav_resource.specs.Element.{child_elements}
use Rattle.dav_resource.specs.Tree.{Tree}
use Rattle.dav_messages.specs.DavElement.{is_named}
use Rattle.dav_engine.proofs.LastNamed.{last_or-map}
use Rattle.dav_engine.proofs.lock_info.last_named.Goals as goal

pub returns : goal.returns
returns c =
    let ran = c.last.ensures.ran in
    let elements = YieldsList-from_first (λ (b : Bor Tree). b.now) child_elements {s = c.filter.result.iter} _ (rw c.filter.ensures.source c.child_elems_iter.ensures) in
    let named = YieldsList-from_filter {s = c.filter.result} _ (is_named c.args.name.now) elements c.filter.ensures.closure (λ x b q. search rules) in
    let items = items_from_drains {v = λ (b : Bor Tree). b.now} {s = c.filter.result} ran.0 (ran.1.1.0, ran.1.1.1, λ _. (ran.1.0, ran.1.1.2)) named in
    rw ran.2 (last_or-map (λ (b : Bor Tree). b.now) None ran.0 ∙ ap (last_or None) items)
