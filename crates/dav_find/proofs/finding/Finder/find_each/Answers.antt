use Rattle.std.proofs.Common.{◌≡◌, ◌∙◌, ◌<◌, ◌≤◌, length, get_or, map, refl}
use Rattle.std.proofs.lemmas.List.{map-append}
use Rattle.dav_find.specs.Finding.{finding_of}
use Rattle.dav_find.proofs.Each.{failed_alike, all_left, none_left, one_stops, one_more, one_lost, drop_here, drop_none}
use Rattle.dav_find.proofs.finding.Finder.find_each.Goals as goal

pub loop-asked-init : goal.loop-asked-init
loop-asked-init g c = record {
  same = refl;
  fixed = refl;
  held = λ verdict new h. all_left _ _ c.args.here.now c.args.self.now.search.now.asked.items c.args.quota _ new verdict (rw c.new-found.ensures.items at h);
}

pub returns-in_err-value-clause-rules : goal.returns-in_err-value-clause-rules
returns-in_err-value-clause-rules g c =
    let asked = c.args.self.now.search.now.asked.items in
    let loop = c.loop-asked in
    let found = map finding_of loop.found.items in
    let inside : loop.asked-index < length asked = rw c.deref-asked-items.ensures.value at c.loop-asked-test.true in
    let is : c.asked-item.result ≡ get_or asked loop.asked-index c.asked-item.result = rw c.deref-asked-items.ensures.value at c.asked-item.is in
    let rules = rw (loop.invariant.fixed, loop.invariant.same) at c.in_err-value.ensures.rules in
    loop.invariant.held _ _ (rw (drop_here asked loop.asked-index c.asked-item.result inside is) (one_stops _ _ c.args.here.now found c.asked-item.result _ loop.quota _ _ _ _ (failed_alike c.from_residual.result _ c.from_residual.ensures.1) rules))

pub returns-in_err-push-clause-rules : goal.returns-in_err-push-clause-rules
returns-in_err-push-clause-rules g c =
    let asked = c.args.self.now.search.now.asked.items in
    let loop = c.loop-asked in
    let found = map finding_of loop.found.items in
    let inside : loop.asked-index < length asked = rw c.deref-asked-items.ensures.value at c.loop-asked-test.true in
    let is : c.asked-item.result ≡ get_or asked loop.asked-index c.asked-item.result = rw c.deref-asked-items.ensures.value at c.asked-item.is in
    let rules = rw (loop.invariant.fixed, loop.invariant.same) at c.in_ok-value.ensures.rules in
    loop.invariant.held _ _ (rw (drop_here asked loop.asked-index c.asked-item.result inside is) (one_lost _ _ c.args.here.now found c.asked-item.result _ loop.quota _ _ _ _ rules (failed_alike c.from_residual-in_err-push.result _ c.from_residual-in_err-push.ensures.1)))

pub loop-asked-preserved : goal.loop-asked-preserved
loop-asked-preserved g c =
    let asked = c.args.self.now.search.now.asked.items in
    let loop = c.loop-asked in
    let found = map finding_of loop.found.items in
    let inside : loop.asked-index < length asked = rw c.deref-asked-items.ensures.value at c.loop-asked-test.true in
    let is : c.asked-item.result ≡ get_or asked loop.asked-index c.asked-item.result = rw c.deref-asked-items.ensures.value at c.asked-item.is in
    let rules = rw (loop.invariant.fixed, loop.invariant.same) at c.in_ok-value.ensures.rules in
    record {
      same = c.in_ok-value.ensures.rules.same ∙ loop.invariant.same;
      fixed = c.in_ok-value.ensures.rules.fixed ∙ loop.invariant.fixed;
      held = λ verdict new h. loop.invariant.held verdict new (rw (drop_here asked loop.asked-index c.asked-item.result inside is) (one_more _ _ c.args.here.now found c.asked-item.result _ loop.quota _ _ _ _ _ rules (rw (c.in_ok-push.ensures.items, map-append) at h)));
    }

pub returns-clause-rules : goal.returns-clause-rules
returns-clause-rules g c =
    let asked = c.args.self.now.search.now.asked.items in
    let loop = c.loop-asked in
    let found = map finding_of loop.found.items in
    let all : length asked ≤ loop.asked-index = rw c.deref-asked-items.ensures.value at c.loop-asked-test.false in
    loop.invariant.held _ _ (rw (drop_none asked loop.asked-index all, c.from_vec.ensures) (none_left _ _ c.args.here.now found loop.quota _))
