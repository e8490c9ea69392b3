use Rattle.std.proofs.Common.{◌≡◌, ◌∙◌, ap, sym, refl, rules}
use Rattle.std.specs.FinMap as fin
use Rattle.std.specs.FinMap.Entries.{find}
use Rattle.dav_key.specs.Key.{key_cmp, key_cmp_total}
use Rattle.dav_tree.specs.OrderedMaps.{seen_entries}
use Rattle.dav_tree.specs.PropertyNames.{key_of}
use Rattle.dav_tree.proofs.PropertyMaps.{put_all, are-put, kept-step, entries-properties_of}
use Rattle.dav_tree.proofs.properties.Properties.put_into.Goals as goal

pub loop-name-init : goal.loop-name-init
loop-name-init c =
    let starts : c.into_iter-name-iterator.result ≡ c.self.inside.map.entries = c.into_iter-name-iterator.ensures.into_iter_gives.0 in
    record {
      all =
          ap (λ es. put_all c.args.others.now (seen_entries key_of es)) starts
          ∙ ap (put_all c.args.others.now) (sym (entries-properties_of c.self.inside.map c.self.invariant) ∙ ap fin.entries c.self.view_is);
      rest = λ q none. (
        ap (λ es. find key_cmp q (seen_entries key_of es)) starts
            ∙ sym (fin.get-from_entries key_cmp_total (seen_entries key_of c.self.inside.map.entries) q)
            ∙ ap (λ m. fin.get m q) c.self.view_is ∙ none,
        refl,
      );
    }

pub loop-name-preserved : goal.loop-name-preserved
loop-name-preserved c = record {
  all = search rules;
  rest = λ q none.
      let was = c.loop-name.invariant.rest q none in
      let more = ap (λ es. find key_cmp q (seen_entries key_of es)) (sym c.in-Some.ensures.steps) ∙ was.0 in
      let kept = kept-step c.loop-name.others q (key_of c.in-Some.name.now, c.in-Some.element.now) (seen_entries key_of c.next.new.self) _ (more, was.1) in
      (kept.0, ap (λ m. fin.get m q) (c.in_ok-insert.ensures.ok ∙ (λ i. fin.insert c.loop-name.others (c.in_ok-clone.ensures i) (c.in_ok-clone-2.ensures i))) ∙ kept.1);
}

pub returns-clause-ok : goal.returns-clause-ok
returns-clause-ok c =
    are-put c.args.self.now c.args.others.now c.loop-name.others
    (ap (λ es. put_all c.loop-name.others (seen_entries key_of es)) (sym c.in-None.ensures.steps.0) ∙ c.loop-name.invariant.all)
