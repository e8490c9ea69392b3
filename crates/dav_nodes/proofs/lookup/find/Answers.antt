use Rattle.std.proofs.Common.{◌≡◌, ◌∙◌, Some, IfSome, sym, ap, subst}
use Rattle.std.specs.Option.{option_and_then}
use Rattle.slab.specs.Slab.{get}
use Rattle.dav_key.specs.Key.{parent}
use Rattle.dav_nodes.specs.Links.{place, member_at}
use Rattle.dav_nodes.proofs.Walks.{walk-push}
use Rattle.dav_nodes.proofs.lookup.find.Goals as goal

pub returns-in-Some-clause-number : goal.returns-in-Some-clause-number
returns-in-Some-clause-number g c =
    let numbers = place (member_at (get c.args.nodes.now)) in
    sym (subst (λ r. IfSome r (λ n. numbers c.args.key.now ≡ Some n)) c.in-Some.is (c.number_of.ensures numbers c.requires.known))

pub returns-in_err-above-clause-number : goal.returns-in_err-above-clause-number
returns-in_err-above-clause-number g c =
    let m = member_at (get c.args.nodes.now) in
    rw c.from_residual.ensures (
    sym (ap (place m) c.in-Some-name.ensures.last ∙ walk-push m (Some 0) (parent c.args.key.now) c.in-Some-name.name.now
    ∙ ap (option_and_then (m c.in-Some-name.name.now)) (sym c.find_above.ensures ∙ c.in_err-above.was))
    )

pub returns-clause-number : goal.returns-clause-number
returns-clause-number g c =
    let m = member_at (get c.args.nodes.now) in
    c.member-number.ensures
    ∙ sym (ap (place m) c.in-Some-name.ensures.last ∙ walk-push m (Some 0) (parent c.args.key.now) c.in-Some-name.name.now
    ∙ ap (option_and_then (m c.in-Some-name.name.now)) (sym c.find_above.ensures ∙ c.in_ok-above.was))

pub returns-clause-known : goal.returns-clause-known
returns-clause-known g c =
    let m = member_at (get c.args.nodes.now) in
    c.note_at.ensures (place m) c.requires.known (record {
      parent_at = sym c.find_above.ensures ∙ c.in_ok-above.was;
      own = λ n is.
          ap (place m) c.in-Some-name.ensures.last ∙ walk-push m (Some 0) (parent c.args.key.now) c.in-Some-name.name.now
          ∙ ap (option_and_then (m c.in-Some-name.name.now)) (sym c.find_above.ensures ∙ c.in_ok-above.was) ∙ sym c.member-number.ensures ∙ is;
    })
