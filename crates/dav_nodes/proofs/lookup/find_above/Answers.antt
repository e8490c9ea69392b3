use Rattle.slab.specs.Slab.{get}
use Rattle.dav_nodes.specs.Links.{place, member_at, spot_at}
use Rattle.std.proofs.Common.{sym, subst, ◌≡◌, ◌∙◌, Some, IfSome}
use Rattle.dav_key.specs.Key.{parent}
use Rattle.dav_nodes.proofs.Spots.{spot_above}
use Rattle.dav_nodes.proofs.lookup.find_above.Goals as goal

pub returns-in-Some : goal.returns-in-Some
returns-in-Some g c =
    let numbers = place (member_at (get c.args.nodes.now)) in
    sym (subst (λ r. IfSome r (λ n. numbers (parent c.args.key.now) ≡ Some n)) c.in-Some.is (c.number_above.ensures numbers c.requires.known))

pub returns-in-Some-number_of : goal.returns-in-Some-number_of
returns-in-Some-number_of g c =
    let member = member_at (get c.args.nodes.now) in
    c.parent_of.ensures
    ∙ spot_above member (spot_at (get c.args.nodes.now)) c.requires.spots c.args.key.now c.in-Some-number_of.number
    (subst (λ r. IfSome r (λ n. place member c.args.key.now ≡ Some n)) c.in-Some-number_of.is (c.number_of.ensures (place member) c.requires.known))
