use Rattle.std.proofs.Common.{◌≡◌, Some, IfSome, sym, subst}
use Rattle.slab.specs.Slab.{get}
use Rattle.dav_nodes.specs.Links.{place, member_at}
use Rattle.dav_nodes.proofs.lookup.number_at.Goals as goal

pub returns-in-Some : goal.returns-in-Some
returns-in-Some g c =
    let numbers = place (member_at (get c.args.nodes.now)) in
    sym (subst (λ r. IfSome r (λ n. numbers c.args.key.now ≡ Some n)) c.in-Some.is (c.number_of.ensures numbers c.requires))
