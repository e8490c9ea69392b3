use Rattle.std.proofs.Common.{sym, subst}
use Rattle.dav_resource.specs.PathText.{IsPathValue}
use Rattle.dav_resource.specs.Path.{path_of}
use Rattle.dav_resource.proofs.PathLemmas.{IsPathValue-prefixed}
use Rattle.dav_resource.proofs.path.DavPath.with_prefix.Goals as goal

pub invariant_of-result : goal.invariant_of-result
invariant_of-result c =
    let p = c.self.inside in
    let root = c.in_ok-root.ensures in
    let key = c.in_ok-join.ensures in
    let is = IsPathValue-prefixed (path_of p) c.self.invariant in
    subst IsPathValue (λ i. record { star = p.star; slash = p.slash; prefix = sym root i; key = sym key i }) is
