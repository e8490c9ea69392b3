use Rattle.std.proofs.Common.{sym, subst, true}
use Rattle.dav_resource.specs.PathText.{IsPathValue}
use Rattle.dav_resource.specs.Path.{path_of}
use Rattle.dav_resource.proofs.PathLemmas.{IsPathValue-parent}
use Rattle.dav_resource.proofs.path.DavPath.parent.Goals as goal

pub invariant_of-path : goal.invariant_of-path
invariant_of-path c =
    let is = IsPathValue-parent (path_of c.path.inside) c.path.invariant in
    subst (λ k. IsPathValue (record (path_of c.path.inside) { slash = true; key = k })) (sym c.in_ok-path-inside.ensures) is
