use Rattle.std.proofs.Common.{ap}
use Rattle.std.specs.Prelude.{codes}
use Rattle.dav_resource.specs.Tree.{prefixed_element, with_children}
use Rattle.dav_resource.specs.TreeLaws.{elements_snoc}
use Rattle.dav_props.proofs.propstat.prop.Goals as goal

pub loop-element-preserved : goal.loop-element-preserved
loop-element-preserved c =
    rw (c.in_ok-push_element.ensures.ok, c.loop-element.invariant)
    (ap (with_children (prefixed_element (codes "D:prop"))) (elements_snoc c.loop-element.yielded c.in-Some.element))
