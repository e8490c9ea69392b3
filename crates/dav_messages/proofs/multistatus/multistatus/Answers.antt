use Rattle.std.proofs.Common.{[], ap}
use Rattle.dav_resource.specs.Tree.{with_children}
use Rattle.dav_messages.specs.Multistatus.{multistatus, response_element}
use Rattle.dav_messages.proofs.Elements.{elements-next}
use Rattle.dav_messages.proofs.multistatus.multistatus.Goals as goal

pub loop-path-preserved : goal.loop-path-preserved
loop-path-preserved c =
    let items = c.args.items.now in
    let more = elements-next (response_element c.args.profile) items c.loop-path.path-index c.loop-path-item.result c.loop-path-test.true c.loop-path-item.is in
    rw (c.in_ok-push_element.ensures.ok, c.in_ok-response_element.ensures, c.loop-path.invariant) (ap (with_children (multistatus c.args.profile [])) more)
