use Rattle.std.proofs.Common.{◌≡◌, length, if◌then◌else◌}
use Rattle.std.specs.List.{list_any}
use Rattle.dav_resource.specs.Mime.{is_dot, after_last_dot}
use Rattle.dav_resource.proofs.path.mime.after_last_dot.Given as goal

abbrev pub invariant-loop-rest : goal.invariant-loop-rest
invariant-loop-rest l = (if list_any is_dot l.rest then after_last_dot l.rest else l.found) ≡ after_last_dot l.name

abbrev pub decreases-loop-rest : goal.decreases-loop-rest
decreases-loop-rest l = length l.rest
