use Rattle.std.proofs.Common.{vec_len}
use Rattle.dav_check.specs.Pending.{Takes}
use Rattle.dav_check.proofs.pending.push_members.Given as goal

abbrev pub invariant-loop-shown : goal.invariant-loop-shown
invariant-loop-shown l = Takes l.directory l.initial.listing.items l.listing.items l.initial.waiting.items l.waiting.items

abbrev pub decreases-loop-shown : goal.decreases-loop-shown
decreases-loop-shown l = vec_len l.listing
