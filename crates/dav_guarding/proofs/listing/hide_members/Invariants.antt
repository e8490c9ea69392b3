use Rattle.std.proofs.Common.{List}
use Rattle.dav_store.specs.Members.{Child}
use Rattle.dav_wrapping.specs.Hiding.{HaveSegmentNames, IsListingOf}
use Rattle.dav_wrapping.specs.Underway.{Underway}
use Rattle.dav_guarding.specs.Policy.{why_by}
use Rattle.dav_guarding.proofs.listing.hide_members.Given as goal

-- the members so far are as the policy lets them be listed
abbrev pub invariant-loop-shown : goal.invariant-loop-shown
invariant-loop-shown g l = record {
  names : HaveSegmentNames l.listing;
  under : (children : List Child) → IsListingOf l.path.key children l.initial.listing l.hidden
      → (rest : List Child) × Underway (why_by (g.P.Policy.refusals l.policy)) l.path children l.hidden l.shown-index l.listing l.unseen.items l.rest rest;
}
