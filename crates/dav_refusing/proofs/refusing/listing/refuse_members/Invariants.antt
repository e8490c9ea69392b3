use Rattle.std.proofs.Common.{List, map}
use Rattle.dav_store.specs.Members.{Child}
use Rattle.dav_wrapping.specs.Hiding.{HaveSegmentNames, IsListingOf}
use Rattle.dav_refusing.specs.Slots.{plan_in, slot_call}
use Rattle.dav_refusing.proofs.Listings.{Underway}
use Rattle.dav_refusing.proofs.refusing.listing.refuse_members.Given as goal

-- the members so far are let be seen as the plan says
abbrev pub invariant-loop-shown : goal.invariant-loop-shown
invariant-loop-shown l = record {
  names : HaveSegmentNames l.listing;
  under : (children : List Child) → IsListingOf l.path.key children l.initial.listing l.hidden
      → Underway (plan_in l.plan.queues) l.path children l.hidden l.shown-index l.listing l.unseen.records.items (map slot_call l.unseen.refused.items) l.rest;
}
