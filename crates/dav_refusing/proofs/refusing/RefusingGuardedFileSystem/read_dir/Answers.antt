use Rattle.std.proofs.Common.{◌≡◌, ◌∙◌, Ok, Err, None, [], ◌∷◌, ◌+◌, ◌-◌, length, map, take, drop, refl, sym, ap, subst, arith}
use Rattle.std.proofs.lemmas.List.{with_items_is}
use Rattle.std.specs.Vec.{with_items}
use Rattle.dav_resource.specs.declared.record.Record.{Record}
use Rattle.dav_resource.specs.declared.record.Op.TheVariants.{ReadDir}
use Rattle.dav_resource.specs.declared.record.Outcome.TheVariants.{Granted}
use Rattle.dav_store.specs.Logged.{record_on}
use Rattle.dav_wrapping.specs.Declining.{declining_call}
use Rattle.dav_wrapping.specs.Hiding.{HaveSegmentNames}
use Rattle.dav_wrapping.specs.HidingLaws.{one_more_recorded}
use Rattle.dav_refusing.specs.Plans.{first_key, IsLetBy}
use Rattle.dav_refusing.specs.Slots.{plan_in, slot_call}
use Rattle.dav_refusing.specs.Pending.{due}
use Rattle.dav_refusing.specs.Refusing.{pending_of, FollowsReading}
use Rattle.dav_refusing.proofs.Refusals.{passes}
use Rattle.dav_wrapping.specs.Listed.{listed_names}
use Rattle.dav_refusing.proofs.ListingCalls.{lists, follows_listing, lawful_reading, as_listing}
use Rattle.dav_refusing.proofs.refusing.RefusingGuardedFileSystem.read_dir.Goals as goal

pub slice_bounds-hidden-count : goal.slice_bounds-hidden-count
slice_bounds-hidden-count g c =
    one_more_recorded c.records-recorded.result.now c.records.result.now (g.F.GuardedFileSystem.seen c.begin.new.self.inner).log (g.F.GuardedFileSystem.seen c.read_dir.new.self).log _ _ c.records-recorded.ensures c.records.ensures c.in-Ok.ensures.granted.recorded

pub slice_bounds-hidden-start : goal.slice_bounds-hidden-start
slice_bounds-hidden-start g c = slice_bounds-hidden-count g c

pub refuse_members-requires : goal.refuse_members-requires
refuse_members-requires g c =
    subst HaveSegmentNames (sym c.deref_mut.ensures.value)
    (listed_names c.args.path.now.key (g.F.GuardedFileSystem.seen c.begin.new.self.inner) (g.F.GuardedFileSystem.seen c.read_dir.new.self) c.in-Ok.listing.items (g.met.F.GuardedFileSystem.well_formed c.begin.new.self.inner) c.in-Ok.ensures.granted)

pub returns-in_ok-keep_listing-in-Ok-clause-plan : goal.returns-in_ok-keep_listing-in-Ok-clause-plan
returns-in_ok-keep_listing-in-Ok-clause-plan g c =
    follows_listing g.F.GuardedFileSystem.seen c.args.path.now c.args.self.now c.keep_listing.new.self (with_items c.in-Ok.listing c.refuse_members.new.listing) c.refuse_members.new.listing
    (subst (λ paths. due ReadDir (first_key paths) (pending_of c.args.self.now) ≡ None) c.in_ok-paths.ensures c.in_ok-call.ensures.free)
    (with_items_is c.in-Ok.listing c.refuse_members.new.listing (omega arith))
    (lists g.F.GuardedFileSystem.seen c.args.path.now c.args.self.now c.begin.new.self c.keep_listing.new.self c.read_dir.new.self c.in_ok-call.call c.in-Ok.listing.items c.refuse_members.new.listing
    c.records-recorded.result.now c.records.result.now _ c.in_ok-unseen-in-Ok.unseen.records.items (map slot_call c.in_ok-unseen-in-Ok.unseen.refused.items)
    (c.in_ok-call.ensures.call ∙ ap (λ paths. record_on ReadDir paths Granted) c.in_ok-paths.ensures) c.in_ok-call.ensures.kept c.in-Ok.ensures.granted c.records-recorded.ensures c.records.ensures refl
    (λ children is. subst (λ plan. IsLetBy (plan_in plan.queues) c.args.path.now children (take (length c.records.result.now - (length c.records-recorded.result.now + 1)) (drop (length c.records-recorded.result.now + 1) c.records.result.now)) c.refuse_members.new.listing c.in_ok-unseen-in-Ok.unseen.records.items (map slot_call c.in_ok-unseen-in-Ok.unseen.refused.items)) c.plan.ensures
    (c.in_ok-unseen-in-Ok.ensures.let_by children (rw c.deref_mut.ensures.value is)))
    c.keep_listing.ensures.inner c.in_ok-keep_listing-in-Ok.ensures.plan c.in_ok-keep_listing-in-Ok.ensures.records)

pub returns-in_ok-keep_listing-in-Ok-clause-seen : goal.returns-in_ok-keep_listing-in-Ok-clause-seen
returns-in_ok-keep_listing-in-Ok-clause-seen g c =
    lawful_reading g.F.GuardedFileSystem.seen c.args.path.now c.args.self.now c.keep_listing.new.self (Ok (with_items c.in-Ok.listing c.refuse_members.new.listing)) (returns-in_ok-keep_listing-in-Ok-clause-plan g c)

pub returns-in-Err-clause-plan : goal.returns-in-Err-clause-plan
returns-in-Err-clause-plan g c =
    subst (λ r. FollowsReading g.F.GuardedFileSystem.seen c.args.path.now c.args.self.now r c.finish.new.self) (sym c.finish.ensures.answer)
    (as_listing g.F.GuardedFileSystem.seen c.args.path.now c.args.self.now c.finish.new.self c.in-Err.error
    (passes g.F.GuardedFileSystem.seen ReadDir (c.args.path.now ∷ []) (declining_call c.args.path.now.key)
    c.args.self.now c.begin.new.self c.finish.new.self c.read_dir.new.self c.in_ok-paths.paths (record c.in_ok-call.call { outcome = c.last_outcome-call.result }) c.last_outcome-call.result c.records-in-Err.result.now (Err c.in-Err.error) (Err c.in-Err.error)
    c.in_ok-paths.ensures c.in_ok-call.ensures.free c.in_ok-call.ensures.kept (record { granted = tt; declined = c.in-Err.ensures.declined })
    (ap (λ (r : Record). record r { outcome = c.last_outcome-call.result }) c.in_ok-call.ensures.call) c.records-in-Err.ensures c.last_outcome-call.ensures
    refl c.finish.ensures.inner c.finish.ensures.memory c.finish.ensures.counted c.finish.ensures.recorded))

pub returns-in-Err-clause-seen : goal.returns-in-Err-clause-seen
returns-in-Err-clause-seen g c =
    lawful_reading g.F.GuardedFileSystem.seen c.args.path.now c.args.self.now c.finish.new.self c.finish.result (returns-in-Err-clause-plan g c)
