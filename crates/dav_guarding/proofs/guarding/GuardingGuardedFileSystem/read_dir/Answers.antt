use Rattle.std.proofs.Common.{◌≡◌, ◌∙◌, Ok, Err, false, [], ◌∷◌, ◌+◌, ◌-◌, length, take, drop, refl, sym, ap, subst, arith}
use Rattle.std.proofs.lemmas.List.{with_items_is}
use Rattle.std.specs.Vec.{with_items}
use Rattle.dav_resource.specs.declared.record.Record.{Record}
use Rattle.dav_resource.specs.declared.record.Op.TheVariants.{ReadDir}
use Rattle.dav_resource.specs.declared.record.Outcome.TheVariants.{Granted}
use Rattle.dav_store.specs.Logged.{record_on}
use Rattle.dav_wrapping.specs.Declining.{declining_call}
use Rattle.dav_wrapping.specs.Hiding.{HaveSegmentNames}
use Rattle.dav_wrapping.specs.Listed.{listed_names}
use Rattle.dav_wrapping.specs.Underway.{IsHidden}
use Rattle.dav_guarding.specs.Policy.{why_by}
use Rattle.dav_guarding.specs.Guard.{is_refused}
use Rattle.dav_guarding.specs.Guarding.{GuardsReading}
use Rattle.dav_guarding.proofs.Guards.{passes}
use Rattle.dav_guarding.proofs.Reading.{others_allowed, lists, guards_listing, lawful_reading, as_listing}
use Rattle.dav_guarding.proofs.guarding.GuardingGuardedFileSystem.read_dir.Goals as goal

pub hide_members-requires : goal.hide_members-requires
hide_members-requires g c =
    subst HaveSegmentNames (sym c.deref_mut.ensures.value)
    (listed_names c.args.path.now.key (g.F.GuardedFileSystem.seen c.args.self.now.inner) (g.F.GuardedFileSystem.seen c.read_dir.new.self) c.in-Ok.listing.items (g.met.F.GuardedFileSystem.well_formed c.args.self.now.inner) c.in-Ok.ensures.granted)

pub keep_listing-requires-clause-unseen : goal.keep_listing-requires-clause-unseen
keep_listing-requires-clause-unseen g c =
    others_allowed g.F.GuardedFileSystem.seen c.args.path.now c.args.self.now c.begin.new.self c.read_dir.new.self c.in-Ok.listing.items c.hide_members.new.listing
    c.records-recorded.result.now c.records.result.now _ c.in_ok-unseen-in-Ok.unseen.items c.in_ok-call.ensures.kept c.in-Ok.ensures.granted c.records-recorded.ensures c.records.ensures refl
    (λ children is. subst (λ policy. IsHidden (why_by (g.P.Policy.refusals policy)) c.args.path.now children (take (length c.records.result.now - (length c.records-recorded.result.now + 1)) (drop (length c.records-recorded.result.now + 1) c.records.result.now)) c.hide_members.new.listing c.in_ok-unseen-in-Ok.unseen.items) c.policy.ensures
    (c.in_ok-unseen-in-Ok.ensures.hidden children (rw c.deref_mut.ensures.value is)))

pub returns-in_ok-keep_listing-in-Ok-clause-guarded : goal.returns-in_ok-keep_listing-in-Ok-clause-guarded
returns-in_ok-keep_listing-in-Ok-clause-guarded g c =
    guards_listing g.F.GuardedFileSystem.seen c.args.path.now c.args.self.now _ (with_items c.in-Ok.listing c.hide_members.new.listing) c.hide_members.new.listing (with_items_is c.in-Ok.listing c.hide_members.new.listing (omega arith))
    (lists g.F.GuardedFileSystem.seen c.args.path.now c.args.self.now c.begin.new.self c.read_dir.new.self c.in-Ok.listing.items c.hide_members.new.listing
    c.records-recorded.result.now c.records.result.now _ c.in_ok-unseen-in-Ok.unseen.items c.in_ok-call.ensures.kept c.in-Ok.ensures.granted c.records-recorded.ensures c.records.ensures refl
    (λ children is. subst (λ policy. IsHidden (why_by (g.P.Policy.refusals policy)) c.args.path.now children (take (length c.records.result.now - (length c.records-recorded.result.now + 1)) (drop (length c.records-recorded.result.now + 1) c.records.result.now)) c.hide_members.new.listing c.in_ok-unseen-in-Ok.unseen.items) c.policy.ensures
    (c.in_ok-unseen-in-Ok.ensures.hidden children (rw c.deref_mut.ensures.value is)))
    c.keep_listing.new.self c.in_ok-call.call (c.in_ok-call.ensures.call ∙ ap (λ paths. record_on ReadDir paths Granted) c.in_ok-paths.ensures)
    (subst (λ paths. is_refused c.args.self.now.guard ReadDir paths ≡ false) c.in_ok-paths.ensures c.in_ok-call.ensures.free) c.keep_listing.ensures.policy c.in_ok-keep_listing-in-Ok.ensures.records)

pub returns-in_ok-keep_listing-in-Ok-clause-seen : goal.returns-in_ok-keep_listing-in-Ok-clause-seen
returns-in_ok-keep_listing-in-Ok-clause-seen g c =
    lawful_reading g.F.GuardedFileSystem.seen c.args.path.now c.args.self.now _ (Ok (with_items c.in-Ok.listing c.hide_members.new.listing)) (returns-in_ok-keep_listing-in-Ok-clause-guarded g c)

pub returns-in-Err-clause-guarded : goal.returns-in-Err-clause-guarded
returns-in-Err-clause-guarded g c =
    subst (λ r. GuardsReading g.F.GuardedFileSystem.seen c.args.path.now c.args.self.now r (record { inner = c.read_dir.new.self; guard = c.finish.new.self })) (sym c.finish.ensures.answer)
    (as_listing g.F.GuardedFileSystem.seen c.args.path.now c.args.self.now _ c.in-Err.error
    (passes g.F.GuardedFileSystem.seen ReadDir (c.args.path.now ∷ []) (declining_call c.args.path.now.key)
    c.args.self.now c.begin.new.self c.finish.new.self c.read_dir.new.self c.in_ok-paths.paths (record c.in_ok-call.call { outcome = c.last_outcome-call.result }) c.last_outcome-call.result c.records-in-Err.result.now (Err c.in-Err.error) (Err c.in-Err.error)
    c.in_ok-paths.ensures c.in_ok-call.ensures.free c.in_ok-call.ensures.kept (record { granted = tt; declined = c.in-Err.ensures.declined })
    (ap (λ (r : Record). record r { outcome = c.last_outcome-call.result }) c.in_ok-call.ensures.call) c.records-in-Err.ensures c.last_outcome-call.ensures
    refl c.finish.ensures.policy c.finish.ensures.memory c.finish.ensures.recorded))

pub returns-in-Err-clause-seen : goal.returns-in-Err-clause-seen
returns-in-Err-clause-seen g c =
    lawful_reading g.F.GuardedFileSystem.seen c.args.path.now c.args.self.now _ c.finish.result (returns-in-Err-clause-guarded g c)
