-- What is done for a frame, and the reply.
use Rattle.std.proofs.Common.{◌≡◌, ℕ, List, [], Option, Some, None, Result, Ok, Err, refl, ◌∙◌, ap, inl, inr, subst, length}
use Rattle.std.specs.Option.{option_map_or}
use Rattle.std.proofs.lemmas.Option.{same_Some}
use Rattle.dav_resource.specs.declared.error.FsError.{FsError}
use Rattle.dav_resource.specs.declared.error.FsError.TheVariants.{NotImplemented}
use Rattle.dav_store.specs.BodyCalls.{StartsBody, AddsToBody, with_body}
use Rattle.dav_resource.specs.declared.record.Outcome.{Outcome}
use Rattle.dav_resource.specs.declared.record.Outcome.TheVariants.{Granted, Barred, Refused}
use Rattle.dav_store.specs.Calls.{IsOwn, Reads, IsLawful, error_of}
use Rattle.dav_store.specs.PropertyCalls.{GetsQuota, get_quota_bar}
use Rattle.dav_store.specs.Store.{Store, Quota}
use Rattle.dav_wire.specs.Frames.{FrameValue}
use Rattle.dav_wire.specs.Replies.{ReplyValue, Done, Refused, Failed}
use Rattle.dav_server.specs.Events.{Action, frame_of, reply_of, Acts, AddsPiece, OnStore, ReadsRights}
use Rattle.dav_server.specs.Frames.{Encodes, Reacts}
use Rattle.dav_server.specs.Replies.{IsHeld, reply_with}
use Rattle.dav_server.specs.State.{Rules, ServerState, at_rest, with_store, locks_at}

module _ {F : Type 0} (see_store : F → Store) (says : F → Reads) where
  -- an action whose reply is that of the value that was encoded
  pub reacts : (rules : Rules) (frame : Option FrameValue) (old new : ServerState) (sent : Option (List ℕ)) (action : Action) (value : ReplyValue)
      → frame_of action ≡ frame → Acts see_store says rules action old new → value ≡ reply_of action → Encodes value sent
      → Reacts see_store says rules frame old sent new
  reacts rules frame old new sent action value of acts is encoded =
      record { action = action; of = of; acts = acts; encoded = rw is at encoded }

-- a body that is started, for the store at rest
pub starts : (state : ServerState) (old new : Store) (result : Result ℕ FsError) → StartsBody old result new
    → OnStore (λ store after. StartsBody store result after) (with_store state (at_rest old)) (with_store state (at_rest new))
starts state old new (Ok number) h =
    record { change = record { started = record { free = h.started.free; begun = ap at_rest h.started.begun }; refused = tt }; same = refl }
starts state old new (Err e) h =
    record { change = record { started = tt; refused = (ap at_rest h.refused.0, h.refused.1) }; same = refl }

-- bytes that are added to a body, for the store at rest
pub extends : (state : ServerState) (number : ℕ) (more : List ℕ) (old new : Store) (done : Unit {0}) → AddsToBody number more old (Ok done) new
    → OnStore (λ store after. AddsPiece number more store (Ok done) after) (with_store state (at_rest old)) (with_store state (at_rest new))
extends state number more old new done h =
    record { change = record { added = record { there = h.added.there; extended = ap at_rest h.added.extended }; refused = tt }; same = refl }

-- bytes that could not be added to a body, which is removed
pub fails_to_extend : (state : ServerState) (number : ℕ) (more : List ℕ) (old mid new : Store) (e : FsError) → AddsToBody number more old (Err e) mid → new ≡ with_body mid number None
    → OnStore (λ store after. AddsPiece number more store (Err e) after) (with_store state (at_rest old)) (with_store state (at_rest new))
fails_to_extend state number more old mid new e h dropped =
    record {
      change = (record { added = tt; refused = (refl, h.refused.1) }, ap at_rest dropped ∙ ap (λ (s : Store). at_rest (with_body s number None)) h.refused.0);
      same = refl;
    }

-- ---- calls that change only the log

-- at rest, stores with the same contents and facts are the same
pub same_at_rest : (old new : Store) → new.contents ≡ old.contents → new.facts ≡ old.facts → at_rest new ≡ at_rest old
same_at_rest old new contents facts = λ i. at_rest (record { contents = contents i; facts = facts i; log = [] })

-- get_quota changes only the log
pub quota_keeps : (old new : Store) (result : Result (ℕ × Option ℕ) FsError) → GetsQuota old result new → at_rest new ≡ at_rest old
quota_keeps old new (Ok quota) h = same_at_rest old new h.granted.effect.same h.granted.fixed
quota_keeps old new (Err e) h =
    elim h.declined [ inl p ↦ ap at_rest p.1 | inr d ↦ same_at_rest old new d.same d.fixed ]

-- an error of get_quota is `Memory`, or one that a store may return for its own reasons
quota_error : (quota : Option Quota) (outcome : Outcome) (e : FsError) → error_of outcome ≡ Some e → IsLawful (get_quota_bar quota) outcome → IsOwn e
quota_error quota Granted e cause lawful = cc
quota_error None (Barred d) e cause lawful =
    let is : NotImplemented ≡ e = same_Some _ _ (lawful ∙ cause) in
    subst IsOwn is (record { not_missing = λ p. cc; not_there = λ p. cc; not_memory = λ p. cc })
quota_error (Some q) (Barred d) e cause lawful = cc
quota_error quota (Refused d) e cause lawful = subst IsOwn (same_Some _ _ cause) lawful

-- the reply with what get_quota returned
pub held : (state : ServerState) (locks : ℕ) (old new : Store) (result : Result (ℕ × Option ℕ) FsError)
    → locks ≡ option_map_or length (locks_at state) 0 → GetsQuota old result new → state.seen.store ≡ at_rest old → IsHeld state (reply_with locks result)
held state locks old new (Ok q) count h same =
    record { quota = Ok q; returned = ap (λ (s : Store). s.contents.quota) same ∙ h.granted.effect.answer_is; failed = tt; is = ap (λ (n : ℕ). reply_with n (Ok q)) count }
held state locks old new (Err e) count h same =
    record {
      quota = Err e;
      returned = tt;
      failed = elim h.declined [ inl p ↦ inl p.0 | inr d ↦ inr (quota_error old.contents.quota d.outcome e d.cause d.lawful) ];
      is = ap (λ (n : ℕ). reply_with n (Err e)) count;
    }

-- ---- access rights

-- other access rights change neither the store nor the locks
pub rights_keep : (text : List ℕ) (reply : ReplyValue) (old new : ServerState) → ReadsRights text reply old new → new.seen ≡ old.seen
rights_keep text Done old new (rules, has, is) = ap (λ (s : ServerState). s.seen) is
rights_keep text (Refused reason) old new (none, same) = ap (λ (s : ServerState). s.seen) same
rights_keep text (Failed status) old new (recorded, same) = ap (λ (s : ServerState). s.seen) same
rights_keep text _ old new none = absurd none
