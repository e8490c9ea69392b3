-- Requests that the engine serves, as their callers see the store.
use Rattle.std.proofs.Common.{◌≡◌, ◌∙◌, List, [], map, Option, refl, ap, inl, inr, ◌⊎◌, ℕ, Some}
use Rattle.dav_resource.specs.declared.error.DavError.{DavError}
use Rattle.dav_resource.specs.declared.error.DavError.TheVariants.{Memory}
use Rattle.dav_messages.specs.Reply.{Answer}
use Rattle.dav_guarding.specs.Guarding.{inner_of, policy_of, records_of, refusals_of, seen_behind}
use Rattle.dav_guarding.specs.Policy.{leave_by}
use Rattle.dav_guarding.specs.declared.guarding.Guarding.{Guarding}
use Rattle.dav_guarding.specs.declared.policy.Policy.{Ghosts}
use Rattle.dav_rights.specs.Access.{refuses, refuses_by, refuses_to, rights_in, rights_under}
use Rattle.dav_rights.specs.Rules.{Caller}
use Rattle.dav_rights.specs.declared.access.Access.{Access}
use Rattle.dav_rights.specs.declared.rules.WrittenRule.{WrittenRule}
use Rattle.dav_store.specs.Calls.{Reads}
use Rattle.dav_store.specs.Logged.{logged_of}
use Rattle.dav_store.specs.Store.{Store}
use Rattle.dav_wrapping.specs.Wrapping.{seen_with}
use Rattle.dav_wire.specs.Frames.{RequestValue}
use Rattle.dav_wire.specs.Frames as frames
use Rattle.dav_wire.specs.Replies as replies
use Rattle.dav_server.specs.Events.{AnswersRequest, IsRejected}
use Rattle.dav_server.specs.Events as events
use Rattle.dav_server.specs.Frames.{Encodes, Reacts}
use Rattle.dav_server.specs.Replies.{response_of}
use Rattle.dav_server.specs.Requests.{IsUnfit}
use Rattle.dav_server.specs.State.{Rules, ServerState, at_rest, behind_refusals}

-- a guarded store that goes by what a caller may do is seen as the caller sees the store behind it
pub caller_view : {F : Type 0} {g : Ghosts Access} (see : F → Store) (old new : Guarding F Access g) (access : Access) (rights : Option (List WrittenRule)) (caller : Caller)
    → g.refusals ≡ refuses → inner_of new ≡ inner_of old → policy_of new ≡ access → records_of new ≡ [] → rights_in access ≡ rights_under rights caller
    → seen_behind see new ≡ behind_refusals (refuses_to rights caller) (at_rest (see (inner_of old)))
caller_view see old new access rights caller refusals inner policy none is =
    let by : refusals_of new ≡ refuses_to rights caller = ap (λ (r : Access → _). r (policy_of new)) refusals ∙ ap refuses policy ∙ ap refuses_by is in
    λ i. seen_with (leave_by (by i)) (see (inner i)) (map logged_of (none i))

-- why a frame carries no request
pub unfit : (rules : Rules) (state : ServerState) (frame : RequestValue) (e : DavError) → (e ≡ Memory) ⊎ IsUnfit rules.prefix frame e → IsRejected rules state frame e
unfit rules state frame e h = elim h [ inl p ↦ inl p | inr q ↦ inr (inl q) ]

module _ {F : Type 0} (see_store : F → Store) (says : F → Reads) where
  -- the reply to a request
  pub answers : (rules : Rules) (frame : RequestValue) (old : ServerState) (answer : Answer) (new : ServerState) (sent : Option (List ℕ))
      → AnswersRequest rules frame old answer new → Encodes (replies.Response (response_of answer)) sent
      → Reacts see_store says rules (Some (frames.Request frame)) old sent new
  answers rules frame old answer new sent (inl h) encoded =
      record { action = events.Rejected frame h.0; of = refl; acts = (h.2, h.3); encoded = rw h.1 at encoded }
  answers rules frame old answer new sent (inr h) encoded =
      record { action = events.Served frame h.0 answer; of = refl; acts = h.1; encoded = encoded }
