-- Dialogues that a caller cannot distinguish: the same calls, with the same outcomes and the same end.
use Rattle.std.proofs.Common.{◌≡◌, List, [], ◌∷◌, ◌++◌, refl, sym, ap, subst, inl, inr, ◌∙◌}
use Rattle.dav_resource.specs.declared.record.Outcome.{Outcome}
use Rattle.dav_resource.specs.declared.record.Outcome.TheVariants.{Granted, Barred, Refused}
use Rattle.dav_resource.specs.declared.error.FsError.{FsError}
use Rattle.dav_resource.specs.declared.error.DavError.{DavError}
use Rattle.dav_store.specs.Logged.{Logged}
use Rattle.dav_store.specs.Calls.{Call, record_of, IsLawful}
use Rattle.dav_store.specs.Members.{IsIn}
use Rattle.dav_messages.specs.Reply.{Answer}
use Rattle.dav_messages.specs.Dialogue.{Dialogue, Asks, Refuses, Passed, GoesOn, ◌>>=◌, refusing, needs, LeadsTo}
use Rattle.dav_guarding.specs.Policy.{Reveals}
use Rattle.dav_access.specs.Sight.{Sight, MaySee, AreSeen}

-- the calls have the same record
pub record HasSameRecord (one other : Call) : Type 0 where
  pub op : other.op ≡ one.op
  pub keys : other.keys ≡ one.keys

-- a caller may see what the call reads, if this outcome reveals something
abbrev pub IsSeen : Sight → Call → Outcome → Type 0
IsSeen sight call outcome = Reveals outcome → MaySee sight call.op call.keys

-- what follows a dialogue's first call
abbrev pub following : {A : Type 0} → Dialogue A → Outcome → Dialogue A
following (Asks call next) outcome = next outcome
following (Refuses answer) outcome = Refuses answer
following (Passed a) outcome = Passed a

module _ (sight : Sight) where
  -- The other dialogue asks the same, and goes on in the same way after each outcome that is lawful here and that the caller may see. It ends in the same
  -- value or rejection.
  abbrev pub Alike : {A : Type 0} → Dialogue A → Dialogue A → Type 0
  Alike {A} (Asks call next) other =
      (asked : Call) × (then : Outcome → Dialogue A) × (other ≡ Asks asked then) × HasSameRecord call asked
      × ((outcome : Outcome) → IsSeen sight call outcome → IsLawful call.bar outcome → IsLawful asked.bar outcome × Alike (next outcome) (then outcome))
  Alike (Refuses answer) other = other ≡ Refuses answer
  Alike (Passed a) other = other ≡ Passed a

  -- a dialogue in which each call is the same, and what follows too
  pub alike_asks : {A : Type 0} (call asked : Call) (next then : Outcome → Dialogue A) → asked ≡ call
      → ((outcome : Outcome) → IsSeen sight call outcome → Alike (next outcome) (then outcome)) → Alike (Asks call next) (Asks asked then)
  alike_asks call asked next then same go = (asked, then, refl, record { op = ap (λ (c : Call). c.op) same; keys = ap (λ (c : Call). c.keys) same }, λ outcome seen lawful. (subst (λ (c : Call). IsLawful c.bar outcome) (sym same) lawful, go outcome seen))

  -- a dialogue is like itself
  pub alike_same : {A : Type 0} (dialogue : Dialogue A) → Alike dialogue dialogue
  alike_same (Asks call next) = alike_asks call call next next refl (λ outcome seen. alike_same (next outcome))
  alike_same (Refuses answer) = refl
  alike_same (Passed a) = refl

  -- one dialogue, and then another
  pub alike_then : {A B : Type 0} (one other : Dialogue A) (next then : A → Dialogue B) → Alike one other → ((a : A) → Alike (next a) (then a)) → Alike (one >>= next) (other >>= then)
  unfolding ◌>>=◌
  alike_then (Asks call after) other next then alike go = (alike.0, (λ outcome. alike.1 outcome >>= then), ap (λ d. d >>= then) alike.2, alike.3, λ outcome seen lawful. let more = alike.4 outcome seen lawful in (more.0, alike_then (after outcome) (alike.1 outcome) next then more.1 go))
  alike_then (Refuses answer) other next then alike go = ap (λ d. d >>= then) alike
  alike_then (Passed a) other next then alike go = subst (λ d. Alike (next a) (d >>= then)) (sym alike) (go a)

  -- one dialogue, and then the same
  pub alike_first : {A B : Type 0} (one other : Dialogue A) (next : A → Dialogue B) → Alike one other → Alike (one >>= next) (other >>= next)
  alike_first one other next alike = alike_then one other next next alike (λ a. alike_same (next a))

  -- the errors of rejections, changed in the same way
  pub alike_refusing : {A : Type 0} (change : DavError → DavError) (one other : Dialogue A) → Alike one other → Alike (refusing change one) (refusing change other)
  unfolding refusing
  alike_refusing change (Asks call next) other alike = (alike.0, (λ outcome. refusing change (alike.1 outcome)), ap (refusing change) alike.2, alike.3, λ outcome seen lawful. let more = alike.4 outcome seen lawful in (more.0, alike_refusing change (next outcome) (alike.1 outcome) more.1))
  alike_refusing change (Refuses answer) other alike = ap (refusing change) alike
  alike_refusing change (Passed a) other alike = ap (refusing change) alike

  -- a call that has to be granted
  pub alike_needs : {A : Type 0} (call asked : Call) (error : FsError → DavError) (next then : Dialogue A) → asked ≡ call → (IsSeen sight call Granted → Alike next then) → Alike (needs call error next) (needs asked error then)
  alike_needs call asked error next then same go = alike_asks call asked (following (needs call error next)) (following (needs asked error then)) same by_outcome
    where
      by_outcome : (outcome : Outcome) → IsSeen sight call outcome → Alike (following (needs call error next) outcome) (following (needs asked error then) outcome)
      by_outcome Granted seen = go seen
      by_outcome (Barred e) seen = refl
      by_outcome (Refused e) seen = refl

  -- the other dialogue can have the same records
  pub alike_leads : {A : Type 0} (one other : Dialogue A) (records : List Logged) (left : Dialogue A) → Alike one other → AreSeen sight records → LeadsTo one records left
      → (rest : Dialogue A) × LeadsTo other records rest × Alike left rest
  alike_leads one other [] left alike seen leads = (other, refl, subst (λ d. Alike d other) (sym leads) alike)
  alike_leads (Asks call next) other (logged ∷ records) left alike seen leads =
      let keyed : IsSeen sight call logged.outcome = subst (λ (l : Logged). Reveals logged.outcome → MaySee sight l.op l.keys) leads.0 (seen logged (inl refl)) in
      let more = alike.4 logged.outcome keyed leads.1 in
      let rest = alike_leads (next logged.outcome) (alike.1 logged.outcome) records left more.1 (λ call is. seen call (inr is)) leads.2 in
      let record_is : logged ≡ record_of alike.0 logged.outcome = leads.0 ∙ (λ i. record { op = sym alike.3.op i; keys = sym alike.3.keys i; outcome = logged.outcome; statuses = [] }) in
      let asked : LeadsTo (Asks alike.0 alike.1) (logged ∷ records) rest.0 = (record_is, more.0, rest.1) in
      (rest.0, subst (λ d. LeadsTo d (logged ∷ records) rest.0) (sym alike.2) asked, rest.2)
  alike_leads (Refuses answer) other (logged ∷ records) left alike seen leads = absurd leads
  alike_leads (Passed a) other (logged ∷ records) left alike seen leads = absurd leads

  -- what it ends in is the same
  pub alike_passes : {A : Type 0} (one other : Dialogue A) (records : List Logged) (a : A) → Alike one other → AreSeen sight records → LeadsTo one records (Passed a) → LeadsTo other records (Passed a)
  alike_passes one other records a alike seen leads =
      let rest = alike_leads one other records (Passed a) alike seen leads in
      subst (LeadsTo other records) rest.2 rest.1

  pub alike_refuses : {A : Type 0} (one other : Dialogue A) (records : List Logged) (answer : Answer) → Alike one other → AreSeen sight records → LeadsTo one records (Refuses answer) → LeadsTo other records (Refuses answer)
  alike_refuses one other records answer alike seen leads =
      let rest = alike_leads one other records (Refuses answer) alike seen leads in
      subst (LeadsTo other records) rest.2 rest.1

  -- a dialogue that goes on is like one that does
  pub alike_goes_on : {A : Type 0} (one other : Dialogue A) → Alike one other → GoesOn one → GoesOn other
  alike_goes_on (Asks call next) other alike goes = subst GoesOn (sym alike.2) tt
  alike_goes_on (Refuses answer) other alike goes = absurd goes
  alike_goes_on (Passed a) other alike goes = subst GoesOn (sym alike) tt

  -- the first and the last of the records
  pub seen_first : (first rest records : List Logged) → records ≡ first ++ rest → AreSeen sight records → AreSeen sight first
  seen_first first rest records cut seen call is = seen call (subst (IsIn call) (sym cut) (before first is))
    where
      before : (first : List Logged) → IsIn call first → IsIn call (first ++ rest)
      before [] none = absurd none
      before (logged ∷ first) (inl same) = inl same
      before (logged ∷ first) (inr later) = inr (before first later)

  pub seen_rest : (first rest records : List Logged) → records ≡ first ++ rest → AreSeen sight records → AreSeen sight rest
  seen_rest first rest records cut seen call is = seen call (subst (IsIn call) (sym cut) (behind first))
    where
      behind : (first : List Logged) → IsIn call (first ++ rest)
      behind [] = is
      behind (logged ∷ first) = inr (behind first)
