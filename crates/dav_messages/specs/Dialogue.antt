-- Dialogues: the calls that a method makes to a store, in order, and how it ends.
use Rattle.std.specs.Prelude.{◌≡◌, List, [], ◌∷◌, ◌++◌, Option, None, Result, Ok, Err, ◌⊎◌}
use Rattle.dav_key.specs.Key.{Key}
use Rattle.dav_resource.specs.declared.meta.Meta.{Meta}
use Rattle.dav_resource.specs.declared.record.Op.{Op}
use Rattle.dav_resource.specs.declared.record.Outcome.{Outcome}
use Rattle.dav_resource.specs.declared.record.Outcome.TheVariants.{Granted, Barred, Refused}
use Rattle.dav_resource.specs.declared.error.FsError.{FsError}
use Rattle.dav_resource.specs.declared.error.DavError.{DavError}
use Rattle.dav_resource.specs.declared.error.DavError.TheVariants.{Memory}
use Rattle.dav_store.specs.Logged.{Logged, logged}
use Rattle.dav_store.specs.Store.{Store, Contents}
use Rattle.dav_store.specs.Calls.{Call, record_of, IsLawful, metadata_call}
use Rattle.dav_messages.specs.Reply.{Answer}

-- `Asks`: a call, whose outcome decides what follows. `Refuses`: a rejection of the request, by an error or a response. `Passed`: the end, with a
-- value.
pub data Dialogue (A : Type 0) : Type 0 where
  Asks : Call → (Outcome → Dialogue A) → Dialogue A
  Refuses : Answer → Dialogue A
  Passed : A → Dialogue A

-- the dialogue is not a rejection
abbrev pub GoesOn : {A : Type 0} → Dialogue A → Type 0
GoesOn (Asks call next) = Unit {0}
GoesOn (Refuses answer) = ⊥
GoesOn (Passed a) = Unit {0}

-- one dialogue, and then another that gets its value
infixl 10 ◌>>=◌
unfoldable pub ◌>>=◌ : {A B : Type 0} → Dialogue A → (A → Dialogue B) → Dialogue B
(Asks call next) >>= then = Asks call (λ outcome. next outcome >>= then)
(Refuses answer) >>= then = Refuses answer
(Passed a) >>= then = then a

-- the same result, with its error changed
abbrev pub map_error : {A : Type 0} → (DavError → DavError) → Result A DavError → Result A DavError
map_error change (Ok a) = Ok a
map_error change (Err e) = Err (change e)

-- the same dialogue, with the errors of its rejections changed
unfoldable pub refusing : {A : Type 0} → (DavError → DavError) → Dialogue A → Dialogue A
refusing change (Asks call next) = Asks call (λ outcome. refusing change (next outcome))
refusing change (Refuses answer) = Refuses (map_error change answer)
refusing change (Passed a) = Passed a

-- a call that has to be granted, or else the request fails with this error
abbrev pub needs : {A : Type 0} → Call → (FsError → DavError) → Dialogue A → Dialogue A
needs {A} call error next = Asks call met
  where
    met : Outcome → Dialogue A
    met Granted = next
    met (Barred e) = Refuses (Err (error e))
    met (Refused e) = Refuses (Err (error e))

-- the value, if the lookup was granted
abbrev pub if_granted : {A : Type 0} → Outcome → Option A → Option A
if_granted Granted seen = seen
if_granted (Barred e) seen = None
if_granted (Refused e) seen = None

-- a lookup of a key, which finds nothing if it is not granted
abbrev pub look_up : Contents → Key → Dialogue (Option Meta)
look_up contents key = Asks (metadata_call contents key) (λ outcome. Passed (if_granted outcome (contents.metas key)))

-- ---- how records follow a dialogue

-- the records are the dialogue's first calls, each with a lawful outcome, and `left` is the dialogue that follows them
abbrev pub LeadsTo : {A : Type 0} → Dialogue A → List Logged → Dialogue A → Type 0
LeadsTo dialogue [] left = left ≡ dialogue
LeadsTo (Asks call next) (logged ∷ records) left = (logged ≡ record_of call logged.outcome) × IsLawful call.bar logged.outcome × LeadsTo (next logged.outcome) records left
LeadsTo (Refuses answer) (logged ∷ records) left = ⊥
LeadsTo (Passed a) (logged ∷ records) left = ⊥

-- with these records the dialogue ends in a value, or rejects the request with the error, or memory ran out before its end
abbrev pub EndsIn : {A : Type 0} → Dialogue A → List Logged → Result A DavError → Type 0
EndsIn dialogue records (Ok a) = LeadsTo dialogue records (Passed a)
EndsIn {A} dialogue records (Err e) = LeadsTo dialogue records (Refuses (Err e)) ⊎ ((e ≡ Memory) × ((left : Dialogue A) × LeadsTo dialogue records left))

-- a call of this kind on this key was granted
abbrev pub WasGranted : Op → Key → List Logged → Type 0
WasGranted op key [] = ⊥
WasGranted op key (first ∷ records) = (first ≡ logged op (key ∷ []) Granted) ⊎ WasGranted op key records

-- the dialogue was carried out until its end, or until memory ran out, and nothing changed except the log
pub record Judges {A : Type 0} (dialogue : Dialogue A) (old : Store) (verdict : Result A DavError) (new : Store) : Type 0 where
  pub records : List Logged
  pub recorded : new.log ≡ old.log ++ records
  pub same : new.contents ≡ old.contents
  pub fixed : new.facts ≡ old.facts
  pub ends : EndsIn dialogue records verdict

-- The dialogue was carried out up to here, and nothing changed except the log. `left` is what follows.
pub record Reaches {A : Type 0} (dialogue : Dialogue A) (old : Store) (left : Dialogue A) (new : Store) : Type 0 where
  pub records : List Logged
  pub recorded : new.log ≡ old.log ++ records
  pub same : new.contents ≡ old.contents
  pub fixed : new.facts ≡ old.facts
  pub leads : LeadsTo dialogue records left
