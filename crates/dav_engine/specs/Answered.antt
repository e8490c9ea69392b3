-- The result in which a dialogue ends.
use Rattle.std.specs.Prelude.{◌≡◌, List, [], Ok, Err}
use Rattle.dav_store.specs.Logged.{Logged}
use Rattle.dav_messages.specs.Dialogue.{Dialogue, Passed, Refuses, LeadsTo}
use Rattle.dav_messages.specs.Reply.{Reply, Answer}

-- over these records the dialogue passes a value, and `Allows` allows this response for it; or it rejects the request with this error
abbrev pub IsAnswered : {A : Type 0} → Dialogue A → (A → Reply → Type 0) → List Logged → Answer → Type 0
IsAnswered {A} dialogue Allows records (Ok reply) = (a : A) × LeadsTo dialogue records (Passed a) × Allows a reply
IsAnswered dialogue Allows records (Err e) = LeadsTo dialogue records (Refuses (Err e))

-- work that stopped before its first call: no records, and nothing changes
pub record Unbegun {A : Type 0} (old : A) (records : List Logged) (new : A) : Type 0 where
  pub none : records ≡ []
  pub same : new ≡ old
