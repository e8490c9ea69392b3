-- What requests change, if the store allows the caller only some calls: this project's own choice.
use Rattle.std.specs.Prelude.{◌≡◌, ◌≢◌, true, List, ◌++◌}
use Rattle.dav_key.specs.Key.{Key}
use Rattle.dav_store.specs.Logged.{Logged}
use Rattle.dav_store.specs.Members.{IsIn}
use Rattle.dav_rights.specs.declared.rule.Rule.{Rule}
use Rattle.dav_rights.specs.Rights.{may_write}
use Rattle.dav_walks.specs.KeyCall.{standing}
use Rattle.dav_engine.specs.Bounds.{changes_at}
use Rattle.dav_engine.specs.State.{State, Seen, state_of}

-- the file (with its bytes) or directory at the key differs, or its dead properties
abbrev pub HasChanged : Key → State → State → Type 0
HasChanged key old new = standing new.contents key ≢ standing old.contents key

-- The log has gained these records, and what changed was changed by a call among them that was granted, and that is allowed: one at that key, or a rename
-- of or to that key or one above it.
pub record ChangesByAllowed (old new : Seen) : Type 0 where
  pub records : List Logged
  pub recorded : new.store.log ≡ old.store.log ++ records
  pub by : (key : Key) → HasChanged key (state_of old) (state_of new) → (call : Logged) × IsIn call records × (changes_at key call ≡ true) × (old.store.facts.allows call ≡ true)

-- what changed is where the rules let the caller write
abbrev pub ChangesWhereWritten : List Rule → State → State → Type 0
ChangesWhereWritten rules old new = (key : Key) → HasChanged key old new → may_write key rules ≡ true
