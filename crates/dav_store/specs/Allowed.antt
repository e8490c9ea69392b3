-- What a caller may do: this project's own choice.
use Rattle.std.specs.Prelude.{◌≡◌, true}
use Rattle.dav_resource.specs.declared.record.Outcome.TheVariants.{Granted}
use Rattle.dav_store.specs.Logged.{Logged}
use Rattle.dav_store.specs.Store.{Store}
use Rattle.dav_store.specs.Members.{IsIn}

-- each record of a granted call in the log is allowed
abbrev pub IsAllowed : Store → Type 0
IsAllowed store = (call : Logged) → IsIn call store.log → call.outcome ≡ Granted → store.facts.allows call ≡ true
