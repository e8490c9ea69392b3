-- What contracts see of what a request submits: this project's own choice.
use Rattle.std.specs.Prelude.{Bool, ◌||◌, bytes_eq}
use Rattle.std.specs.Option.{option_copied, option_eq}
use Rattle.dav_store.specs.declared.lock.DavLock.{DavLock}
use Rattle.dav_store.specs.Locks.{is_submitted}
use Rattle.dav_memls.specs.declared.memory_locks.submitted.Submitted.{Submitted}

-- whether the lock's principal is that of the request or is ignored
abbrev pub is_from : Submitted → DavLock → Bool
is_from submitted lock = submitted.ignore_principal || option_eq bytes_eq lock.principal (option_copied submitted.principal)

-- whether the lock is submitted
abbrev pub passes : Submitted → DavLock → Bool
passes submitted lock = is_submitted (option_copied submitted.principal) submitted.ignore_principal submitted.tokens.now lock
