use Rattle.std.proofs.Common.{◌∙◌, sym, ap, Some, None}
use Rattle.std.specs.Option.{option_to_list}
use Rattle.dav_store.specs.Locks.{has_token}
use Rattle.dav_memls.specs.IndexedLocks.{locks_in}
use Rattle.dav_memls.proofs.LockLooks.{not_named}
use Rattle.dav_memls.proofs.OneLook.{found_one, found_no}
use Rattle.dav_memls.proofs.memory_locks.indexed.IndexedLocks.named.Goals as goal

pub returns-in_err-number : goal.returns-in_err-number
returns-in_err-number c =
    let self = c.args.self.now in
    rw c.from_residual.ensures (not_named c.args.path.now.key c.args.token.now (locks_in self) None
    (found_no (has_token c.args.token.now) self.locks.entries self.ordered (sym (self.indexed.tokens c.args.token.now) ∙ ap option_to_list (sym c.in_err-number.ensures))) tt)

pub returns-in_err-lock : goal.returns-in_err-lock
returns-in_err-lock c =
    let self = c.args.self.now in
    rw c.from_residual-in_err-lock.ensures (not_named c.args.path.now.key c.args.token.now (locks_in self) None
    (ap option_to_list c.in_err-lock.ensures ∙ found_one (has_token c.args.token.now) self.locks.entries c.in_ok-number.number self.ordered (sym (self.indexed.tokens c.args.token.now) ∙ ap option_to_list (sym c.in_ok-number.ensures))) tt)

pub returns-else-is_named : goal.returns-else-is_named
returns-else-is_named c =
    let self = c.args.self.now in
    not_named c.args.path.now.key c.args.token.now (locks_in self) (Some c.in_ok-lock.lock.now)
    (ap option_to_list c.in_ok-lock.ensures ∙ found_one (has_token c.args.token.now) self.locks.entries c.in_ok-number.number self.ordered (sym (self.indexed.tokens c.args.token.now) ∙ ap option_to_list (sym c.in_ok-number.ensures)))
    (sym c.if-is_named.ensures)
