use Rattle.std.proofs.Common.{◌∙◌, sym, ap}
use Rattle.std.specs.Option.{option_copied, option_to_list}
use Rattle.dav_store.specs.Locks.{has_token}
use Rattle.dav_memls.proofs.OneLook.{found_one, found_no}
use Rattle.dav_memls.proofs.memory_locks.indexed.IndexedLocks.with_token.Goals as goal

pub returns-in_err-number : goal.returns-in_err-number
returns-in_err-number c =
    let self = c.args.self.now in
    ap (λ o. option_to_list (option_copied o)) c.from_residual.ensures
    ∙ found_no (has_token c.args.token.now) self.locks.entries self.ordered (sym (self.indexed.tokens c.args.token.now) ∙ ap option_to_list (sym c.in_err-number.ensures))

pub returns : goal.returns
returns c =
    let self = c.args.self.now in
    ap option_to_list c.of_number.ensures
    ∙ found_one (has_token c.args.token.now) self.locks.entries c.in_ok-number.number self.ordered (sym (self.indexed.tokens c.args.token.now) ∙ ap option_to_list (sym c.in_ok-number.ensures))
