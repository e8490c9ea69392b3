use Rattle.std.proofs.Common.{◌∙◌, [], ap, refl, sym}
use Rattle.std.specs.Option.{option_copied}
use Rattle.dav_key.specs.Flat.{segments_of}
use Rattle.dav_memls.specs.LockIndex.{among, is_of_key}
use Rattle.dav_memls.proofs.OneLook.{first_found, no_first}
use Rattle.dav_memls.proofs.memory_locks.indexed.IndexedLocks.first_at.Goals as goal

pub returns-in_err-at : goal.returns-in_err-at
returns-in_err-at c =
    let self = c.args.self.now in
    let key = segments_of c.args.key.now in
    ap option_copied c.from_residual.ensures
    ∙ no_first (among c.args.register (is_of_key key)) [] self.locks.entries self.ordered (c.in_err-at.ensures ∙ self.indexed.at c.args.register key) refl

pub returns-in_err-number : goal.returns-in_err-number
returns-in_err-number c =
    let self = c.args.self.now in
    let key = segments_of c.args.key.now in
    ap option_copied c.from_residual-in_err-number.ensures
    ∙ no_first (among c.args.register (is_of_key key)) c.in_ok-at.field-0.now.set.keys self.locks.entries self.ordered (c.in_ok-at.ensures ∙ self.indexed.at c.args.register key) (sym c.in_err-number.ensures)

pub returns : goal.returns
returns c =
    let self = c.args.self.now in
    let key = segments_of c.args.key.now in
    c.of_number.ensures
    ∙ first_found (among c.args.register (is_of_key key)) c.in_ok-number.number c.in_ok-at.field-0.now.set.keys self.locks.entries self.ordered (c.in_ok-at.ensures ∙ self.indexed.at c.args.register key) (sym c.in_ok-number.ensures)
