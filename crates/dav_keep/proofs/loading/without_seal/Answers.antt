use Rattle.std.proofs.Common.{sym}
use Rattle.dav_rows.specs.Changes.{state_entry}
use Rattle.dav_seal.proofs.Unsealed.{unsealed-one}
use Rattle.dav_keep.proofs.loading.without_seal.Goals as goal

pub returns-clause-seals : goal.returns-clause-seals
returns-clause-seals c = λ m are one.
    let first = c.has_number.ensures.0 c.if-not-has_number.false in
    c.in_ok-of_rows.ensures m are (sym (unsealed-one m.states (state_entry c.args.state.now) one first))
