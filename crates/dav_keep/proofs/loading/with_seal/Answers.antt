use Rattle.std.proofs.Common.{◌≡◌, ◌∙◌, ℤ, pos, ◌∷◌, [], sym, ap}
use Rattle.dav_rows.specs.Contents.{StateValues}
use Rattle.dav_rows.specs.Changes.{state_entry}
use Rattle.dav_seal.specs.Seals.{seal_row}
use Rattle.dav_seal.proofs.Unsealed.{unsealed-two}
use Rattle.dav_keep.proofs.loading.with_seal.Goals as goal

pub returns-then-not-check-clause-err : goal.returns-then-not-check-clause-err
returns-then-not-check-clause-err c = λ m are two is_sealed.
    let first = c.has_number.ensures.0 c.if-not-has_number.false in
    let second = c.has_number-2.ensures.0 c.if-not-has_number-2.false in
    let seals = c.in_ok-seals.ensures m are (sym (unsealed-two m.states (state_entry c.args.state.now) (state_entry c.args.seal.now) two first second)) in
    let lists = sym two ∙ is_sealed.2 in
    let same : state_entry c.args.seal.now ≡ seal_row c.args.key m = cc in
    let checked = (c.check.ensures c.args.key m seals).1 same in
    let other = c.if-not-check.true in
    absurd (let no = sym checked ∙ other in cc)

pub returns-clause-seals : goal.returns-clause-seals
returns-clause-seals c = λ m are two.
    let first = c.has_number.ensures.0 c.if-not-has_number.false in
    let second = c.has_number-2.ensures.0 c.if-not-has_number-2.false in
    c.in_ok-seals.ensures m are (sym (unsealed-two m.states (state_entry c.args.state.now) (state_entry c.args.seal.now) two first second))

pub returns-clause-sealed : goal.returns-clause-sealed
returns-clause-sealed c = λ m are two.
    let first = c.has_number.ensures.0 c.if-not-has_number.false in
    let second = c.has_number-2.ensures.0 c.if-not-has_number-2.false in
    let seals = c.in_ok-seals.ensures m are (sym (unsealed-two m.states (state_entry c.args.state.now) (state_entry c.args.seal.now) two first second)) in
    let same = (c.check.ensures c.args.key m seals).0 c.if-not-check.false in
    let numbers = (state_entry c.args.state.now).1 in
    (numbers, c.has_key.ensures.0 c.if-not-has_key.false, two ∙ λ i. (first i, numbers) ∷ same i ∷ [])

pub returns-then-not-has_key-clause-err : goal.returns-then-not-has_key-clause-err
returns-then-not-has_key-clause-err c = λ m are two is_sealed.
    let lists = sym two ∙ is_sealed.2 in
    let head : state_entry c.args.state.now ≡ (pos 0, is_sealed.0) = cc in
    let is = c.has_key.ensures.1 (ap (λ (e : ℤ × StateValues). e.1.digest_key) head ∙ is_sealed.1) in
    let other = c.if-not-has_key.true in
    absurd (let no = sym is ∙ other in cc)
