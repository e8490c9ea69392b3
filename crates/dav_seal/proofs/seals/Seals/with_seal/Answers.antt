use Rattle.std.proofs.Common.{◌∙◌, ℤ, ◌∷◌, [], ap, subst}
use Rattle.dav_rows.specs.Changes.{after}
use Rattle.dav_rows.specs.Contents.{StateValues}
use Rattle.dav_rows.specs.declared.change.Change.TheVariants.{PutState}
use Rattle.dav_rows.proofs.SavingLemmas.{after-append}
use Rattle.std.specs.FinMap.{insert}
use Rattle.dav_seal.specs.Seals.{AreSealsOf}
use Rattle.dav_seal.proofs.StoreLemmas.{seal_put}
use Rattle.dav_seal.proofs.seals.Seals.with_seal.Goals as goal

pub returns-clause-sealed : goal.returns-clause-sealed
returns-clause-sealed c = λ key m was.
    let changes = c.args.changes.items in
    let row = c.row.result in
    let now = subst (λ cs. AreSealsOf key (after cs m) c.apply_all.new.self) c.deref.ensures.value (c.in_ok-apply_all.ensures key m was) in
    ap (λ cs. after cs m) c.in_ok-push.ensures.items
    ∙ after-append changes (PutState row ∷ []) m
    ∙ ap (λ (e : ℤ × StateValues). record (after changes m) { states = insert (after changes m).states e.0 e.1 }) (c.row.ensures key (after changes m) now)

-- the row of the seal is not sealed itself
pub returns-clause-seals : goal.returns-clause-seals
returns-clause-seals c = λ key m was.
    let row = c.row.result in
    let changes = c.args.changes.items in
    let now = subst (λ cs. AreSealsOf key (after cs m) c.apply_all.new.self) c.deref.ensures.value (c.in_ok-apply_all.ensures key m was) in
    let is = c.row.ensures key (after changes m) now in
    subst (λ n. AreSealsOf key n c.apply_all.new.self)
    (ap (λ (e : ℤ × StateValues). record (after changes m) { states = insert (after changes m).states e.0 e.1 }) is)
    (seal_put key (after changes m) c.apply_all.new.self now row (ap (λ (e : ℤ × StateValues). e.0) is))
