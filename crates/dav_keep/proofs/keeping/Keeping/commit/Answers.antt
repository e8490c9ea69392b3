use Rattle.std.proofs.Common.{◌∙◌, ◌⊎◌, ap, subst}
use Rattle.dav_rows.specs.Changes.{after}
use Rattle.dav_rows.specs.Contents.{Holds}
use Rattle.dav_rows.specs.Saving.{IsAt}
use Rattle.dav_seal.specs.Seals.{AreSealsOf}
use Rattle.sqlite.specs.Held.{state}
use Rattle.dav_keep.proofs.Committing.{saved_is}
use Rattle.dav_keep.proofs.keeping.Keeping.commit.Goals as goal

pub returns-in_err-save-clause-crash : goal.returns-in_err-save-clause-crash
returns-in_err-save-clause-crash g c = λ clean m seals at db may.
    subst (λ n. Holds db m ⊎ Holds db n)
    (ap (λ cs. after cs m) c.deref.ensures.value ∙ c.in_ok-changes.ensures.sealed c.args.numbers.key m seals ∙ saved_is c.args.changes.items c.push.new.self.items c.in_ok-row_of.field-0 c.args.numbers c.in_ok-row_of.ensures c.in_ok-push.ensures.items m)
    (c.in_err-save.ensures.crash clean m at db may)

pub returns-clause-follows : goal.returns-clause-follows
returns-clause-follows g c = λ m seals.
    subst (λ n. AreSealsOf c.args.numbers.key n c.with_seal.new.self)
    (saved_is c.args.changes.items c.push.new.self.items c.in_ok-row_of.field-0 c.args.numbers c.in_ok-row_of.ensures c.in_ok-push.ensures.items m)
    (c.in_ok-changes.ensures.seals c.args.numbers.key m seals)

pub returns-clause-ok : goal.returns-clause-ok
returns-clause-ok g c = λ clean m seals at.
    subst (λ n. IsAt (state {S = g.row.S.Denot} g.S.Store c.save.new.conn) n)
    (ap (λ cs. after cs m) c.deref.ensures.value ∙ c.in_ok-changes.ensures.sealed c.args.numbers.key m seals ∙ saved_is c.args.changes.items c.push.new.self.items c.in_ok-row_of.field-0 c.args.numbers c.in_ok-row_of.ensures c.in_ok-push.ensures.items m)
    (c.in_ok-save.ensures.ok clean m at)

pub returns-clause-crash : goal.returns-clause-crash
returns-clause-crash g c = λ clean m seals at db may.
    subst (λ n. Holds db m ⊎ Holds db n)
    (ap (λ cs. after cs m) c.deref.ensures.value ∙ c.in_ok-changes.ensures.sealed c.args.numbers.key m seals ∙ saved_is c.args.changes.items c.push.new.self.items c.in_ok-row_of.field-0 c.args.numbers c.in_ok-row_of.ensures c.in_ok-push.ensures.items m)
    (c.in_ok-save.ensures.crash clean m at db may)
