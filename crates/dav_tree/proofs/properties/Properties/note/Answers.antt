use Rattle.std.proofs.Common.{◌∙◌, ap, subst, sym}
use Rattle.dav_key.specs.Below.{put_at}
use Rattle.dav_tree.specs.PropertyNames.{key_of}
use Rattle.dav_tree.specs.Patching.{IsPlan, changes_of}
use Rattle.dav_tree.proofs.Outcomes.{on_ok_then}
use Rattle.dav_tree.proofs.Patching.{plan-change, plan-add}
use Rattle.dav_tree.proofs.properties.Properties.note.Goals as goal

pub returns-then-has : goal.returns-then-has
returns-then-has c =
    on_ok_then c.change.result
    (λ noted want plan.
    subst (λ name. IsPlan c.args.self.now c.change.new.self.added (changes_of c.change.new.self.changed) (put_at want name c.args.element)) c.in_ok-name.ensures
    (plan-change c.args.self.now c.args.plan.now.added (changes_of c.args.plan.now.changed) want plan (key_of c.in_ok-name.name) c.args.element c.change.new.self.added
    (changes_of c.change.new.self.changed) (sym c.has.ensures ∙ c.if-has.true) c.change.ensures.added noted))
    c.change.ensures.changed

pub returns-else-has : goal.returns-else-has
returns-else-has c =
    on_ok_then c.add.result
    (λ noted want plan.
    subst (λ name. IsPlan c.args.self.now c.add.new.self.added (changes_of c.add.new.self.changed) (put_at want name c.args.element)) c.in_ok-name.ensures
    (plan-add c.args.self.now c.args.plan.now.added (changes_of c.args.plan.now.changed) want plan (key_of c.in_ok-name.name) c.args.element c.add.new.self.added
    (changes_of c.add.new.self.changed) (sym c.has.ensures ∙ c.if-has.false) noted (ap changes_of c.add.ensures.changed)))
    c.add.ensures.added
