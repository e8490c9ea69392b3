use Rattle.std.proofs.Common.{◌≡◌, ◌∙◌, ap, refl, sym, Some, None, arith}
use Rattle.std.specs.Option.{option_map}
use Rattle.std.specs.FinMap.{get, remove}
use Rattle.dav_tree.specs.Entry.{stored_by}
use Rattle.dav_tree.specs.Before.{past_code}
use Rattle.dav_tree.specs.Kept.{Kept}
use Rattle.dav_tree.proofs.Marking.{numbers-remove}
use Rattle.dav_tree.proofs.Keeping.{kept-resources, missing-in, counted-before}
use Rattle.dav_tree.proofs.Sums.{part}
use Rattle.dav_tree.proofs.Editing.{size, part-fits, removed-kept, removed-has}
use Rattle.dav_tree.proofs.Saving.{saved-same}
use Rattle.dav_tree.proofs.entries.Entries.remove.Goals as goal

pub remove-requires-clause-childless : goal.remove-requires-clause-childless
remove-requires-clause-childless g c = λ name.
    let f = c.self.inside in let b = g.M.Medium.bytes f.medium in let h = g.M.Medium.holds f.medium in
    missing-in b _ f.tree.nodes f.bodies f.next _ c.args.self.now c.self.view_is _ (c.requires.childless name)

pub overflow_sub-self : goal.overflow_sub-self
overflow_sub-self g c =
    let f = c.self.inside in let b = g.M.Medium.bytes f.medium in let h = g.M.Medium.holds f.medium in
    let here : get c.args.self.now.resources c.args.key.now ≡ Some (stored_by b c.in-Some.entry) = kept-resources b _ f.tree.nodes f.bodies f.next _ c.args.self.now c.self.view_is c.args.key.now ∙ ap (option_map (stored_by b)) (sym c.remove.ensures.value ∙ c.in-Some.is) in
    omega (arith, ap (part size) here, c.len.ensures, part-fits c.args.self.now.resources c.args.key.now, counted-before b b h h (λ _ held. held) (λ _ _. refl) _ f.tree.nodes f.used f.bodies f.next _ c.args.self.now c.self.view_is c.self.invariant.0)

pub invariant_of-self : goal.invariant_of-self
invariant_of-self g c =
    let f = c.self.inside in let b = g.M.Medium.bytes f.medium in let h = g.M.Medium.holds f.medium in
    let here : get c.args.self.now.resources c.args.key.now ≡ Some (stored_by b c.in-Some.entry) = kept-resources b _ f.tree.nodes f.bodies f.next _ c.args.self.now c.self.view_is c.args.key.now ∙ ap (option_map (stored_by b)) (sym c.remove.ensures.value ∙ c.in-Some.is) in (
      removed-kept b b h h (λ _ held. held) (λ _ _. refl) _ f.tree.nodes f.used f.bodies f.next _ c.args.self.now c.self.view_is c.self.invariant.0 c.args.key.now c.remove.new.self.nodes c.remove.ensures.removed.values _
          (omega (arith, ap (part size) here, c.len.ensures, part-fits c.args.self.now.resources c.args.key.now, counted-before b b h h (λ _ held. held) (λ _ _. refl) _ f.tree.nodes f.used f.bodies f.next _ c.args.self.now c.self.view_is c.self.invariant.0)),
      saved-same (g.M.Medium.safe f.medium) _ _ c.remove.ensures.before c.self.invariant.1,
      c.self.invariant.2,
    )

pub returns-in-Some-clause-removed : goal.returns-in-Some-clause-removed
returns-in-Some-clause-removed g c =
    let f = c.self.inside in let b = g.M.Medium.bytes f.medium in let h = g.M.Medium.holds f.medium in
    removed-has b b h h (λ _ held. held) (λ _ _. refl) _ f.tree.nodes f.used f.bodies f.next _ c.args.self.now c.self.view_is c.self.invariant.0 c.args.key.now c.remove.new.self.nodes c.remove.ensures.removed.values _ _ (ap (past_code g.M.Medium.body_code b) c.remove.ensures.before)

pub invariant_of-self-in_default : goal.invariant_of-self-in_default
invariant_of-self-in_default g c =
    let f = c.self.inside in let b = g.M.Medium.bytes f.medium in let h = g.M.Medium.holds f.medium in
    let none : get c.args.self.now.resources c.args.key.now ≡ None = kept-resources b _ f.tree.nodes f.bodies f.next _ c.args.self.now c.self.view_is c.args.key.now ∙ ap (option_map (stored_by b)) (sym c.remove.ensures.value ∙ c.in_default.is) in (
      removed-kept b b h h (λ _ held. held) (λ _ _. refl) _ f.tree.nodes f.used f.bodies f.next _ c.args.self.now c.self.view_is c.self.invariant.0 c.args.key.now c.remove.new.self.nodes c.remove.ensures.removed.values f.used
          (omega (arith, ap (part size) none)),
      saved-same (g.M.Medium.safe f.medium) _ _ c.remove.ensures.before c.self.invariant.1,
      c.self.invariant.2,
    )

pub returns-in_default-clause-removed : goal.returns-in_default-clause-removed
returns-in_default-clause-removed g c =
    let f = c.self.inside in let b = g.M.Medium.bytes f.medium in let h = g.M.Medium.holds f.medium in
    removed-has b b h h (λ _ held. held) (λ _ _. refl) _ f.tree.nodes f.used f.bodies f.next _ c.args.self.now c.self.view_is c.self.invariant.0 c.args.key.now c.remove.new.self.nodes c.remove.ensures.removed.values _ _ (ap (past_code g.M.Medium.body_code b) c.remove.ensures.before)

pub returns-in-Some-clause-numbers : goal.returns-in-Some-clause-numbers
returns-in-Some-clause-numbers g c =
    numbers-remove c.args.self.now.numbers c.remove.new.self.nodes.numbers c.args.key.now (c.remove.ensures.removed.numbers ∙ ap (λ (k : Kept). remove k.numbers c.args.key.now) c.self.view_is)

pub returns-in_default-clause-numbers : goal.returns-in_default-clause-numbers
returns-in_default-clause-numbers g c =
    numbers-remove c.args.self.now.numbers c.remove.new.self.nodes.numbers c.args.key.now (c.remove.ensures.removed.numbers ∙ ap (λ (k : Kept). remove k.numbers c.args.key.now) c.self.view_is)
