use Rattle.std.proofs.Common.{◌∙◌, refl, sym, ap, subst}
use Rattle.dav_nodes.specs.Noted.{tree_of, before_of}
use Rattle.dav_tree.specs.Kept.{AreKept}
use Rattle.dav_tree.proofs.Keeping.{kept-same, has-now, has-asked, resources-before}
use Rattle.dav_tree.proofs.Outcomes.{on_err}
use Rattle.dav_tree.proofs.PastTrees.{noted-between}
use Rattle.dav_tree.proofs.Saving.{saved-all, saved-now, past-now}
use Rattle.dav_tree.proofs.Sweeping.{files-more}
use Rattle.dav_tree.proofs.entries.Entries.take_changes.Goals as goal

pub returns-clause-noted : goal.returns-clause-noted
returns-clause-noted g c =
    let tree = c.self.inside.tree in
    noted-between g.M.Medium.body_code (g.M.Medium.bytes c.self.inside.medium) c.take_changes-changes.result.0 (before_of tree) (tree_of tree) c.args.self.now.before _
    c.take_changes-changes.ensures.kept c.take_changes-changes.ensures.distinct (ap (λ k. k.before) c.self.view_is) (ap (λ k. k.tree) c.self.view_is)

pub invariant_of-self : goal.invariant_of-self
invariant_of-self g c =
    let f = c.self.inside in let m = g.M.Medium in (
      kept-same (m.bytes f.medium) (m.bytes c.sync.new.self) (m.holds f.medium) (m.holds c.sync.new.self) c.sync.ensures.kept.held c.sync.ensures.kept.same _ f.tree.nodes f.used f.bodies f.next _ c.args.self.now c.self.view_is c.self.invariant.0,
      saved-now m.bytes m.holds m.safe f.medium c.sync.new.self c.sync.ensures.kept _ _ refl c.self.invariant.1,
      saved-now m.bytes m.holds m.safe f.medium c.sync.new.self c.sync.ensures.kept _ _ refl c.self.invariant.2,
    )

pub returns-in_err-sync-clause-same : goal.returns-in_err-sync-clause-same
returns-in_err-sync-clause-same g c =
    let f = c.self.inside in let m = g.M.Medium in
    on_err c.from_residual.result
    (has-now (m.bytes f.medium) (m.bytes c.sync.new.self) (m.holds f.medium) (m.holds c.sync.new.self) c.sync.ensures.kept.held c.sync.ensures.kept.same _ f.tree.nodes f.used f.bodies f.next _ c.args.self.now c.self.view_is c.self.invariant.0 _ f.tree.nodes _
    (past-now m.bytes m.holds m.safe f.medium c.sync.new.self c.sync.ensures.kept m.body_code g.met.M.Medium.safe_held _ _ refl c.self.invariant.1) c.args.self.now.resources
    (resources-before (m.bytes f.medium) (m.bytes c.sync.new.self) (m.holds f.medium) (m.holds c.sync.new.self) c.sync.ensures.kept.held c.sync.ensures.kept.same _ f.tree.nodes f.used f.bodies f.next _ c.args.self.now c.self.view_is c.self.invariant.0))

pub invariant_of-self-2 : goal.invariant_of-self-2
invariant_of-self-2 g c =
    let f = c.self.inside in let m = g.M.Medium in
    let kept =
    kept-same (m.bytes f.medium) (m.bytes c.sync.new.self) (m.holds f.medium) (m.holds c.sync.new.self) c.sync.ensures.kept.held c.sync.ensures.kept.same _ f.tree.nodes f.used f.bodies f.next _ c.args.self.now c.self.view_is c.self.invariant.0 in (
      subst (λ t. AreKept (m.bytes c.sync.new.self) (m.holds c.sync.new.self) t f.used f.bodies f.next) (sym c.take_changes-changes.ensures.tree) kept,
      saved-all (m.safe c.sync.new.self) _ (tree_of f.tree) c.take_changes-changes.ensures.before (files-more (m.holds f.medium) (m.safe c.sync.new.self) c.in_ok-sync.ensures.safe (tree_of f.tree) c.self.invariant.0.held),
      saved-now m.bytes m.holds m.safe f.medium c.sync.new.self c.sync.ensures.kept _ _ c.take_changes-changes.ensures.older c.self.invariant.1,
    )

pub returns-clause-ok : goal.returns-clause-ok
returns-clause-ok g c =
    let f = c.self.inside in let m = g.M.Medium in
    has-asked (m.bytes f.medium) (m.bytes c.sync.new.self) (m.holds f.medium) (m.holds c.sync.new.self) c.sync.ensures.kept.held c.sync.ensures.kept.same _ f.tree.nodes f.used f.bodies f.next _ c.args.self.now c.self.view_is c.self.invariant.0 _ (tree_of c.take_changes-changes.new.self) c.take_changes-changes.ensures.tree _

pub returns-clause-older : goal.returns-clause-older
returns-clause-older g c =
    let f = c.self.inside in let m = g.M.Medium in
    past-now m.bytes m.holds m.safe f.medium c.sync.new.self c.sync.ensures.kept m.body_code g.met.M.Medium.safe_held _ _ c.take_changes-changes.ensures.older c.self.invariant.1
    ∙ ap (λ k. k.before) c.self.view_is

pub returns-in_err-sync-clause-older_same : goal.returns-in_err-sync-clause-older_same
returns-in_err-sync-clause-older_same g c =
    let f = c.self.inside in let m = g.M.Medium in
    on_err c.from_residual.result
    (past-now m.bytes m.holds m.safe f.medium c.sync.new.self c.sync.ensures.kept m.body_code g.met.M.Medium.safe_held _ _ refl c.self.invariant.2 ∙ ap (λ k. k.older) c.self.view_is)
