use Rattle.std.proofs.Common.{◌∙◌, None, refl, sym, ap}
use Rattle.dav_nodes.specs.Noted.{before_of}
use Rattle.dav_tree.proofs.PastTrees.{saved-tree}
use Rattle.dav_tree.proofs.Saving.{saved-none, swept-saved, swept-past}
use Rattle.dav_tree.proofs.Sweeping.{files-more, bodies-trans, swept-kept, swept-has, swept-resources}
use Rattle.dav_tree.proofs.entries.Entries.sweep.Goals as goal

pub keep_files-requires : goal.keep_files-requires
keep_files-requires g c =
    let f = c.self.inside in
    files-more (g.M.Medium.holds f.medium) (g.M.Medium.holds c.begin_sweep.new.self) c.begin_sweep.ensures.held f.tree.nodes c.self.invariant.0.held

pub invariant_of-self : goal.invariant_of-self
invariant_of-self g c =
    let f = c.self.inside in
    let m = g.M.Medium in
    let kept =
    bodies-trans m.bytes m.holds m.safe f.medium c.begin_sweep.new.self c.keep_stored.new.medium c.begin_sweep.ensures
    (bodies-trans m.bytes m.holds m.safe c.begin_sweep.new.self c.keep_files.new.medium c.keep_stored.new.medium c.keep_files.ensures.kept c.keep_stored.ensures.kept) in
    let files = files-more (m.marked c.keep_files.new.medium) (m.marked c.keep_stored.new.medium) c.keep_stored.ensures.marks f.tree.nodes c.keep_files.ensures.marked in
    let past = saved-tree m.body_code (m.bytes f.medium) (before_of f.tree) f.tree.nodes c.args.self.now (ap (λ k. k.before) c.self.view_is) (ap (λ k. k.tree) c.self.view_is) c.requires in (
      swept-kept m.bytes m.holds m.safe m.marked f.medium c.keep_stored.new.medium c.end_sweep.new.self kept c.end_sweep.ensures _ f.tree.nodes f.used f.bodies f.next _ c.args.self.now
          c.self.view_is c.self.invariant.0 files c.keep_stored.ensures.marked,
      swept-saved m.bytes m.holds m.safe m.marked f.medium c.keep_stored.new.medium c.end_sweep.new.self kept c.end_sweep.ensures f.tree.nodes files (before_of f.tree) past c.self.invariant.1,
      saved-none (m.safe c.end_sweep.new.self) None refl,
    )

pub returns-clause-same : goal.returns-clause-same
returns-clause-same g c =
    let f = c.self.inside in
    let m = g.M.Medium in
    let kept =
    bodies-trans m.bytes m.holds m.safe f.medium c.begin_sweep.new.self c.keep_stored.new.medium c.begin_sweep.ensures
    (bodies-trans m.bytes m.holds m.safe c.begin_sweep.new.self c.keep_files.new.medium c.keep_stored.new.medium c.keep_files.ensures.kept c.keep_stored.ensures.kept) in
    let files = files-more (m.marked c.keep_files.new.medium) (m.marked c.keep_stored.new.medium) c.keep_stored.ensures.marks f.tree.nodes c.keep_files.ensures.marked in
    let are =
    swept-resources m.bytes m.holds m.safe m.marked f.medium c.keep_stored.new.medium c.end_sweep.new.self kept c.end_sweep.ensures _ f.tree.nodes f.used f.bodies f.next _ c.args.self.now
    c.self.view_is c.self.invariant.0 files c.keep_stored.ensures.marked in
    let past = saved-tree m.body_code (m.bytes f.medium) (before_of f.tree) f.tree.nodes c.args.self.now (ap (λ k. k.before) c.self.view_is) (ap (λ k. k.tree) c.self.view_is) c.requires in
    swept-has m.bytes m.holds m.safe m.marked f.medium c.keep_stored.new.medium c.end_sweep.new.self kept c.end_sweep.ensures _ f.tree.nodes f.used f.bodies f.next _ c.args.self.now
    c.self.view_is c.self.invariant.0 files c.keep_stored.ensures.marked _ _
    (swept-past m.bytes m.holds m.safe m.marked f.medium c.keep_stored.new.medium c.end_sweep.new.self kept c.end_sweep.ensures f.tree.nodes files m.body_code (before_of f.tree) past
    (are ∙ sym (ap (λ k. k.resources) c.self.view_is)))
