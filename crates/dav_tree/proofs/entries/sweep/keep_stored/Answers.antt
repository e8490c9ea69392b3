use Rattle.std.proofs.Common.{◌≡◌, true, sym, subst}
use Rattle.dav_tree.proofs.Sweeping.{IsMarkedOrLeft, marked-step, marked-end, bodies-trans}
use Rattle.dav_tree.proofs.entries.sweep.keep_stored.Goals as goal

pub loop-body-preserved : goal.loop-body-preserved
loop-body-preserved g c =
    let medium = g.M.Medium in
    let before = c.loop-body.invariant in
    record {
      marked = λ number body at.
          marked-step (medium.marked c.loop-body.medium) (medium.marked c.keep.new.self) _ c.next.new.self number body
          (subst (λ es. IsMarkedOrLeft (medium.marked c.loop-body.medium) es number body) c.in-Some.ensures.steps (before.marked number body at))
          (c.keep.ensures.marks body)
          (λ same.
          let held = subst (λ b. medium.holds c.loop-body.medium b ≡ true) (sym same) (before.kept.held body (c.requires number body at)) in
          subst (λ b. medium.marked c.keep.new.self b ≡ true) same (c.keep.ensures.marked held));
      marks = λ body is. c.keep.ensures.marks body (before.marks body is);
      kept = bodies-trans medium.bytes medium.holds medium.safe c.args.medium.now c.loop-body.medium c.keep.new.self before.kept c.keep.ensures.kept;
    }

pub returns-clause-marked : goal.returns-clause-marked
returns-clause-marked g c = λ number body at.
    let marked = g.M.Medium.marked c.loop-body.medium in
    marked-end marked number body (subst (λ es. IsMarkedOrLeft marked es number body) c.in-None.ensures.steps.0 (c.loop-body.invariant.marked number body at))
