use Rattle.std.proofs.Common.{◌≡◌, ◌≤◌, ◌∷◌, [], reverse, length, Some, None, ap, ◌∙◌, arith}
use Rattle.std.proofs.lemmas.List.{nil_from_length, reverse-append}
use Rattle.std.proofs.lemmas.Result.{err_from_is_err_and}
use Rattle.dav_walks.proofs.CopyMeasure.{one_done}
use Rattle.dav_walks.proofs.CopyVisit.{next_segment, visited, visit_cut, going_off, begun, begun_cut, unbegun, going_over, going_back, back_to}
use Rattle.dav_walks.proofs.copying.CopyTask.copy_tree.Goals as goal

-- the source itself
pub returns-in_err-clone-clause-stopped : goal.returns-in_err-clone-clause-stopped
returns-in_err-clone-clause-stopped g c =
    let p = err_from_is_err_and c.from_residual.result c.from_residual.ensures.1 in
    rw p.1 (unbegun c.args.self.now.source.now c.args.self.now.dest.now c.args.self.now.topdest.now.key _ c.args.res.now c.requires.room)

pub returns-in_err-clone-2-clause-stopped : goal.returns-in_err-clone-2-clause-stopped
returns-in_err-clone-2-clause-stopped g c =
    let p = err_from_is_err_and c.from_residual-in_err-clone-2.result c.from_residual-in_err-clone-2.ensures.1 in
    rw p.1 (unbegun c.args.self.now.source.now c.args.self.now.dest.now c.args.self.now.topdest.now.key _ c.args.res.now c.requires.room)

pub returns-in_err-enter_copy-clause-stopped : goal.returns-in_err-enter_copy-clause-stopped
returns-in_err-enter_copy-clause-stopped g c =
    let p = err_from_is_err_and c.from_residual-in_err-enter_copy.result c.from_residual-in_err-enter_copy.ensures.1 in
    let formed = g.met.F.GuardedFileSystem.well_formed in
    rw (p.1, c.in_err-enter_copy.ensures.unnamed) (begun_cut c.args.self.now.source.now c.args.self.now.dest.now c.args.self.now.topdest.now.key _ c.args.res.now c.requires.room (formed c.args.fs.now) _ _ c.in_ok-clone.ensures c.in_ok-clone-2.ensures
    _ c.in_err-enter_copy.ensures.fixed c.in_err-enter_copy.ensures.stopped)

pub returns-in-None-clause-done : goal.returns-in-None-clause-done
returns-in-None-clause-done g c =
    let formed = g.met.F.GuardedFileSystem.well_formed in
    going_over c.args.self.now.source.now c.args.self.now.dest.now c.args.self.now.topdest.now.key _ _ _ _ (formed c.args.fs.now)
    (begun c.args.self.now.source.now c.args.self.now.dest.now c.args.self.now.topdest.now.key _ c.args.res.now c.requires.room (formed c.args.fs.now) _ _ c.in_ok-clone.ensures c.in_ok-clone-2.ensures _ (formed c.enter_copy.new.fs) _ None
    (rw c.in-None.is at c.in_ok-enter_copy.ensures.done)) c.in_ok-enter_copy.ensures.fixed

pub walk-init : goal.walk-init
walk-init g c =
    let formed = g.met.F.GuardedFileSystem.well_formed in
    rw c.new-parents.ensures.items (record {
      going = begun c.args.self.now.source.now c.args.self.now.dest.now c.args.self.now.topdest.now.key _ c.args.res.now c.requires.room (formed c.args.fs.now) _ _ c.in_ok-clone.ensures c.in_ok-clone-2.ensures _ (formed c.enter_copy.new.fs) _ (Some c.in-Some.frame)
          (rw c.in-Some.is at c.in_ok-enter_copy.ensures.done);
      fixed = c.in_ok-enter_copy.ensures.fixed;
    })

-- a member
pub visit_member-requires-clause-names : goal.visit_member-requires-clause-names
visit_member-requires-clause-names g c =
    let formed = g.met.F.GuardedFileSystem.well_formed in
    next_segment c.args.self.now.source.now c.args.self.now.dest.now c.requires.room (formed c.args.fs.now) (formed c.walk.fs) c.walk.invariant.going

pub returns-in_err-inner-clause-stopped : goal.returns-in_err-inner-clause-stopped
returns-in_err-inner-clause-stopped g c =
    let p = err_from_is_err_and c.from_residual-in_err-inner.result c.from_residual-in_err-inner.ensures.1 in
    let formed = g.met.F.GuardedFileSystem.well_formed in
    rw (p.1, c.in_err-inner.ensures.unnamed) (visit_cut c.args.self.now.source.now c.args.self.now.dest.now c.requires.room (formed c.args.fs.now) (formed c.walk.fs) c.walk.invariant.going _ (c.in_err-inner.ensures.fixed ∙ c.walk.invariant.fixed) c.in_err-inner.ensures.stopped)

pub returns-in_err-push-clause-stopped : goal.returns-in_err-push-clause-stopped
returns-in_err-push-clause-stopped g c =
    let p = err_from_is_err_and c.from_residual-in_err-push.result c.from_residual-in_err-push.ensures.1 in
    let formed = g.met.F.GuardedFileSystem.well_formed in
    let went = visited c.args.self.now.source.now c.args.self.now.dest.now c.requires.room (formed c.args.fs.now) (formed c.walk.fs) c.walk.invariant.going _ (formed c.visit_member.new.fs) _ _ (Some c.in-Some-2.inner) (rw c.in-Some-2.is at c.in_ok-inner.ensures.done) in
    rw p.1 (going_off went.0 (c.in_ok-inner.ensures.fixed ∙ c.walk.invariant.fixed))

pub walk-smaller-in-Some-2 : goal.walk-smaller-in-Some-2
walk-smaller-in-Some-2 g c =
    let formed = g.met.F.GuardedFileSystem.well_formed in
    rw (c.in_ok-push.ensures.items, reverse-append c.walk.parents.items (c.visit_member.new.frame ∷ []))
    (visited c.args.self.now.source.now c.args.self.now.dest.now c.requires.room (formed c.args.fs.now) (formed c.walk.fs) c.walk.invariant.going _ (formed c.visit_member.new.fs) _ _ (Some c.in-Some-2.inner) (rw c.in-Some-2.is at c.in_ok-inner.ensures.done)).1

pub walk-preserved-in-Some-2 : goal.walk-preserved-in-Some-2
walk-preserved-in-Some-2 g c =
    let formed = g.met.F.GuardedFileSystem.well_formed in
    rw (c.in_ok-push.ensures.items, reverse-append c.walk.parents.items (c.visit_member.new.frame ∷ [])) (record {
      going = (visited c.args.self.now.source.now c.args.self.now.dest.now c.requires.room (formed c.args.fs.now) (formed c.walk.fs) c.walk.invariant.going _ (formed c.visit_member.new.fs) _ _ (Some c.in-Some-2.inner) (rw c.in-Some-2.is at c.in_ok-inner.ensures.done)).0;
      fixed = c.in_ok-inner.ensures.fixed ∙ c.walk.invariant.fixed;
    })

pub walk-smaller-in_default : goal.walk-smaller-in_default
walk-smaller-in_default g c =
    let formed = g.met.F.GuardedFileSystem.well_formed in
    (visited c.args.self.now.source.now c.args.self.now.dest.now c.requires.room (formed c.args.fs.now) (formed c.walk.fs) c.walk.invariant.going _ (formed c.visit_member.new.fs) _ _ None (rw c.in_default.is at c.in_ok-inner.ensures.done)).1

pub walk-preserved-in_default : goal.walk-preserved-in_default
walk-preserved-in_default g c =
    let formed = g.met.F.GuardedFileSystem.well_formed in
    record {
      going = (visited c.args.self.now.source.now c.args.self.now.dest.now c.requires.room (formed c.args.fs.now) (formed c.walk.fs) c.walk.invariant.going _ (formed c.visit_member.new.fs) _ _ None (rw c.in_default.is at c.in_ok-inner.ensures.done)).0;
      fixed = c.in_ok-inner.ensures.fixed ∙ c.walk.invariant.fixed;
    }

-- the end of a directory
pub returns-in-None-pop-clause-done : goal.returns-in-None-pop-clause-done
returns-in-None-pop-clause-done g c =
    let done : length c.walk.frame.listing.items ≤ c.walk.frame.next = omega (arith, c.len.ensures, c.walk.frame.listing.ok.0, c.if-frame-len.false) in
    let none : length c.walk.parents.items ≡ 0 = omega (arith, c.in-None-pop.ensures.cases, c.walk.parents.ok.0) in
    going_over c.args.self.now.source.now c.args.self.now.dest.now c.args.self.now.topdest.now.key _ _ _ _ (g.met.F.GuardedFileSystem.well_formed c.args.fs.now)
    (back_to (ap reverse (nil_from_length c.walk.parents.items none)) (going_back c.walk.invariant.going done)) c.walk.invariant.fixed

pub walk-smaller : goal.walk-smaller
walk-smaller g c =
    rw (c.in-Some-pop.ensures.items, reverse-append c.pop.new.self.items (c.in-Some-pop.parent ∷ [])) (one_done _ c.walk.frame (c.in-Some-pop.parent ∷ reverse c.pop.new.self.items))

pub walk-preserved : goal.walk-preserved
walk-preserved g c =
    let done : length c.walk.frame.listing.items ≤ c.walk.frame.next = omega (arith, c.len.ensures, c.walk.frame.listing.ok.0, c.if-frame-len.false) in
    record {
      going = back_to (ap reverse c.in-Some-pop.ensures.items ∙ reverse-append c.pop.new.self.items (c.in-Some-pop.parent ∷ [])) (going_back c.walk.invariant.going done);
      fixed = c.walk.invariant.fixed;
    }
