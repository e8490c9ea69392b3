use Rattle.std.proofs.Common.{◌≡◌, ◌≤◌, length, refl, ◌∙◌, arith}
use Rattle.std.specs.Prelude.{◌&&◌}
use Rattle.std.proofs.lemmas.List.{nil_from_length}
use Rattle.std.proofs.lemmas.Result.{err_from_is_err_and}
use Rattle.dav_walks.proofs.Halting.{nothing_halts}
use Rattle.dav_walks.proofs.Going.{begins_over, begins_cut, going_begins}
use Rattle.dav_walks.proofs.Ending.{going_over, going_back, back_smaller, going_close_halts, walked_all, halted_off}
use Rattle.dav_walks.proofs.Visiting.{next_segment, visit_cut, visit_over, visit_opened}
use Rattle.dav_walks.proofs.deletion.delete_tree.Goals as goal

-- the path itself
pub returns-in_err-clone-clause-stopped : goal.returns-in_err-clone-clause-stopped
returns-in_err-clone-clause-stopped g c =
    let p = err_from_is_err_and c.from_residual.result c.from_residual.ensures.1 in
    rw p.1 (halted_off _ _ _ _ _ refl (nothing_halts c.args.path.now _ _ c.args.res.now _ (g.met.F.GuardedFileSystem.well_formed c.args.fs.now)))

pub returns-in_err-enter-clause-stopped : goal.returns-in_err-enter-clause-stopped
returns-in_err-enter-clause-stopped g c =
    let p = err_from_is_err_and c.from_residual-in_err-enter.result c.from_residual-in_err-enter.ensures.1 in
    let formed = g.met.F.GuardedFileSystem.well_formed in
    rw (p.1, c.in_err-enter.ensures.unnamed) (halted_off _ _ _ _ _ c.in_err-enter.ensures.fixed (begins_cut c.args.path.now _ _ _ c.args.res.now c.args.res.now (formed c.args.fs.now) (formed c.enter.new.fs) c.in_ok-clone.ensures c.args.dir c.requires.there c.in_err-enter.ensures.stopped))

pub returns-in-Over-clause-done : goal.returns-in-Over-clause-done
returns-in-Over-clause-done g c =
    let formed = g.met.F.GuardedFileSystem.well_formed in
    walked_all _ _ _ _ _ _ (formed c.args.fs.now) c.in_ok-enter.ensures.fixed
    (begins_over c.args.path.now _ _ _ _ _ (formed c.args.fs.now) (formed c.enter.new.fs) c.in_ok-clone.ensures c.args.dir c.requires.there c.in-Over.field-0 (rw c.in-Over.is at c.in_ok-enter.ensures.done))

pub walk-init : goal.walk-init
walk-init g c =
    let formed = g.met.F.GuardedFileSystem.well_formed in
    rw c.new-parents.ensures.items (record {
      going = going_begins c.args.path.now _ _ _ _ _ (formed c.args.fs.now) (formed c.enter.new.fs) c.in_ok-clone.ensures c.args.dir c.requires.there c.in-Opened.frame (rw c.in-Opened.is at c.in_ok-enter.ensures.done);
      fixed = c.in_ok-enter.ensures.fixed;
    })

-- an entry
pub visit-requires-clause-names : goal.visit-requires-clause-names
visit-requires-clause-names g c = next_segment c.walk.invariant.going

pub returns-in_err-inner-clause-stopped : goal.returns-in_err-inner-clause-stopped
returns-in_err-inner-clause-stopped g c =
    let p = err_from_is_err_and c.from_residual-in_err-inner.result c.from_residual-in_err-inner.ensures.1 in
    rw (p.1, c.in_err-inner.ensures.unnamed) (halted_off _ _ _ _ _ (c.in_err-inner.ensures.fixed ∙ c.walk.invariant.fixed) (visit_cut c.walk.invariant.going _ (g.met.F.GuardedFileSystem.well_formed c.visit.new.fs) c.in_err-inner.ensures.stopped))

pub returns-in_err-push-clause-stopped : goal.returns-in_err-push-clause-stopped
returns-in_err-push-clause-stopped g c =
    let p = err_from_is_err_and c.from_residual-in_err-push.result c.from_residual-in_err-push.ensures.1 in
    let went = visit_opened c.walk.invariant.going (g.F.GuardedFileSystem.seen c.visit.new.fs) (g.met.F.GuardedFileSystem.well_formed c.visit.new.fs) c.visit.new.res c.visit.new.frame c.in-Some.inner _ refl (rw c.in-Some.is at c.in_ok-inner.ensures.done) in
    rw p.1 (halted_off _ _ _ _ _ (c.in_ok-inner.ensures.fixed ∙ c.walk.invariant.fixed) went.2)

pub walk-smaller-in-Some : goal.walk-smaller-in-Some
walk-smaller-in-Some g c =
    (visit_opened c.walk.invariant.going (g.F.GuardedFileSystem.seen c.visit.new.fs) (g.met.F.GuardedFileSystem.well_formed c.visit.new.fs) c.visit.new.res c.visit.new.frame c.in-Some.inner c.push.new.self.items c.in_ok-push.ensures.items
    (rw c.in-Some.is at c.in_ok-inner.ensures.done)).1

pub walk-preserved-in-Some : goal.walk-preserved-in-Some
walk-preserved-in-Some g c = record {
  going = (visit_opened c.walk.invariant.going (g.F.GuardedFileSystem.seen c.visit.new.fs) (g.met.F.GuardedFileSystem.well_formed c.visit.new.fs) c.visit.new.res c.visit.new.frame c.in-Some.inner c.push.new.self.items c.in_ok-push.ensures.items
      (rw c.in-Some.is at c.in_ok-inner.ensures.done)).0;
  fixed = c.in_ok-inner.ensures.fixed ∙ c.walk.invariant.fixed;
}

pub walk-smaller-in_default : goal.walk-smaller-in_default
walk-smaller-in_default g c =
    (visit_over c.walk.invariant.going (g.F.GuardedFileSystem.seen c.visit.new.fs) (g.met.F.GuardedFileSystem.well_formed c.visit.new.fs) c.visit.new.res c.visit.new.frame (rw c.in_default.is at c.in_ok-inner.ensures.done)).1

pub walk-preserved-in_default : goal.walk-preserved-in_default
walk-preserved-in_default g c = record {
  going = (visit_over c.walk.invariant.going (g.F.GuardedFileSystem.seen c.visit.new.fs) (g.met.F.GuardedFileSystem.well_formed c.visit.new.fs) c.visit.new.res c.visit.new.frame (rw c.in_default.is at c.in_ok-inner.ensures.done)).0;
  fixed = c.in_ok-inner.ensures.fixed ∙ c.walk.invariant.fixed;
}

-- the end of a directory
pub returns-in_err-clean-clause-stopped : goal.returns-in_err-clean-clause-stopped
returns-in_err-clean-clause-stopped g c =
    let p = err_from_is_err_and c.from_residual-in_err-clean.result c.from_residual-in_err-clean.ensures.1 in
    let done : length c.walk.frame.listing.items ≤ c.walk.frame.next = omega (arith, c.len.ensures, c.walk.frame.listing.ok.0, c.if-frame-len.false) in
    rw (p.1, c.in_err-clean.ensures.unnamed) (halted_off _ _ _ _ _ (c.in_err-clean.ensures.fixed ∙ c.walk.invariant.fixed) (going_close_halts c.walk.invariant.going _ done c.in_err-clean.ensures.clean c.in_err-clean.ensures.stopped))

pub returns-in-None-clause-done : goal.returns-in-None-clause-done
returns-in-None-clause-done g c =
    let done : length c.walk.frame.listing.items ≤ c.walk.frame.next = omega (arith, c.len.ensures, c.walk.frame.listing.ok.0, c.if-frame-len.false) in
    let none : length c.walk.parents.items ≡ 0 = omega (arith, c.in-None.ensures.cases, c.walk.parents.ok.0) in
    let formed = g.met.F.GuardedFileSystem.well_formed in
    walked_all _ _ _ _ _ _ (formed c.args.fs.now) (c.in_ok-clean.ensures.fixed ∙ c.walk.invariant.fixed)
    (going_over c.walk.invariant.going done _ _ c.in_ok-clean.clean (formed c.close.new.fs) c.in_ok-clean.ensures.done (nil_from_length c.walk.parents.items none))

pub walk-smaller : goal.walk-smaller
walk-smaller g c = back_smaller (g.F.GuardedFileSystem.seen c.args.fs.now).contents.tree c.walk.frame c.walk.parents.items c.pop.new.self.items c.in-Some-pop.parent (c.in-Some-pop.parent.clean && c.in_ok-clean.clean) c.in-Some-pop.ensures.items

pub walk-preserved : goal.walk-preserved
walk-preserved g c =
    let done : length c.walk.frame.listing.items ≤ c.walk.frame.next = omega (arith, c.len.ensures, c.walk.frame.listing.ok.0, c.if-frame-len.false) in
    record {
      going = going_back c.walk.invariant.going done _ _ c.in_ok-clean.clean (g.met.F.GuardedFileSystem.well_formed c.close.new.fs) c.in_ok-clean.ensures.done c.pop.new.self.items c.in-Some-pop.parent c.in-Some-pop.ensures.items;
      fixed = c.in_ok-clean.ensures.fixed ∙ c.walk.invariant.fixed;
    }
