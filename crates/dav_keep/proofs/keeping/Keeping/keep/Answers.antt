use Rattle.std.proofs.Common.{◌∙◌, subst}
use Rattle.dav_keep.proofs.Outcomes.{not_none, stops_early, stops_late, keeps_same, keeps_next}
use Rattle.dav_keep.proofs.SoundTrees.{on_err}
use Rattle.dav_keep.specs.Steps.{Prepares, Follows, Commits, MayCommit}
use Rattle.dav_keep.proofs.keeping.Keeping.keep.Goals as goal

pub returns-in_err-changes-clause-stopped : goal.returns-in_err-changes-clause-stopped
returns-in_err-changes-clause-stopped g c = λ image kept.
    on_err c.from_residual.result
    (stops_early g.met.S.Store.settled c.args.self.now c.prepare.new.self c.prepare.new.self c.args.store.now c.prepare.new.store c.args.locks.now c.args.now c.args.batch image kept
    c.in_err-changes.ensures.same c.in_err-changes.ensures.stopped)

pub returns-in_err-commit-in-Some-clause-stopped : goal.returns-in_err-commit-in-Some-clause-stopped
returns-in_err-commit-in-Some-clause-stopped g c = λ image kept.
    let prepared =
    subst (λ changes. Prepares c.args.self.now c.prepare.new.self c.args.store.now c.prepare.new.store c.args.locks.now changes)
    c.in-Some.is c.in_ok-changes.ensures.prepared in
    let crash =
    subst (λ counter. MayCommit c.prepare.new.self c.commit.new.self c.in-Some.changes.items (record { counter = counter; time = c.args.now; batch = c.args.batch; key = c.prepare.new.self.key })) c.version.ensures c.in_err-commit-in-Some.ensures.crash in
    on_err c.from_residual-in_err-commit-in-Some.result
    (stops_late g.met.S.Store.settled c.args.self.now c.prepare.new.self c.commit.new.self c.args.store.now c.prepare.new.store c.args.locks.now c.args.now c.args.batch image kept
    c.in_ok-changes.ensures.same c.in-Some.changes.items prepared c.in_err-commit-in-Some.ensures.same c.in_ok-changes.ensures.saved c.in_err-commit-in-Some.ensures.clean crash
    (c.in_ok-changes.ensures.took (λ none. not_none _ _ c.in-Some.is none)))

pub returns-in_ok-commit-in-Some-clause-kept : goal.returns-in_ok-commit-in-Some-clause-kept
returns-in_ok-commit-in-Some-clause-kept g c = λ image kept.
    let prepared =
    subst (λ changes. Prepares c.args.self.now c.prepare.new.self c.args.store.now c.prepare.new.store c.args.locks.now changes)
    c.in-Some.is c.in_ok-changes.ensures.prepared in
    let moves =
    subst (λ counter. Commits c.prepare.new.self c.commit.new.self c.in-Some.changes.items (record { counter = counter; time = c.args.now; batch = c.args.batch; key = c.prepare.new.self.key })) c.version.ensures c.in_ok-commit-in-Some.ensures.ok in
    let follows =
    subst (λ counter. Follows c.prepare.new.self c.commit.new.self c.in-Some.changes.items (record { counter = counter; time = c.args.now; batch = c.args.batch; key = c.prepare.new.self.key })) c.version.ensures c.in_ok-commit-in-Some.ensures.follows in
    keeps_next g.met.S.Store.settled c.args.self.now c.prepare.new.self c.commit.new.self c.args.store.now c.prepare.new.store c.args.locks.now c.args.now c.args.batch image kept
    c.in_ok-changes.ensures.same c.in-Some.changes.items prepared c.in_ok-commit-in-Some.ensures.same c.in_ok-changes.ensures.saved c.in_ok-commit-in-Some.ensures.clean moves follows
    (c.in_ok-commit-in-Some.ensures.version ∙ c.version.ensures)

pub returns-in-None-clause-kept : goal.returns-in-None-clause-kept
returns-in-None-clause-kept g c = λ image kept.
    let unchanged =
    subst (λ changes. Prepares c.args.self.now c.prepare.new.self c.args.store.now c.prepare.new.store c.args.locks.now changes)
    c.in-None.is c.in_ok-changes.ensures.prepared in
    keeps_same g.met.S.Store.settled c.args.self.now c.prepare.new.self c.prepare.new.self c.args.store.now c.prepare.new.store c.args.locks.now c.args.now c.args.batch image kept
    c.in_ok-changes.ensures.same unchanged (c.in_ok-changes.ensures.older c.in-None.is) c.in_ok-changes.ensures.saved
