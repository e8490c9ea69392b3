use Rattle.std.proofs.Common.{sym, refl}
use Rattle.dav_find.proofs.Visits.{on_err, visited_alone, visited_listed, part_unlisted}
use Rattle.dav_find.proofs.finding.Finder.visit.Goals as goal

pub returns-in_err-writer-clause-stopped : goal.returns-in_err-writer-clause-stopped
returns-in_err-writer-clause-stopped g c = on_err _ _ c.in_err-writer.ensures.stopped

pub returns-then-not-is_entered-clause-ok : goal.returns-then-not-is_entered-clause-ok
returns-then-not-is_entered-clause-ok g c =
    visited_alone _ _ c.args.depth c.args.here.now c.args.quota c.args.waiting.now.items c.args.writer.tree _ _ _ _ (sym c.if-not-is_entered.ensures)
    c.in_ok-writer.ensures.ok

pub returns-in_err-add_members-clause-stopped : goal.returns-in_err-add_members-clause-stopped
returns-in_err-add_members-clause-stopped g c =
    on_err _ _
    (part_unlisted _ _ c.args.depth c.args.here.now c.args.quota c.args.writer.tree _ _ _ _ _ (sym c.if-not-is_entered.ensures)
    c.in_ok-writer.ensures.ok c.in_err-add_members.ensures.stopped refl)

pub returns-clause-ok : goal.returns-clause-ok
returns-clause-ok g c =
    visited_listed _ _ c.args.depth c.args.here.now c.args.quota c.args.waiting.now.items _ c.args.writer.tree _ _ _ _ _ (sym c.if-not-is_entered.ensures)
    c.in_ok-writer.ensures.ok c.in_ok-add_members.ensures.added refl
