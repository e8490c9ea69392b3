use Rattle.dav_find.proofs.Visits.{from_begins, from_breaks}
use Rattle.dav_find.proofs.finding.Finder.propfind_directory.Goals as goal

pub returns-in_err-writer : goal.returns-in_err-writer
returns-in_err-writer g c =
    from_breaks _ _ c.args.target.now c.args.depth c.args.writer.tree _ _ _ (rw c.in_err-writer.ensures.err at c.from_residual.ensures.1) c.in_err-writer.ensures.stopped

pub returns : goal.returns
returns g c =
    let visited = rw c.new-waiting.ensures.items at c.in_ok-writer.ensures.ok in
    let rest = rw (c.member_depth.ensures, visited.read.fixed) at c.visit_all.ensures in
    from_begins _ _ c.args.target.now c.args.depth c.in_ok-writer.quota c.args.writer.tree _ _ _ c.in_ok-writer.writer c.visit.new.waiting.items _ visited rest
