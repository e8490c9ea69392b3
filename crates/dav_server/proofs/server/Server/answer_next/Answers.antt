use Rattle.dav_server.specs.Answers.{answer_of}
use Rattle.dav_server.specs.State.{rules_of, state_of}
use Rattle.dav_server.proofs.StreamRuns.{read_and_answered}
use Rattle.dav_server.proofs.server.Server.answer_next.Goals as goal

pub returns-clause-answered : goal.returns-clause-answered
returns-clause-answered g c =
    let content = c.in_ok-content.ensures in
    read_and_answered g.F.GuardedFileSystem.seen g.F.GuardedFileSystem.reads (rules_of c.args.self.now) c.in-Some.header (answer_of c.answer_batch.result)
    (state_of g.F.GuardedFileSystem.seen g.L.DavLockSystem.seen c.args.self.now) (state_of g.F.GuardedFileSystem.seen g.L.DavLockSystem.seen c.answer_batch.new.self)
    (g.R.Read.remaining c.args.input.now) (g.R.Read.remaining c.read_header.new.input) (g.R.Read.remaining c.read_content.new.input) c.in_ok-content.content
    (rw c.in-Some.is at c.in_ok-header.ensures.read) content.read content.count content.skipped c.answer_batch.ensures.answers
