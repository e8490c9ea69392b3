use Rattle.dav_server.proofs.Executing.{answers}
use Rattle.dav_server.proofs.server.Server.serve_request.Goals as goal

pub returns-clause-reacts : goal.returns-clause-reacts
returns-clause-reacts g c = answers g.F.GuardedFileSystem.seen g.F.GuardedFileSystem.reads _ _ _ _ _ _ c.answer-answer.ensures.answers c.encode_answer.ensures
