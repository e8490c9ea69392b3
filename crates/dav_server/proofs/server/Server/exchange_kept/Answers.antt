use Rattle.dav_server.specs.State.{rules_of}
use Rattle.dav_server.proofs.KeptRuns.{still_lasts, exchanged_and_saved, stops_unkept, stops_unwritten, stops_unread}
use Rattle.dav_server.proofs.server.Server.exchange_kept.Goals as goal

pub returns-in_err-answer-clause-stopped : goal.returns-in_err-answer-clause-stopped
returns-in_err-answer-clause-stopped g c =
    stops_unread g.F.GuardedFileSystem.seen g.L.DavLockSystem.seen g.F.GuardedFileSystem.reads (rules_of c.args.self.now)
    g.K.Keeper.lasts g.K.Keeper.lasts_either g.K.Keeper.same c.from_residual.result c.args.keeper.now c.args.self.now c.answer_next.new.self (g.W.Write.contents c.args.output.now)
    g.met.K.Keeper.as_first c.in_err-answer.ensures.failed

pub returns-in_err-keep-clause-stopped : goal.returns-in_err-keep-clause-stopped
returns-in_err-keep-clause-stopped g c =
    stops_unkept g.F.GuardedFileSystem.seen g.L.DavLockSystem.seen g.F.GuardedFileSystem.reads (rules_of c.args.self.now)
    g.K.Keeper.lasts g.K.Keeper.lasts_either g.K.Keeper.same _ c.args.self.now c.answer_next.new.self _ _ (rw c.in-Some.is at c.in_ok-answer.ensures.answered)
    c.keep.new.self c.in_err-keep.ensures.saved c.from_residual-in_err-keep.result c.args.keeper.now c.keep.new.keeper (g.W.Write.contents c.args.output.now)
    c.in_err-keep.ensures.either

pub returns-in_err-write_answer-clause-stopped : goal.returns-in_err-write_answer-clause-stopped
returns-in_err-write_answer-clause-stopped g c =
    stops_unwritten g.F.GuardedFileSystem.seen g.L.DavLockSystem.seen g.F.GuardedFileSystem.reads (rules_of c.args.self.now)
    g.K.Keeper.lasts g.K.Keeper.lasts_either g.K.Keeper.same _ c.args.self.now c.answer_next.new.self _ _ (rw c.in-Some.is at c.in_ok-answer.ensures.answered)
    c.keep.new.self c.in_ok-keep.ensures.saved c.from_residual-in_err-write_answer.result c.args.keeper.now c.keep.new.keeper
    (g.W.Write.contents c.args.output.now) (g.W.Write.contents c.write_answer.new.output) g.met.K.Keeper.as_first g.met.K.Keeper.as_second c.in_ok-keep.ensures.kept

pub returns-clause-served : goal.returns-clause-served
returns-clause-served g c _ =
    exchanged_and_saved g.F.GuardedFileSystem.seen g.L.DavLockSystem.seen g.F.GuardedFileSystem.reads (rules_of c.args.self.now)
    g.K.Keeper.lasts g.K.Keeper.lasts_either g.K.Keeper.same _ c.args.self.now c.answer_next.new.self _ _ (rw c.in-Some.is at c.in_ok-answer.ensures.answered)
    c.keep.new.self c.in_ok-keep.ensures.saved _ _ c.in_ok-write_answer.ensures

pub returns-clause-kept : goal.returns-clause-kept
returns-clause-kept g c earlier since =
    c.in_ok-keep.ensures.kept earlier
    (still_lasts g.F.GuardedFileSystem.seen g.L.DavLockSystem.seen g.F.GuardedFileSystem.reads (rules_of c.args.self.now)
    g.K.Keeper.lasts g.K.Keeper.lasts_either g.K.Keeper.same _ c.args.self.now c.answer_next.new.self _ _ (rw c.in-Some.is at c.in_ok-answer.ensures.answered)
    c.args.keeper.now earlier since)
