use Rattle.std.proofs.Common.{◌∙◌, inl, refl}
use Rattle.dav_server.specs.Exchanges.{IsAnswered, AreRun}
use Rattle.dav_server.specs.State.{rules_of}
use Rattle.dav_server.proofs.ReadingBack.{one_run}
use Rattle.dav_server.proofs.StreamRuns.{runs_none, runs_more, runs_end, runs_stopped}
use Rattle.dav_server.proofs.server.Server.serve.Goals as goal

pub returns-in_err-exchange-clause-stopped : goal.returns-in_err-exchange-clause-stopped
returns-in_err-exchange-clause-stopped g c =
    let (same, loans, run) = c.loop.invariant in
    runs_stopped g.F.GuardedFileSystem.seen g.F.GuardedFileSystem.reads (rules_of c.args.self.now) c.from_residual.result _ _ _ _ _ _ _
    run (rw same at c.in_err-exchange.ensures.stopped)

pub loop-init : goal.loop-init
loop-init g c =
    let seen = g.F.GuardedFileSystem.seen in
    let said = g.F.GuardedFileSystem.reads in
    let rules = rules_of c.args.self.now in
    (refl, refl, runs_none (IsAnswered seen said rules) (AreRun seen said rules) (one_run seen said rules) _ (g.R.Read.remaining c.args.input.now) (g.W.Write.contents c.args.output.now))

pub loop-preserved : goal.loop-preserved
loop-preserved g c =
    let seen = g.F.GuardedFileSystem.seen in
    let said = g.F.GuardedFileSystem.reads in
    let rules = rules_of c.args.self.now in
    let (same, loans, run) = c.loop.invariant in
    let more = c.in_ok-exchange.ensures.served c.if-not-branch.false in
    (c.in_ok-exchange.ensures.rules ∙ same, c.in_ok-exchange.ensures.loans ∙ loans, runs_more _ _ (one_run seen said rules) _ _ _ _ _ _ _ _ _ run (rw same at more))

pub returns-clause-stopped : goal.returns-clause-stopped
returns-clause-stopped g c =
    let (same, loans, run) = c.loop.invariant in
    record { exchanges = run.exchanges; mid = _; answered = run.answered; law = run.law; stopped = inl refl }

pub returns-then-not-branch-clause-ran : goal.returns-then-not-branch-clause-ran
returns-then-not-branch-clause-ran g c =
    let seen = g.F.GuardedFileSystem.seen in
    let said = g.F.GuardedFileSystem.reads in
    let rules = rules_of c.args.self.now in
    let (same, loans, run) = c.loop.invariant in
    runs_end _ _ (one_run seen said rules) _ _ _ _ _ _ _ _ _ run (c.in_ok-exchange.ensures.ended c.if-not-branch.true)
