use Rattle.dav_find.proofs.Responses.{response_unfound, response_unstored, response_unreported, response_reported}
use Rattle.dav_find.proofs.finding.Finder.respond.Goals as goal

pub returns-in_err-found-clause-response : goal.returns-in_err-found-clause-response
returns-in_err-found-clause-response g c = response_unfound _ _ c.args.here.now c.args.quota _ (g.F.GuardedFileSystem.seen c.args.fs.now) _ _ _ c.from_residual.ensures.1 c.in_err-found.ensures.rules

pub returns-in_err-stored-clause-response : goal.returns-in_err-stored-clause-response
returns-in_err-stored-clause-response g c =
    let found = c.in_ok-found.ensures.rules in
    response_unstored _ _ c.args.here.now c.args.quota _ _ _ _ found _ _ c.from_residual-in_err-stored.ensures.1 (rw found.fixed at c.in_err-stored.ensures.stored)

pub returns-in_err-reported-clause-response : goal.returns-in_err-reported-clause-response
returns-in_err-reported-clause-response g c =
    let found = c.in_ok-found.ensures.rules in
    response_unreported _ _ c.args.here.now c.args.quota _ _ _ _ found _ _ c.from_residual-in_err-reported.ensures.1 (rw found.fixed at c.in_ok-stored.ensures.stored)

pub returns-clause-response : goal.returns-clause-response
returns-clause-response g c =
    let found = c.in_ok-found.ensures.rules in
    rw (c.from_vec.ensures, c.in_ok-reported.ensures, c.into_vec.ensures) (response_reported _ _ c.args.here.now c.args.quota _ _ _ _ found _ (rw found.fixed at c.in_ok-stored.ensures.stored))
