use Rattle.std.proofs.lemmas.Result.{err_from_is_err_and}
use Rattle.dav_server.proofs.FieldLemmas.{refused}
use Rattle.dav_server.proofs.requests.read_headers.Goals as goal

pub returns-in_err-append-clause-err : goal.returns-in_err-append-clause-err
returns-in_err-append-clause-err c =
    let p = err_from_is_err_and c.from_residual.result c.from_residual.ensures.1 in
    rw (p.1, p.2) (refused c.args.fields.now c.loop-name.name-index _ c.loop-name.headers _ c.loop-name-test.true c.loop-name.invariant c.in_err-append.ensures.err)
