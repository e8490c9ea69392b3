use Rattle.std.proofs.Common.{arith, refl}
use Rattle.std.proofs.lemmas.Bool.Decides.{nat_tests}
use Rattle.dav_dates.specs.HttpDate.{http_date_text}
use Rattle.dav_engine.proofs.PutHeaders.{changed-some}
use Rattle.dav_engine.proofs.put_reply.change_value.Goals as goal

pub returns-in_ok-http_date_value-in-Some-changed-clause-ok : goal.returns-in_ok-http_date_value-in-Some-changed-clause-ok
returns-in_ok-http_date_value-in-Some-changed-clause-ok c =
    let secs = c.in-Some-changed.secs in
    let value = c.in_ok-http_date_value-in-Some-changed in
    changed-some c.args.meta.now c.in-Some.meta secs (http_date_text secs) value.field-0 c.in-Some.is c.in-Some-changed.is (grind (arith, nat_tests)) refl value.ensures
