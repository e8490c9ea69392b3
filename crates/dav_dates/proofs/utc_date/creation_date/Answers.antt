use Rattle.std.proofs.lemmas.Result.{IfOk-weaker}
use Rattle.dav_dates.proofs.CreationDate.{creation_date_text_is}
use Rattle.dav_dates.proofs.utc_date.creation_date.Goals as goal

pub returns : goal.returns
returns c =
    IfOk-weaker c.format.result _ _ (λ text is. creation_date_text_is c.utc-shown.result c.args.secs c.utc-shown.ensures _ is) c.format.ensures.ok
