use Rattle.std.proofs.lemmas.Result.{IfOk-weaker}
use Rattle.dav_dates.proofs.FieldText.{IsFieldValue-date_text}
use Rattle.dav_dates.proofs.HttpDate.{http_date_text_is}
use Rattle.dav_dates.proofs.header_date.http_date.Goals as goal

pub returns-clause-dated : goal.returns-clause-dated
returns-clause-dated c =
    IfOk-weaker c.fmt_http_date.result _ _ (λ text shown. (c.date_of.result, c.date_of.ensures, shown)) c.fmt_http_date.ensures

pub returns-clause-exact : goal.returns-clause-exact
returns-clause-exact c =
    IfOk-weaker c.fmt_http_date.result _ _ (λ text shown. http_date_text_is c.args.secs _ (c.date_of.result, c.date_of.ensures, shown)) c.fmt_http_date.ensures

pub returns-clause-field : goal.returns-clause-field
returns-clause-field c =
    IfOk-weaker c.fmt_http_date.result _ _ (λ text shown. rw shown (IsFieldValue-date_text c.date_of.result)) c.fmt_http_date.ensures
