use Rattle.std.proofs.Common.{◌≡◌, ◌∙◌, ap}
use Rattle.http_header.specs.FieldValue.{plain_value}
use Rattle.httpdate.specs.Date.{date_text}
use Rattle.dav_dates.proofs.FieldText.{IsFieldValue-date_text}
use Rattle.dav_dates.proofs.HttpDate.{http_date_text_is}
use Rattle.dav_dates.proofs.header_date.http_date_value.Goals as goal

pub from_known_valid-requires : goal.from_known_valid-requires
from_known_valid-requires c =
    let shown : c.in_ok-text.text ≡ date_text c.date_of.result = cc (c.in_ok-text.ensures, c.to_bytes.ensures) in
    rw shown (IsFieldValue-date_text c.date_of.result)

pub returns : goal.returns
returns c =
    let shown : c.in_ok-text.text ≡ date_text c.date_of.result = cc (c.in_ok-text.ensures, c.to_bytes.ensures) in
    c.from_known_valid.ensures ∙ ap plain_value (http_date_text_is c.args.secs c.in_ok-text.text (c.date_of.result, c.date_of.ensures, shown))
