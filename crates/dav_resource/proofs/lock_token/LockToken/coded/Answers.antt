use Rattle.std.proofs.Common.{sym, subst, string_bytes}
use Rattle.std.proofs.lemmas.Result.{IfOk-weaker}
use Rattle.http_header.specs.FieldValue.{IsFieldValue}
use Rattle.dav_resource.proofs.TokenLemmas.{IsFieldValue-coded}
use Rattle.dav_resource.proofs.lock_token.LockToken.coded.Goals as goal

pub returns-clause-field_value : goal.returns-clause-field_value
returns-clause-field_value c =
    IfOk-weaker c.in_brackets.result _ _ (λ text is. subst IsFieldValue (sym is) (IsFieldValue-coded (string_bytes c.self.inside.text) c.self.invariant)) (rw c.as_str.ensures.value at c.in_brackets.ensures)
