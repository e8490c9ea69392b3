use Rattle.std.proofs.Common.{◌≡◌, ◌∙◌, true, Ok, ap, sym, inl, subst}
use Rattle.std.specs.Str.{IsUtf8, is_utf8}
use Rattle.std.proofs.lemmas.Str.{is_utf8-from_IsUtf8}
use Rattle.percent_encoding.specs.Percent.{percent_decode}
use Rattle.dav_resource.proofs.Utf8Lemmas.{is_utf8-of_other}
use Rattle.dav_resource.proofs.path.read.decode_utf8.Goals as goal

pub returns-in-Ok-clause-value : goal.returns-in-Ok-clause-value
returns-in-Ok-clause-value c =
    let is : is_utf8 (percent_decode c.args.part.now) ≡ true = is_utf8-from_IsUtf8 _ (subst IsUtf8 c.percent_decode_str.ensures.bytes c.in-Ok.ensures.ok_only_if_utf8) in
    rw is (ap Ok (sym (c.in-Ok.ensures.value ∙ c.percent_decode_str.ensures.bytes)))

pub returns-in-Err-Utf8-clause-value : goal.returns-in-Err-Utf8-clause-value
returns-in-Err-Utf8-clause-value c =
    let not_text = is_utf8-of_other (percent_decode c.args.part.now) (λ text. let ok = c.in-Err-Utf8.ensures.utf8 (rw c.percent_decode_str.ensures.bytes text) in cc) in
    inl (rw not_text)
