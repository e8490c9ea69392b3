use Rattle.std.proofs.Common.{sym, ◌∙◌, arith}
use Rattle.std.proofs.lemmas.Bool.Decides.{nat_tests}
use Rattle.dav_props.proofs.LanguageLemmas.{any-other}
use Rattle.dav_props.proofs.language.LanguageList.after.Goals as goal

pub returns-in_default : goal.returns-in_default
returns-in_default c =
    any-other c.args.self c.args.byte (sym c.is_ascii_alphanumeric.ensures.value ∙ c.if-is_ascii_alphanumeric.false) (grind (arith, nat_tests)) (grind (arith, nat_tests)) (grind (arith, nat_tests))
