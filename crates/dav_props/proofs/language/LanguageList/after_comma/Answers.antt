use Rattle.std.proofs.Common.{sym, ◌∙◌}
use Rattle.dav_props.proofs.LanguageLemmas.{whole-comma, part-comma}
use Rattle.dav_props.proofs.language.LanguageList.after_comma.Goals as goal

pub returns-then-is_whole : goal.returns-then-is_whole
returns-then-is_whole c = λ rest. c.new.ensures rest ∙ whole-comma c.args.self (sym c.is_whole.ensures ∙ c.if-is_whole.true) rest

pub returns-else-is_whole : goal.returns-else-is_whole
returns-else-is_whole c = part-comma c.args.self (sym c.is_whole.ensures ∙ c.if-is_whole.false)
