use Rattle.std.proofs.Common.{sym, ◌∙◌, inl, inr}
use Rattle.dav_props.proofs.LanguageLemmas.{new-blank, whole-blank, part-blank}
use Rattle.dav_props.proofs.language.LanguageList.after_blank.Goals as goal

pub returns-then-is_whole : goal.returns-then-is_whole
returns-then-is_whole c = whole-blank c.args.self c.args.blank c.requires (sym c.is_whole.ensures ∙ c.if-is_whole.true)

pub returns-then-count-eq0 : goal.returns-then-count-eq0
returns-then-count-eq0 c = rw (c.in-Primary.is, c.if-count-eq0.true) (new-blank c.args.blank c.requires)

pub returns-else-count-eq0 : goal.returns-else-count-eq0
returns-else-count-eq0 c =
    part-blank c.args.self c.args.blank c.requires (sym c.is_whole.ensures ∙ c.if-is_whole.false) (λ e. c.if-count-eq0.false (let is = c.in-Primary.is in cc))

pub returns-in-Subtag : goal.returns-in-Subtag
returns-in-Subtag c =
    part-blank c.args.self c.args.blank c.requires (sym c.is_whole.ensures ∙ c.if-is_whole.false)
    (λ e. elim c.in-Subtag.is [ inl (count, is) ↦ cc | inr (inl is) ↦ cc | inr (inr is) ↦ cc ])
