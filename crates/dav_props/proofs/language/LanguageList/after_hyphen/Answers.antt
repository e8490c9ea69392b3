use Rattle.std.proofs.Common.{sym, ◌∙◌, inl, inr, refl}
use Rattle.dav_props.proofs.LanguageLemmas.{primary-hyphen, primary-no_hyphen, subtag-hyphen, subtag-no_hyphen, behind-inked, unreadable-any}
use Rattle.dav_props.proofs.language.LanguageList.after_hyphen.Goals as goal

pub returns-in-Behind : goal.returns-in-Behind
returns-in-Behind c = elim c.in-Behind.is [ inl is ↦ rw is (behind-inked 45 refl refl) | inr is ↦ rw is (unreadable-any 45 refl) ]

pub returns-then-is_subtag_length : goal.returns-then-is_subtag_length
returns-then-is_subtag_length c =
    let fits = sym c.is_subtag_length.ensures ∙ c.if-is_subtag_length.true in
    elim c.in-Primary.is [ inl is ↦ rw is (primary-hyphen c.in-Primary.count fits) | inr is ↦ rw is (subtag-hyphen c.in-Primary.count fits) ]

pub returns-else-is_subtag_length : goal.returns-else-is_subtag_length
returns-else-is_subtag_length c =
    let unfit = sym c.is_subtag_length.ensures ∙ c.if-is_subtag_length.false in
    elim c.in-Primary.is [ inl is ↦ rw is (primary-no_hyphen c.in-Primary.count unfit) | inr is ↦ rw is (subtag-no_hyphen c.in-Primary.count unfit) ]
