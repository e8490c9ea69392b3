use Rattle.std.proofs.Common.{sym, ◌∙◌, inl, inr}
use Rattle.dav_props.proofs.LanguageLemmas.{primary-letter, primary-digit, primary-full, subtag-letter, subtag-full, behind-letter, unreadable-letter}
use Rattle.dav_props.proofs.language.LanguageList.after_letter.Goals as goal
use Rattle.dav_props.proofs.language.LanguageList.after_letter.Goals.{else-count-lt-MAX_SUBTAG_LENGTH-via-then-count-lt-MAX_SUBTAG_LENGTH+else-is_ascii_alphabetic, else-count-lt-MAX_SUBTAG_LENGTH-via-else-count-lt-MAX_SUBTAG_LENGTH}

pub returns-then-is_ascii_alphabetic : goal.returns-then-is_ascii_alphabetic
returns-then-is_ascii_alphabetic c =
    rw c.in-Primary.is (primary-letter c.in-Primary.count c.args.byte (sym c.is_ascii_alphabetic.ensures.value ∙ c.if-is_ascii_alphabetic.true))

pub returns-else-count-lt-MAX_SUBTAG_LENGTH : goal.returns-else-count-lt-MAX_SUBTAG_LENGTH
returns-else-count-lt-MAX_SUBTAG_LENGTH c =
    let digit = primary-digit c.in-Primary.count c.args.byte c.requires in
    let full = primary-full c.in-Primary.count c.args.byte in
    rw c.in-Primary.is (
    elim c.else-count-lt-MAX_SUBTAG_LENGTH.branch [
      | else-count-lt-MAX_SUBTAG_LENGTH-via-then-count-lt-MAX_SUBTAG_LENGTH+else-is_ascii_alphabetic w ↦ digit (sym w.is_ascii_alphabetic.ensures.value ∙ w.if-is_ascii_alphabetic.false)
      | else-count-lt-MAX_SUBTAG_LENGTH-via-else-count-lt-MAX_SUBTAG_LENGTH w ↦ full w.if-count-lt-MAX_SUBTAG_LENGTH.false c.requires
    ]
    )

pub returns-then-count-lt-MAX_SUBTAG_LENGTH-2 : goal.returns-then-count-lt-MAX_SUBTAG_LENGTH-2
returns-then-count-lt-MAX_SUBTAG_LENGTH-2 c = rw c.in-Subtag.is (subtag-letter c.in-Subtag.count c.args.byte c.requires)

pub returns-else-count-lt-MAX_SUBTAG_LENGTH-2 : goal.returns-else-count-lt-MAX_SUBTAG_LENGTH-2
returns-else-count-lt-MAX_SUBTAG_LENGTH-2 c =
    rw c.in-Subtag.is (subtag-full c.in-Subtag.count c.args.byte c.if-count-lt-MAX_SUBTAG_LENGTH-2.false c.requires)

pub returns-in-Behind : goal.returns-in-Behind
returns-in-Behind c =
    elim c.in-Behind.is [ inl is ↦ rw is (behind-letter c.args.byte c.requires) | inr is ↦ rw is (unreadable-letter c.args.byte c.requires) ]
