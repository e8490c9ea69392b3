use Rattle.std.proofs.Common.{[], sym, arith}
use Rattle.dav_props.proofs.LanguageLemmas.{accepts-primary_end, accepts-subtag_end, accepts-behind_end, accepts-unreadable}
use Rattle.dav_props.proofs.language.LanguageList.is_whole.Goals as goal

pub returns-in-Behind : goal.returns-in-Behind
returns-in-Behind c = rw c.in-Behind.is (sym accepts-behind_end)

pub returns-in-Unreadable : goal.returns-in-Unreadable
returns-in-Unreadable c = rw c.in-Unreadable.is (sym (accepts-unreadable []))

pub returns-in-Primary : goal.returns-in-Primary
returns-in-Primary c = grind (arith, accepts-primary_end c.in-Primary.count, accepts-subtag_end c.in-Primary.count)
