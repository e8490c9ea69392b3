use Rattle.std.proofs.Common.{sym, subst}
use Rattle.dav_nodes.specs.Memo.{ArePlaces}
use Rattle.dav_nodes.proofs.memo.Memo.forget.Goals as goal

pub returns : goal.returns
returns c = λ old new known keeps. record {
  last = c.without.ensures old new (subst (ArePlaces old) (sym c.take.ensures.value) known.last) keeps;
  other = c.without-2.ensures old new (subst (ArePlaces old) (sym c.take-2.ensures.value) known.other) keeps;
}
