use Rattle.std.proofs.Common.{◌≡◌, ◌++◌, ◌∙◌, ◌+◌, ◌<◌, ℕ, MatchOption, vec_len, List, Option, None, Some, IfSome, append-nil, refl, subst, ap}
use Rattle.std.specs.Option.{option_to_list}
use Rattle.std.specs.FinMap.{keys}
use Rattle.dav_store.specs.Store.{Contents}
use Rattle.dav_walks.specs.Counting.{count_below}
use Rattle.dav_walks.specs.Listing.{AreThere, waiting_count}
use Rattle.dav_walks.specs.declared.listing.Resource.{Resource}
use Rattle.dav_walks.proofs.Adding.{next_turn, next_counted, next_fewer, next_there}
use Rattle.dav_walks.proofs.listing.take_next.Goals as goal

pub returns : goal.returns
returns c = record {
  turn = next_turn (vec_len c.args.waiting.now) c.args.waiting.now.items c.pop.new.self.items c.pop.result c.pop.ensures.items c.pop.ensures.rest (emptied (vec_len c.args.waiting.now) (vec_len c.pop.new.self) c.pop.result c.pop.ensures.cases);
  counted = λ contents formed there. of_some c.pop.result (λ r. 0 < count_below r.path.key (keys contents.tree)) (λ r is. next_counted contents c.args.waiting.now.items c.pop.new.self.items r (c.pop.ensures.items ∙ ap (λ o. c.pop.new.self.items ++ option_to_list o) is) formed there);
  fewer = λ contents. of_some c.pop.result (λ r. waiting_count contents c.args.waiting.now.items ≡ waiting_count contents c.pop.new.self.items + count_below r.path.key (keys contents.tree)) (λ r is. next_fewer contents c.args.waiting.now.items c.pop.new.self.items r (c.pop.ensures.items ∙ ap (λ o. c.pop.new.self.items ++ option_to_list o) is));
  there = λ contents there. left contents c.args.waiting.now.items c.pop.new.self.items c.pop.result c.pop.ensures.items there;
}
  where
    emptied : (n m : ℕ) (o : Option Resource) → MatchOption o ((n ≡ 0) × (m ≡ 0)) (λ _. m + 1 ≡ n) → MatchOption o (n ≡ 0) (λ _. ℕ)
    emptied n m None h = h.0
    emptied n m (Some r) h = 0

    of_some : (o : Option Resource) (P : Resource → Type 0) → ((r : Resource) → o ≡ Some r → P r) → IfSome o P
    of_some None P h = tt
    of_some (Some r) P h = h r refl

    left : (contents : Contents) (before after : List Resource) (o : Option Resource) → before ≡ after ++ option_to_list o → AreThere contents before → AreThere contents after × IfSome o (λ r. contents.metas r.path.key ≡ Some r.meta)
    left contents before after None is there = (subst (λ rs. AreThere contents rs) (is ∙ append-nil after) there, tt)
    left contents before after (Some r) is there = next_there contents before after r is there
