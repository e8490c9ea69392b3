use Rattle.std.proofs.Common.{◌≡◌, ◌++◌, ◌∷◌, [], ◌∙◌, Ok, ap, subst, sym}
use Rattle.dav_store.specs.Members.{IsIn}
use Rattle.dav_walks.specs.Listing.{Shown, shown_in, in_turn}
use Rattle.dav_walks.proofs.Adding.{one_taken, IsIn-last, IsIn-before}
use Rattle.dav_walks.proofs.listing.push_members.Goals as goal

pub push_shown-requires : goal.push_shown-requires
push_shown-requires c = λ entry is.
    let whole : c.loop-shown.listing.items ≡ c.pop.new.self.items ++ c.in-Some.shown ∷ [] = c.in-Some.ensures.items in
    c.loop-shown.invariant.names entry (subst (λ items. IsIn (Ok entry) items) (sym whole) (subst (λ (s : Shown). IsIn (Ok entry) (c.pop.new.self.items ++ s ∷ [])) (sym is) (IsIn-last (Ok entry) c.pop.new.self.items)))

pub loop-shown-preserved : goal.loop-shown-preserved
loop-shown-preserved c =
    let whole : c.loop-shown.listing.items ≡ c.pop.new.self.items ++ c.in-Some.shown ∷ [] = c.in-Some.ensures.items in
    record {
      left = c.loop-shown.invariant.left
          ∙ ap (λ items. shown_in c.args.directory.now items ++ in_turn c.loop-shown.waiting.items) whole
          ∙ one_taken c.args.directory.now c.pop.new.self.items c.in-Some.shown c.loop-shown.waiting.items c.push_shown.new.waiting.items c.in_ok-push_shown.ensures;
      names = λ entry i. c.loop-shown.invariant.names entry (subst (λ items. IsIn (Ok entry) items) (sym whole) (IsIn-before (Ok entry) c.pop.new.self.items (c.in-Some.shown ∷ []) i));
    }
