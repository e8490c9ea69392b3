use Rattle.std.proofs.Common.{Bor, ◌≡◌, ◌∙◌, ◌∷◌, ◌≢◌, List, ℕ, Option, subst, sym, arith, rules}
use Rattle.std.specs.Option.{MatchOption}
use Rattle.std.proofs.lemmas.Str.Pattern.{strip_prefix_char, find_char}
use Rattle.dav_key.proofs.FlatLemmas.{next_none, next_some}
use Rattle.dav_key.proofs.segments.SegmentsIterator.next.Goals as goal

pub returns-in_default-clause-steps : goal.returns-in_default-clause-steps
returns-in_default-clause-steps c =
    let text = c.self.inside.rest.now in
    let none = next_none text c.strip_prefix.result c.self.invariant (strip_prefix_char 0 text c.strip_prefix.result c.strip_prefix.ensures.cases (omega arith)) c.in_default.is in
    let empty = sym c.self.view_is ∙ none in
    (empty, empty)

pub invariant_of-self : goal.invariant_of-self
invariant_of-self c =
    let text = c.self.inside.rest.now in
    let stripped = subst (λ (r : Option (Bor (List ℕ))). MatchOption r ((rest : List ℕ) → text ≢ 0 ∷ rest) (λ after. text ≡ 0 ∷ after.now)) c.in-Some.is (strip_prefix_char 0 text c.strip_prefix.result c.strip_prefix.ensures.cases (omega arith)) in
    let found = find_char 0 c.in-Some.text.now c.find.result c.find.ensures.cases (omega arith) in
    (next_some text c.in-Some.text.now c.split_at.result.0.now c.split_at.result.1.now c.find.result c.unwrap_or.result c.self.invariant stripped found c.unwrap_or.ensures c.split_at.ensures.front c.split_at.ensures.back).is_flat

pub returns-clause-steps : goal.returns-clause-steps
returns-clause-steps c =
    let text = c.self.inside.rest.now in
    let stripped = subst (λ (r : Option (Bor (List ℕ))). MatchOption r ((rest : List ℕ) → text ≢ 0 ∷ rest) (λ after. text ≡ 0 ∷ after.now)) c.in-Some.is (strip_prefix_char 0 text c.strip_prefix.result c.strip_prefix.ensures.cases (omega arith)) in
    let found = find_char 0 c.in-Some.text.now c.find.result c.find.ensures.cases (omega arith) in
    sym c.self.view_is ∙ (next_some text c.in-Some.text.now c.split_at.result.0.now c.split_at.result.1.now c.find.result c.unwrap_or.result c.self.invariant stripped found c.unwrap_or.ensures c.split_at.ensures.front c.split_at.ensures.back).first_is

pub returns-clause-goes : goal.returns-clause-goes
returns-clause-goes c =
    let steps = returns-clause-steps c in
    rw steps (search rules)
