use Rattle.std.proofs.Common.{◌≡◌, ◌∙◌, ◌<◌, ℕ, true, List, [], length, get_or, is_some, option_and_then, refl, sym, ap, rules, tests, lit<}
use Rattle.std.specs.List.{list_all}
use Rattle.std.proofs.lemmas.Bool.{cond-true, cond-false}
use Rattle.std.proofs.lemmas.Iterator.Consumers.{YieldsList-turn}
use Rattle.std.proofs.lemmas.Iterator.Search.{all_from_yields_List}
use Rattle.std.proofs.lemmas.Iterator.Splits.{YieldsList-from_str_split}
use Rattle.std.proofs.lemmas.Option.{slice_get_read}
use Rattle.dav_headers.specs.Timeout.{place_in, places, timeout_in}
use Rattle.dav_headers.proofs.timeout.timeout_in.Goals as goal

-- where each place is a wish, the first one counts
all_wishes : (text first : List ℕ) → list_all (λ place. is_some (place_in place)) (places text) ≡ true → (0 < length (places text)) × (first ≡ get_or (places text) 0 first) → place_in first ≡ timeout_in text
all_wishes text first all is =
    sym (cond-true _ _ _ all ∙ ap (option_and_then place_in) (slice_get_read (places text) _ 0 first refl is.0 is.1))

pub returns-then-not-all : goal.returns-then-not-all
returns-then-not-all c =
    let text = c.args.text.now in
    let all = all_from_yields_List (λ place. is_some (place_in place)) _ _ c.all.result c.all.ensures.ran (YieldsList-from_str_split 44 text (lit< tt) c.split-2.ensures.text c.split-2.ensures.has_more c.split-2.ensures.pattern) (λ x b q k. search (rules, tests)) in
    sym (cond-false _ _ _ (sym all ∙ c.if-not-all.true))

pub returns : goal.returns
returns c =
    let text = c.args.text.now in
    let all = all_from_yields_List (λ place. is_some (place_in place)) _ _ c.all.result c.all.ensures.ran (YieldsList-from_str_split 44 text (lit< tt) c.split-2.ensures.text c.split-2.ensures.has_more c.split-2.ensures.pattern) (λ x b q k. search (rules, tests)) in
    let first = YieldsList-turn (YieldsList-from_str_split 44 text (lit< tt) c.split.ensures.text c.split.ensures.has_more c.split.ensures.pattern) [] c.split.result refl c.next.result _ c.in_ok-first.first (cc) c.next.ensures.steps in
    c.place_in.ensures ∙ all_wishes text c.in_ok-first.first.now (sym all ∙ c.if-not-all.false) first
