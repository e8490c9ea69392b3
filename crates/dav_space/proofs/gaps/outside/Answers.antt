use Rattle.std.proofs.Common.{◌≤◌, ap, ◌∙◌, rules}
use Rattle.std.specs.List.Sorted.{IsNonDecreasingBy}
use Rattle.std.proofs.lemmas.List.Sorted.{IsNonDecreasingBy-from_sort_by_key, All-permutation}
use Rattle.dav_space.specs.declared.range.TheConstants.{LIMIT}
use Rattle.dav_space.specs.Gaps.{gaps_of}
use Rattle.dav_space.proofs.GapFacts.{are_rising-gaps, ReachLimit-gaps, clear_of_gaps, rest_of_gaps}
use Rattle.dav_space.proofs.gaps.outside.Goals as goal

pub from_gaps-requires-clause-rising : goal.from_gaps-requires-clause-rising
from_gaps-requires-clause-rising c =
    let sorted = c.sort_by_key.new.self.items in
    let low = All-permutation (λ r. r.end ≤ LIMIT) c.args.used.items sorted c.in_ok-sort_by_key.ensures.permutation c.requires in
    rw (c.in_ok-gaps.ensures, c.deref.ensures.value) (are_rising-gaps sorted low)

pub from_gaps-requires-clause-whole : goal.from_gaps-requires-clause-whole
from_gaps-requires-clause-whole c = rw c.in_ok-gaps.ensures (ReachLimit-gaps c.deref.result.now)

pub returns-clause-used : goal.returns-clause-used
returns-clause-used c =
    let used = c.args.used.items in
    let sorted = c.sort_by_key.new.self.items in
    let up : IsNonDecreasingBy (λ r. r.at) sorted = IsNonDecreasingBy-from_sort_by_key (λ r. r.at) _ c.in_ok-sort_by_key.ensures.sorted (λ a r q k. search rules) in
    let made = c.from_gaps.ensures ∙ (c.in_ok-gaps.ensures ∙ ap (gaps_of 0) c.deref.ensures.value) in
    rw made (clear_of_gaps used sorted c.in_ok-sort_by_key.ensures.permutation c.requires up)

pub returns-clause-rest : goal.returns-clause-rest
returns-clause-rest c =
    let made = c.from_gaps.ensures ∙ (c.in_ok-gaps.ensures ∙ ap (gaps_of 0) c.deref.ensures.value) in
    rw made (rest_of_gaps c.args.used.items c.sort_by_key.new.self.items c.in_ok-sort_by_key.ensures.permutation)
