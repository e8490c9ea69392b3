use Rattle.std.proofs.Common.{◌≡◌, ◌++◌, List, map, option_map, drop}
use Rattle.toml.specs.View.{view, items_view}
use Rattle.dav_rules.specs.Rules.{RuleValue, rule_value, rule_of, each_of, list_of}
use Rattle.dav_rules.proofs.text.read_each.Given as goal

-- the rules so far, and those of the values that are left
abbrev pub invariant-loop-value : goal.invariant-loop-value
invariant-loop-value l =
    option_map (λ (rest : List RuleValue). map rule_value l.rules.items ++ rest) (each_of (rule_of (option_map (λ v. view v.now) l.groups)) (list_of (items_view (drop l.value-index l.values))))
    ≡ each_of (rule_of (option_map (λ v. view v.now) l.groups)) (list_of (items_view l.values))
