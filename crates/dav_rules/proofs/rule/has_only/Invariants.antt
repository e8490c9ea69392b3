use Rattle.std.proofs.Common.{◌≡◌, ◌+◌, ◌≤◌, drop, map}
use Rattle.toml.specs.View.{table_view}
use Rattle.dav_rules.specs.Rules.{present}
use Rattle.dav_rules.proofs.rule.has_only.Given as goal

-- those found so far and those of the keys that are left
abbrev pub invariant-loop-key : goal.invariant-loop-key
invariant-loop-key l =
    (l.found + present (map (λ k. k.now) (drop l.key-index l.keys)) (table_view l.table) ≡ present (map (λ k. k.now) l.keys) (table_view l.table))
    × (l.found ≤ l.key-index)
