use Rattle.std.proofs.Common.{◌≡◌, ◌++◌, List, ℕ, option_map, drop}
use Rattle.toml.specs.View.{items_view}
use Rattle.toml.specs.Data.{as_str}
use Rattle.dav_rules.specs.Rules.{each_of, list_of}
use Rattle.dav_rules.proofs.who.read_names.Given as goal

-- the names so far, and those of the values that are left
abbrev pub invariant-loop-value : goal.invariant-loop-value
invariant-loop-value l =
    option_map (λ (rest : List (List ℕ)). l.names.items ++ rest) (each_of as_str (list_of (items_view (drop l.value-index l.values)))) ≡ each_of as_str (list_of (items_view l.values))
