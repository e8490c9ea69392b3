use Rattle.std.proofs.Common.{◌≡◌, ◌+◌, ◌++◌, option_copied, drop}
use Rattle.dav_rights.specs.Rules.{rules_from}
use Rattle.dav_rights.proofs.rules.Rules.rights_of.Given as goal

abbrev pub invariant-loop-index : goal.invariant-loop-index
invariant-loop-index l =
    l.own.items ++ rules_from (l.index + 1) (option_copied l.caller) (drop l.index l.rule-items) ≡ rules_from 1 (option_copied l.caller) l.rule-items
