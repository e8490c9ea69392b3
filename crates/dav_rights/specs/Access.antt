-- What a server allows a caller: this project's own choice.
use Rattle.std.specs.Prelude.{Bool, true, false, not, List, Option, Some, None, option_map}
use Rattle.dav_key.specs.Key.{Key}
use Rattle.dav_guarding.specs.Policy.{Refusals}
use Rattle.dav_rights.specs.Rights.{explanation, may_lock, permits}
use Rattle.dav_rights.specs.Rules.{Caller, rules_for}
use Rattle.dav_rights.specs.declared.rights.Explanation.{Explanation}
use Rattle.dav_rights.specs.declared.rule.Rule.{Rule}
use Rattle.dav_rights.specs.declared.rules.Rules.{Rules}
use Rattle.dav_rights.specs.declared.rules.WrittenRule.{WrittenRule}
use Rattle.dav_rights.specs.declared.access.Access.{Access}
use Rattle.dav_rights.specs.declared.access.Access.TheVariants.{Full, Limited}

-- the rules, if there are some
abbrev pub written_rules : Option Rules → Option (List WrittenRule)
written_rules rules = option_map (λ (r : Rules). r.rules.items) rules

-- the rules that apply to the caller, or none if everything is allowed
abbrev pub rights_in : Access → Option (List Rule)
rights_in Full = None
rights_in (Limited rights) = Some rights.rules.items

-- the rules that apply to this caller, or none if there are no rules
abbrev pub rights_under : Option (List WrittenRule) → Caller → Option (List Rule)
rights_under rules caller = option_map (rules_for caller) rules

-- what these rules do not permit is refused; without rules nothing is
abbrev pub refuses_by : Option (List Rule) → Refusals
refuses_by None op keys = false
refuses_by (Some rules) op keys = not (permits rules op keys)

abbrev pub refuses : Access → Refusals
refuses access = refuses_by (rights_in access)

-- what a caller is refused under these rules
abbrev pub refuses_to : Option (List WrittenRule) → Caller → Refusals
refuses_to rules caller = refuses_by (rights_under rules caller)

-- what is allowed with a resource by these rules; without rules everything is
abbrev pub explanation_by : Option (List Rule) → Key → Explanation
explanation_by None key = record { rule = None; allowed = record { list = true; read = true; write = true } }
explanation_by (Some rules) key = explanation key rules

-- these rules allow a lock on the resource, and on all below it if it is deep; without rules each lock is allowed
abbrev pub may_lock_by : Option (List Rule) → Key → Bool → Bool
may_lock_by None key deep = true
may_lock_by (Some rules) key deep = may_lock key deep rules
