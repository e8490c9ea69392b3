-- Rules as they are written, and those that apply to a caller: this project's own choice.
use Rattle.std.specs.Prelude.{ℕ, suc, Bool, true, false, not, ◌&&◌, List, [], ◌∷◌, ◌++◌, bytes_eq, codes, if◌then◌else◌, Option, Some, None, option_map}
use Rattle.std.specs.List.{list_any}
use Rattle.std.specs.Option.{option_to_list}
use Rattle.dav_key.specs.Key.{Key}
use Rattle.dav_resource.specs.PathText.{is_segment}
use Rattle.dav_rights.specs.declared.rule.Rule.{Rule}
use Rattle.dav_rights.specs.declared.rules.Who.{Who}
use Rattle.dav_rights.specs.declared.rules.Who.TheVariants.{Everyone, OneOf}
use Rattle.dav_rights.specs.declared.rules.WrittenRule.{WrittenRule}

-- the name of a caller, if it has one
abbrev pub Caller : Type 0
Caller = Option (List ℕ)

-- the rule is made for this caller
abbrev pub is_for : Caller → Who → Bool
is_for caller Everyone = true
is_for None (OneOf names) = false
is_for (Some name) (OneOf names) = list_any (bytes_eq name) names.items

-- the caller's name, if it may be a segment
abbrev pub own_segment : Caller → Caller
own_segment None = None
own_segment (Some name) = if is_segment name then Some name else None

-- a segment of a rule's path, where `{user}` stands for the caller's name
abbrev pub segment_for : Caller → List ℕ → Option (List ℕ)
segment_for caller segment = if bytes_eq segment (codes "{user}") then own_segment caller else Some segment

-- both, one before the other
abbrev pub joined : Option (List ℕ) → Option Key → Option Key
joined None rest = None
joined (Some segment) None = None
joined (Some segment) (Some rest) = Some (segment ∷ rest)

-- a rule's path for a caller
abbrev pub key_for : Caller → Key → Option Key
key_for caller [] = Some []
key_for caller (segment ∷ rest) = joined (segment_for caller segment) (key_for caller rest)

-- the rule of this number for a caller, if it applies to it
abbrev pub rule_for : ℕ → Caller → WrittenRule → Option Rule
rule_for number caller written =
    if is_for caller written.who
    then option_map (λ key. record { number = number; key = key; below = written.below; allowed = written.allowed }) (key_for caller written.key)
    else None

-- those of these rules that apply to a caller, in order; the first one has this number
abbrev pub rules_from : ℕ → Caller → List WrittenRule → List Rule
rules_from number caller [] = []
rules_from number caller (written ∷ rest) = option_to_list (rule_for number caller written) ++ rules_from (suc number) caller rest

-- ---- a caller whose name is no segment

-- the caller has a name, and that may not be a segment
abbrev pub is_misnamed : Caller → Bool
is_misnamed None = false
is_misnamed (Some name) = not (is_segment name)

-- the rule's path has `{user}`
abbrev pub has_user_segment : Key → Bool
has_user_segment key = list_any (λ segment. bytes_eq segment (codes "{user}")) key

-- the rule is for the caller, and its path has `{user}`
abbrev pub is_by_name : Caller → WrittenRule → Bool
is_by_name caller written = is_for caller written.who && has_user_segment written.key

-- a rule for the caller has no path, because the caller's name may not be a segment. Such a rule may take rights away, so it
-- does not drop out: nothing is allowed to the caller
abbrev pub is_barred : Caller → List WrittenRule → Bool
is_barred caller rules = is_misnamed caller && list_any (is_by_name caller) rules

-- ---- the rules that apply

-- the rules that apply to a caller, in order; none if it is barred
abbrev pub rules_for : Caller → List WrittenRule → List Rule
rules_for caller rules = if is_barred caller rules then [] else rules_from 1 caller rules
