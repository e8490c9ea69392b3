use Rattle.std.proofs.Common.{◌≡◌, take}
use Rattle.std.specs.List.{flat_map}
use Rattle.dav_headers.specs.declared.if_header.IfList.{IfList}
use Rattle.dav_messages.specs.Conditions.{tokens_in}
use Rattle.dav_messages.proofs.if_header.submitted_tokens.Given as goal

-- the tokens of the lists so far are there
abbrev pub invariant-loop-list : goal.invariant-loop-list
invariant-loop-list l = l.tokens.items ≡ flat_map (λ (list : IfList). tokens_in list.conditions) (take l.list-index l.list-items)
