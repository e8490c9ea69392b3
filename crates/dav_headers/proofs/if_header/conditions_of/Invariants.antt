use Rattle.std.proofs.Common.{◌≡◌, ◌++◌, false, length, option_map}
use Rattle.dav_headers.specs.IfHeader.{conditions_of}
use Rattle.dav_headers.proofs.if_header.conditions_of.Given as goal

abbrev pub invariant-loop-token : goal.invariant-loop-token
invariant-loop-token l =
    conditions_of false l.initial.tokens.items ≡ option_map (λ found. (l.conditions.items ++ found.0, found.1)) (conditions_of l.not l.tokens.items)

abbrev pub decreases-loop-token : goal.decreases-loop-token
decreases-loop-token l = length l.tokens.items
