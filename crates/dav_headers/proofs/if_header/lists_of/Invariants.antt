use Rattle.std.proofs.Common.{length}
use Rattle.dav_headers.specs.IfHeader.{first_list}
use Rattle.dav_headers.proofs.RepeatedLemmas.{IsReadTo}
use Rattle.dav_headers.proofs.if_header.lists_of.Given as goal

abbrev pub invariant-loop-alloc : goal.invariant-loop-alloc
invariant-loop-alloc l = IsReadTo first_list l.initial.tokens.items l.lists.items l.tokens.items

abbrev pub decreases-loop-alloc : goal.decreases-loop-alloc
decreases-loop-alloc l = length l.tokens.items
