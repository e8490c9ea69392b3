use Rattle.std.proofs.Common.{◌≡◌, ◌++◌}
use Rattle.dav_find.proofs.server_list.joined.Given as goal

-- those so far
abbrev pub invariant-loop-element : goal.invariant-loop-element
invariant-loop-element l = l.elements.items ≡ l.initial.elements.items ++ l.yielded
