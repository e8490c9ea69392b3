use Rattle.std.proofs.Common.{◌≡◌, map, take}
use Rattle.std.specs.List.{fold}
use Rattle.dav_find.specs.Asked.{ask_once, asked_by_server}
use Rattle.dav_find.proofs.search.ask_added.Given as goal

-- those so far
abbrev pub invariant-loop-element : goal.invariant-loop-element
invariant-loop-element l = l.list.asked.items ≡ fold ask_once l.initial.list.asked.items (map asked_by_server (take l.element-index l.elements))
