use Rattle.std.proofs.Common.{◌≡◌, [], map}
use Rattle.std.specs.List.{fold}
use Rattle.dav_resource.specs.Element.{child_elements}
use Rattle.std.specs.Option.{option_copied}
use Rattle.dav_find.specs.Asked.{ask_once, asked_by_request, named_in}
use Rattle.dav_find.proofs.search.ask_own.Given as goal

-- with those that are left they are all
abbrev pub invariant-loop-element : goal.invariant-loop-element
invariant-loop-element l = fold ask_once l.list.asked.items (map asked_by_request (child_elements l.element-iterator)) ≡ fold ask_once [] (map asked_by_request (named_in (option_copied l.own)))
