use Rattle.std.proofs.Common.{reverse, refl, arith}
use Rattle.dav_space.proofs.Changes.{AreUnused-first}
use Rattle.dav_space.proofs.SpaceFacts.{current_in_range, current_below}
use Rattle.dav_space.proofs.space.Space.next.Goals as goal

pub overflow_sub-end : goal.overflow_sub-end
overflow_sub-end c = current_in_range c.go_on.new.self

pub returns-clause-next : goal.returns-clause-next
returns-clause-next c =
    let fits = current_in_range c.go_on.new.self in
    record { begins = refl; fits = omega arith }

pub returns-clause-unused : goal.returns-clause-unused
returns-clause-unused c =
    let s = c.go_on.new.self in
    let fits = current_in_range s in
    AreUnused-first s.rooms.items s.current (reverse s.later.items) c.min.result (omega arith)

pub returns-clause-below : goal.returns-clause-below
returns-clause-below c =
    let s = c.go_on.new.self in
    let fits = current_in_range s in let below = current_below s in
    omega arith
