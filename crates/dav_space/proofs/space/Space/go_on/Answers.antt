use Rattle.std.proofs.Common.{inl, arith}
use Rattle.dav_space.proofs.SpaceFacts.{current_in_range, are_rising-popped, ReachLimit-popped}
use Rattle.dav_space.proofs.space.Space.go_on.Goals as goal

pub invariant_of-self-in-loop-self : goal.invariant_of-self-in-loop-self
invariant_of-self-in-loop-self c =
    let s = c.loop-self.self in
    let popped = c.pop.new.self.items in
    let next = c.in-Some.range in
    record {
      rising = are_rising-popped s.rooms.items s.current s.later.items popped next c.in-Some.ensures.items s.rising;
      whole = ReachLimit-popped s.rooms.items s.current s.later.items popped next c.in-Some.ensures.items s.whole;
    }

pub returns-clause-some : goal.returns-clause-some
returns-clause-some c =
    let fits = current_in_range c.loop-self.self in
    inl (omega arith)
