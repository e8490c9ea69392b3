use Rattle.std.proofs.Common.{◌+◌, ◌≤◌, reverse, is_ok, sym, ◌∙◌, arith}
use Rattle.std.proofs.lemmas.Bool.{cond-true}
use Rattle.dav_space.proofs.RoomChanges.{are_rising-push, KeepsClear-push, ReachLimit-push}
use Rattle.dav_space.proofs.SpaceFacts.{current_in_range}
use Rattle.dav_space.proofs.space.Space.make_room.Goals as goal

pub overflow_sub-end : goal.overflow_sub-end
overflow_sub-end c = current_in_range c.args.self.now

pub take-requires : goal.take-requires
take-requires c =
    let fits = current_in_range c.args.self.now in
    omega arith

pub invariant_of-self : goal.invariant_of-self
invariant_of-self c =
    let s = c.args.self.now in
    let n = c.min-len.result in
    let items = c.push.ensures.items ∙ cond-true (is_ok c.push.result) _ _ (sym c.is_ok.ensures.value ∙ c.if-is_ok.true) in
    let in_range = current_in_range s in
    let fits : s.current.at + n ≤ s.current.end = omega arith in
    rw (items, c.take.ensures) (record {
      rising = are_rising-push s.rooms.items s.current (reverse s.later.items) n fits s.rising;
      whole = ReachLimit-push s.rooms.items s.current (reverse s.later.items) n fits s.whole;
    })

pub returns-then-is_ok-clause-kept : goal.returns-then-is_ok-clause-kept
returns-then-is_ok-clause-kept c =
    let s = c.args.self.now in
    let n = c.min-len.result in
    let items = c.push.ensures.items ∙ cond-true (is_ok c.push.result) _ _ (sym c.is_ok.ensures.value ∙ c.if-is_ok.true) in
    let in_range = current_in_range s in
    let fits : s.current.at + n ≤ s.current.end = omega arith in
    let pushed = KeepsClear-push s.rooms.items s.current (reverse s.later.items) n fits in
    λ at m h. c.limit_rooms.ensures.kept at m (rw (items, c.take.ensures) (pushed at m h))
