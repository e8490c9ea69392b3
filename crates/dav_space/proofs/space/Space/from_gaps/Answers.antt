use Rattle.std.proofs.Common.{sym, ◌∙◌}
use Rattle.dav_space.proofs.SpaceFacts.{in_order-gaps}
use Rattle.dav_space.proofs.space.Space.from_gaps.Goals as goal

pub invariant_of-result : goal.invariant_of-result
invariant_of-result c =
    let popped = rw c.unwrap-current.ensures at c.pop.ensures.items in
    let order = in_order-gaps c.args.gaps.items c.pop.new.self.items c.unwrap-current.result (sym c.reverse.ensures.items ∙ popped) in
    rw c.new.ensures.items (record { rising = rw order at c.requires.rising; whole = rw order at c.requires.whole })

pub returns : goal.returns
returns c =
    let popped = rw c.unwrap-current.ensures at c.pop.ensures.items in
    let order = in_order-gaps c.args.gaps.items c.pop.new.self.items c.unwrap-current.result (sym c.reverse.ensures.items ∙ popped) in
    rw c.new.ensures.items (sym order)
