use Rattle.std.proofs.Common.{arith}
use Rattle.dav_space.proofs.SpaceFacts.{found_in_range, found_below, IsRoom-found, AreUnused-found}
use Rattle.dav_space.proofs.space.Space.room.Goals as goal

pub overflow_sub-room : goal.overflow_sub-room
overflow_sub-room c =
    found_in_range c.args.self.now _ c.deref-room-items.ensures.value c.loop-number.number c.args.at c.loop-number-test.true c.if-room-at.true

pub returns-then-at-room-clause-room : goal.returns-then-at-room-clause-room
returns-then-at-room-clause-room c =
    let s = c.args.self.now in
    let same = c.deref-room-items.ensures.value in
    let i = c.loop-number.number in
    let le = found_in_range s _ same i c.args.at c.loop-number-test.true c.if-room-at.true in
    IsRoom-found s _ same i c.args.at c.loop-number-test.true c.if-room-at.true c.min.result (omega arith)

pub returns-then-at-room-clause-unused : goal.returns-then-at-room-clause-unused
returns-then-at-room-clause-unused c =
    let s = c.args.self.now in
    let same = c.deref-room-items.ensures.value in
    let i = c.loop-number.number in
    let le = found_in_range s _ same i c.args.at c.loop-number-test.true c.if-room-at.true in
    AreUnused-found s _ same i c.args.at c.loop-number-test.true c.if-room-at.true c.min.result (omega arith)

pub returns-then-at-room-clause-below : goal.returns-then-at-room-clause-below
returns-then-at-room-clause-below c =
    let s = c.args.self.now in
    let same = c.deref-room-items.ensures.value in
    let i = c.loop-number.number in
    let le = found_in_range s _ same i c.args.at c.loop-number-test.true c.if-room-at.true in
    let below = found_below s _ same i c.args.at c.loop-number-test.true c.if-room-at.true in
    omega arith
