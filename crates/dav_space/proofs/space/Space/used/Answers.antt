use Rattle.std.proofs.Common.{vec_len, sym, arith}
use Rattle.std.proofs.lemmas.Bool.{eqb-false}
use Rattle.std.proofs.lemmas.List.{take_rest}
use Rattle.dav_space.proofs.Ends.{used_of-later}
use Rattle.dav_space.proofs.space.Space.used.Goals as goal

pub returns : goal.returns
returns c =
    let s = c.args.self.now in
    let some = eqb-false (vec_len s.later) 0 (sym c.if-is_empty.ensures) in
    let used = used_of-later s.rooms.items s.current s.later.items (omega arith) in
    let place = c.end.ensures.place in
    let rooms = rw c.deref.ensures.value at c.less-used.ensures in
    let later = rw (take_rest c.deref-2.result.now 1, c.deref-2.ensures.value) at c.less.ensures in
    cc
