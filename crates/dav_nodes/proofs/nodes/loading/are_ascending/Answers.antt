use Rattle.std.proofs.Common.{◌<◌, ◌-◌, arith, length}
use Rattle.dav_nodes.proofs.Slots.{numbers_at}
use Rattle.dav_nodes.proofs.nodes.loading.are_ascending.Goals as goal

pub returns-then-rows-i : goal.returns-then-rows-i
returns-then-rows-i g c = λ up.
    let i = c.loop-i.i in
    let rows = c.args.rows.now in
    let within : i < length rows = c.loop-i-test.true in
    let rising = numbers_at rows (i - 1) i c.index-rows-i.result c.index-rows-i-in-loop-i.result up (omega (arith, c.loop-i.auto.i)) within in
    absurd (omega (arith, rising, c.if-rows-i.true))
