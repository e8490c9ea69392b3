use Rattle.std.proofs.Common.{◌≡◌, ◌≤◌, ◌-◌, true, length}
use Rattle.dav_reserve.proofs.fill.overwrite.Given as goal

abbrev pub invariant-loop-done : goal.invariant-loop-done
invariant-loop-done g l =
    (l.done ≤ length (g.D.Disk.seen l.disk)) × (l.done ≤ l.room)
    × (g.D.Disk.is_usable l.disk ≡ true)
    × (g.D.Disk.faults l.disk ≡ g.D.Disk.faults l.fn.disk)
    × (g.D.Disk.tally_of l.disk ≡ g.D.Disk.tally_of l.fn.disk)

abbrev pub decreases-loop-done : goal.decreases-loop-done
decreases-loop-done g l = l.room - l.done
