use Rattle.std.proofs.Common.{reverse, refl}
use Rattle.dav_space.specs.Ranges.{without}
use Rattle.dav_space.proofs.Changes.{are_rising-take, AreTaken-take, ReachLimit-exchange}
use Rattle.dav_space.proofs.space.Space.take_next.Goals as goal

pub invariant_of-self : goal.invariant_of-self
invariant_of-self c =
    let s = c.args.self.now in
    let n = c.args.n in
    let behind = reverse s.later.items in
    rw c.take.ensures (record {
      rising = are_rising-take s.rooms.items s.current behind n c.requires.fits s.rising;
      whole = ReachLimit-exchange s.rooms.items s.current behind (without n s.current) behind refl s.whole;
    })

pub returns-clause-taken : goal.returns-clause-taken
returns-clause-taken c =
    let s = c.args.self.now in
    rw c.take.ensures (AreTaken-take s.rooms.items s.current (reverse s.later.items) c.args.n c.requires.fits s.rising)
