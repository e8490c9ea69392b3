use Rattle.std.proofs.Common.{◌∷◌, reverse, set}
use Rattle.dav_space.specs.Ranges.{without}
use Rattle.dav_space.specs.Space.{room_of}
use Rattle.dav_space.proofs.RoomChanges.{room_without, are_rising-room, AreTaken-room, ReachLimit-rooms}
use Rattle.dav_space.proofs.space.Space.take_room.Goals as goal

pub invariant_of-self : goal.invariant_of-self
invariant_of-self c =
    let s = c.args.self.now in
    let i = c.args.number in
    let room = room_of i s in
    let new = room_without s.rooms.items i c.args.n c.index_mut.result.now c.take.new.self _ c.requires.there c.index_mut.ensures.value c.take.ensures in
    rw new (record {
      rising = are_rising-room s.rooms.items i (s.current ∷ reverse s.later.items) c.requires.there _ c.args.n c.requires.fits s.rising;
      whole = ReachLimit-rooms s.rooms.items (set s.rooms.items i (without c.args.n room)) s.current (reverse s.later.items) s.whole;
    })

pub returns : goal.returns
returns c =
    let s = c.args.self.now in
    let i = c.args.number in
    let new = room_without s.rooms.items i c.args.n c.index_mut.result.now c.take.new.self _ c.requires.there c.index_mut.ensures.value c.take.ensures in
    rw new (AreTaken-room s.rooms.items i (s.current ∷ reverse s.later.items) c.requires.there _ c.args.n c.requires.fits s.rising)
