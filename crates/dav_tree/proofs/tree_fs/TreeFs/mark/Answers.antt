use Rattle.std.proofs.Common.{◌+◌, refl, arith}
use Rattle.dav_tree.specs.Memory.{change_at, touched}
use Rattle.dav_tree.specs.Kept.{held_of}
use Rattle.dav_tree.specs.TreeFs.{memory_of}
use Rattle.dav_tree.proofs.Effects.{memory-has}
use Rattle.dav_tree.proofs.Marking.{room-fits, unmarked-is, marked-is, sound-marked}
use Rattle.dav_tree.proofs.tree_fs.TreeFs.mark.Goals as goal

pub returns-then-not-self-clause-marked : goal.returns-then-not-self-clause-marked
returns-then-not-self-clause-marked g c = λ key numbered. unmarked-is key (memory_of c.args.self.now) _ refl c.if-not-self.true

pub overflow_add-self : goal.overflow_add-self
overflow_add-self g c =
    let m = memory_of c.args.self.now in
    let small = room-fits m.marks (m.version + 1) c.if-not-self.false c.requires.room in
    omega (arith, small)

pub invariant_of-self : goal.invariant_of-self
invariant_of-self g c =
    let s = c.args.self.now in
    record { sound = sound-marked s.entries.resources _ c.requires.there.0 (s.version + 1) s.moment s.sound (c.touch.ensures.touched c.requires.there.0 c.requires.there.1).resources_are }

pub returns-clause-marked : goal.returns-clause-marked
returns-clause-marked g c = λ key numbered.
    let s = c.args.self.now in
    marked-is key (memory_of s) _
    (memory-has (s.version + 1) s.moment s.limit s.tag_part s.marks_parents c.touch.new.self (change_at key (touched (s.version + 1) s.moment) s.entries.resources) (held_of s.entries) (c.touch.ensures.touched key numbered))
    c.if-not-self.false
