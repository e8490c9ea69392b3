use Rattle.std.proofs.Common.{◌∙◌, ◌++◌, ◌∷◌, [], ap, sym, None}
use Rattle.std.specs.FinMap.{get, remove}
use Rattle.dav_key.specs.Key.{parent}
use Rattle.dav_store.specs.Calls.{must_be_file}
use Rattle.dav_tree.specs.Memory.{marked}
use Rattle.dav_tree.specs.MemoryCalls.{mark_error}
use Rattle.dav_tree.specs.TreeFs.{memory_of}
use Rattle.dav_tree.proofs.Sound.{sound-file}
use Rattle.dav_tree.proofs.Marking.{room-error, room-free, parent-apart}
use Rattle.dav_tree.proofs.Rows.{node_at, directory_at, file_at, some_node}
use Rattle.dav_tree.proofs.Places.{at-again, some-number, missing-key, found-key, file-below, file-childless, number-above, no-directory-above}
use Rattle.dav_tree.proofs.Effects.{over-ok, over-err, memory-same, memory-changed, sound-changed}
use Rattle.dav_tree.proofs.tree_fs.TreeFs.take_file.Goals as goal

pub returns-in_default-clause-removed : goal.returns-in_default-clause-removed
returns-in_default-clause-removed g c =
    let missing = missing-key _ _ c.find.ensures.same _ _ c.key.ensures.value c.in_default.ensures.found in
    over-err _ _ _ _ _ _ (ap (λ b. mark_error 1 (must_be_file b) (memory_of c.args.self.now)) (node_at c.args.self.now.entries.resources c.args.path.now.key None missing)) (memory-same _ _ _ _ _ _ _ c.find.ensures.same)

pub returns-then-place-clause-removed : goal.returns-then-place-clause-removed
returns-then-place-clause-removed g c =
    let found = c.in-Some.ensures.found in
    let here = found-key _ _ c.find.ensures.same _ _ c.key.ensures.value _ _ found in
    over-err _ _ _ _ _ _ (ap (λ b. mark_error 1 (must_be_file b) (memory_of c.args.self.now)) (directory_at c.args.self.now.entries.resources c.args.path.now.key found.stored here (sym found.kind ∙ c.if-place.true))) (memory-same _ _ _ _ _ _ _ c.find.ensures.same)

pub remove-requires-clause-root : goal.remove-requires-clause-root
remove-requires-clause-root g c = λ root.
    let found = c.in-Some.ensures.found in
    let here = found-key _ _ c.find.ensures.same _ _ c.key.ensures.value _ _ found in
    file-below c.args.self.now.entries.resources c.args.path.now.key c.args.self.now.sound found.stored here (sym found.kind ∙ c.if-place.false) (sym c.key-3.ensures.value ∙ root)

pub remove-requires-clause-there : goal.remove-requires-clause-there
remove-requires-clause-there g c =
    let at = at-again _ _ _ c.find.ensures.same _ _ c.in-Some.ensures.found in
    some-number c.find.new.self _ _ (ap (get c.find.new.self.numbers) (c.key-3.ensures.value ∙ sym c.key.ensures.value) ∙ at.numbered)

pub remove-requires-clause-childless : goal.remove-requires-clause-childless
remove-requires-clause-childless g c = λ name.
    let found = c.in-Some.ensures.found in
    let here = found-key _ _ c.find.ensures.same _ _ c.key.ensures.value _ _ found in
    (λ i. get (c.find.ensures.same i).resources (c.key-3.ensures.value i ++ name ∷ []))
    ∙ file-childless c.args.self.now.entries.resources c.args.path.now.key c.args.self.now.sound found.stored here (sym found.kind ∙ c.if-place.false) name

pub invariant_of-self-2 : goal.invariant_of-self-2
invariant_of-self-2 g c =
    let found = c.in-Some.ensures.found in
    let here = found-key _ _ c.find.ensures.same _ _ c.key.ensures.value _ _ found in
    let key = c.args.path.now.key in
    record {
      sound = sound-changed c.args.self.now.entries c.find.new.self c.remove.new.self c.find.ensures.same c.args.self.now.sound (λ r. remove r key)
          (λ new is. sound-file c.args.self.now.entries.resources new key found.stored c.args.self.now.sound is here (sym found.kind ∙ c.if-place.false))
          (rw c.key-3.ensures.value at c.remove.ensures.removed);
    }

pub unreachable-requires : goal.unreachable-requires
unreachable-requires g c =
    let e = c.args.self.now.entries in
    let key = c.args.path.now.key in
    let here = found-key _ _ c.find.ensures.same _ _ c.key.ensures.value _ _ c.in-Some.ensures.found in
    no-directory-above e c.find.new.self c.find.ensures.same key _ c.key-2.ensures.value c.in_default-directory_above.ensures (c.args.self.now.sound.parents key (some_node e.resources key c.in-Some.ensures.found.stored here))

pub returns-then-not-has_room-clause-removed : goal.returns-then-not-has_room-clause-removed
returns-then-not-has_room-clause-removed g c =
    let m = memory_of c.args.self.now in
    let found = c.in-Some.ensures.found in
    let here = found-key _ _ c.find.ensures.same _ _ c.key.ensures.value _ _ found in
    over-err _ _ _ _ _ _ (ap (λ b. mark_error 1 (must_be_file b) m) (file_at m.resources c.args.path.now.key found.stored here (sym found.kind ∙ c.if-place.false))
    ∙ room-error 1 m c.has_room.result c.has_room.ensures c.if-not-has_room.true) (memory-same _ _ _ _ _ _ _ c.find.ensures.same)

pub mark-requires-clause-there : goal.mark-requires-clause-there
mark-requires-clause-there g c =
    let e = c.args.self.now.entries in
    let key = c.args.path.now.key in
    let found = c.in-Some.ensures.found in
    let here = found-key _ _ c.find.ensures.same _ _ c.key.ensures.value _ _ found in
    let apart = parent-apart key (file-below e.resources key c.args.self.now.sound found.stored here (sym found.kind ∙ c.if-place.false)) in
    let above = number-above e c.find.new.self c.find.ensures.same key _ c.key-2.ensures.value _ c.in-Some-directory_above.ensures in
    (parent key, c.remove.ensures.numbers (parent key) _ (rw c.key-3.ensures.value apart) above)

pub returns-clause-removed : goal.returns-clause-removed
returns-clause-removed g c =
    let m = memory_of c.args.self.now in
    let e = c.args.self.now.entries in
    let found = c.in-Some.ensures.found in
    let here = found-key _ _ c.find.ensures.same _ _ c.key.ensures.value _ _ found in
    let key = c.args.path.now.key in
    let apart = parent-apart key (file-below e.resources key c.args.self.now.sound found.stored here (sym found.kind ∙ c.if-place.false)) in
    let above = number-above e c.find.new.self c.find.ensures.same key _ c.key-2.ensures.value _ c.in-Some-directory_above.ensures in
    let number = c.remove.ensures.numbers (parent key) _ (rw c.key-3.ensures.value apart) above in
    over-ok _ _ _ _ _ _ (ap (λ b. mark_error 1 (must_be_file b) m) (file_at e.resources key found.stored here (sym found.kind ∙ c.if-place.false))
    ∙ room-free 1 m c.has_room.result c.has_room.ensures c.if-not-has_room.false)
    (c.mark.ensures.marked (parent key) number ∙ ap (marked (parent key))
    (memory-changed _ _ _ _ _ e c.find.new.self c.remove.new.self (λ r. remove r key) c.find.ensures.same (rw c.key-3.ensures.value at c.remove.ensures.removed)))
