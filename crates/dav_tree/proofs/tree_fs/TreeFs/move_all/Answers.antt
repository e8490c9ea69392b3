use Rattle.std.proofs.Common.{◌≡◌, ◌≢◌, ◌∙◌, ◌++◌, ◌+◌, arith, [], ap, sym, not, true, false, Some, None, refl, subst, if◌then◌else◌}
use Rattle.std.specs.FinMap.{get}
use Rattle.dav_key.specs.Key.{parent}
use Rattle.dav_key.specs.Below.{IsMoved}
use Rattle.dav_resource.specs.declared.error.FsError.TheVariants.{Forbidden}
use Rattle.dav_tree.specs.Memory.{tree_of, marked}
use Rattle.dav_tree.specs.MemoryCalls.{has_room, mark_error}
use Rattle.dav_tree.specs.TreeFs.{memory_of}
use Rattle.dav_tree.specs.Kept.{Kept, held_of}
use Rattle.dav_store.specs.Calls.{create_dir_bar}
use Rattle.dav_tree.proofs.Sound.{sound-renamed, new-below, apart-to, apart-from, nothing_kept_below}
use Rattle.dav_tree.proofs.Rows.{some_node, node_at, rename_missing, rename_root, rename_at, place_taken, place_nowhere, place_free}
use Rattle.dav_tree.proofs.Marking.{room-error, room-free, room-less, room-marked, left-number, entered-number}
use Rattle.dav_tree.proofs.Places.{absent-of, found-of, missing-key, found-key, directory-above, number-above, no-directory-above}
use Rattle.dav_tree.proofs.Effects.{over-ok, over-err, memory_by, memory-same, sound-moved}
use Rattle.dav_tree.proofs.tree_fs.TreeFs.move_all.Goals as goal

pub returns-then-is_none-clause-renamed : goal.returns-then-is_none-clause-renamed
returns-then-is_none-clause-renamed g c =
    let e = c.args.self.now.entries in
    let missing = missing-key _ _ c.find.ensures.same c.args.from.now.key _ c.key.ensures.value (absent-of e _ c.find.result c.find.ensures.found (c.is_none.ensures ∙ ap not c.if-is_none.true)) in
    over-err _ _ _ _ _ _ (ap (λ b. mark_error 2 b (memory_of c.args.self.now)) (rename_missing e.resources c.args.from.now.key c.args.to.now.key missing)) (memory-same _ _ _ _ _ _ _ c.find.ensures.same)

pub returns-then-is_below-clause-renamed : goal.returns-then-is_below-clause-renamed
returns-then-is_below-clause-renamed g c =
    let e = c.args.self.now.entries in
    let from = c.args.from.now.key in let to = c.args.to.now.key in
    let (place, found) = found-of e _ c.find.result c.find.ensures.found (c.is_none.ensures ∙ ap not c.if-is_none.false) in
    let here = found-key _ _ c.find.ensures.same from _ c.key.ensures.value _ _ found in
    let below : from ≢ [] = λ root. (let clash : true ≡ false = sym (c.is_root.ensures.1 (c.key-2.ensures.value ∙ root)) ∙ c.if-is_root.false in cc) in
    over-err _ _ _ _ _ _ (ap (λ b. mark_error 2 b (memory_of c.args.self.now)) (rename_at e.resources from to found.stored here below ∙ ap (λ b. if b then Some Forbidden else create_dir_bar (get (tree_of e.resources) to) (get (tree_of e.resources) (parent to))) (sym c.is_below.ensures ∙ c.if-is_below.true))) (memory-same _ _ _ _ _ _ _ c.find.ensures.same)

pub returns-then-is_some-clause-renamed : goal.returns-then-is_some-clause-renamed
returns-then-is_some-clause-renamed g c =
    let e = c.args.self.now.entries in
    let from = c.args.from.now.key in let to = c.args.to.now.key in
    let (place, found) = found-of e _ c.find.result c.find.ensures.found (c.is_none.ensures ∙ ap not c.if-is_none.false) in
    let here = found-key _ _ c.find.ensures.same from _ c.key.ensures.value _ _ found in
    let below : from ≢ [] = λ root. (let clash : true ≡ false = sym (c.is_root.ensures.1 (c.key-2.ensures.value ∙ root)) ∙ c.if-is_root.false in cc) in
    let (place2, found2) = found-of c.find.new.self _ c.find-2.result c.find-2.ensures.found (sym c.is_some.ensures ∙ c.if-is_some.true) in
    let there = (λ i. get (sym c.find.ensures.same i).resources (sym c.key-3.ensures.value i)) ∙ found2.at.there in
    over-err _ _ _ _ _ _ (ap (λ b. mark_error 2 b (memory_of c.args.self.now)) (rename_at e.resources from to found.stored here below ∙ ap (λ b. if b then Some Forbidden else create_dir_bar (get (tree_of e.resources) to) (get (tree_of e.resources) (parent to))) (sym c.is_below.ensures ∙ c.if-is_below.false) ∙ place_taken e.resources to found2.stored _ there)) (memory-same _ _ _ _ _ _ _ (c.find-2.ensures.same ∙ c.find.ensures.same))

pub rename-requires-clause-apart : goal.rename-requires-clause-apart
rename-requires-clause-apart g c =
    let e = c.args.self.now.entries in
    let from = c.args.from.now.key in let to = c.args.to.now.key in
    let (place, found) = found-of e _ c.find.result c.find.ensures.found (c.is_none.ensures ∙ ap not c.if-is_none.false) in
    let here = found-key _ _ c.find.ensures.same from _ c.key.ensures.value _ _ found in
    let below : from ≢ [] = λ root. (let clash : true ≡ false = sym (c.is_root.ensures.1 (c.key-2.ensures.value ∙ root)) ∙ c.if-is_root.false in cc) in
    let free = (λ i. get (sym c.find.ensures.same i).resources (sym c.key-3.ensures.value i)) ∙ (absent-of c.find.new.self _ c.find-2.result c.find-2.ensures.found (sym c.is_some.ensures ∙ c.if-is_some.false)).missing in
    let nowhere = node_at e.resources to None free in
    let same = c.find-2.ensures.same ∙ c.find.ensures.same in
    let above = directory-above e c.find-2.new.self (c.find-2.ensures.same ∙ c.find.ensures.same) to _ c.key-4.ensures.value _ c.in-Some.ensures in
    rw (c.key-6.ensures.value, c.key-7.ensures.value) (record { one_other = apart-from e.resources from to c.args.self.now.sound nowhere (some_node e.resources from found.stored here); other_one = apart-to e.resources from to (sym c.is_below.ensures ∙ c.if-is_below.false) nowhere (some_node e.resources from found.stored here) })

pub rename-requires-clause-none : goal.rename-requires-clause-none
rename-requires-clause-none g c =
    let e = c.args.self.now.entries in
    let from = c.args.from.now.key in let to = c.args.to.now.key in
    let (place, found) = found-of e _ c.find.result c.find.ensures.found (c.is_none.ensures ∙ ap not c.if-is_none.false) in
    let here = found-key _ _ c.find.ensures.same from _ c.key.ensures.value _ _ found in
    let below : from ≢ [] = λ root. (let clash : true ≡ false = sym (c.is_root.ensures.1 (c.key-2.ensures.value ∙ root)) ∙ c.if-is_root.false in cc) in
    let free = (λ i. get (sym c.find.ensures.same i).resources (sym c.key-3.ensures.value i)) ∙ (absent-of c.find.new.self _ c.find-2.result c.find-2.ensures.found (sym c.is_some.ensures ∙ c.if-is_some.false)).missing in
    let nowhere = node_at e.resources to None free in
    let same = c.find-2.ensures.same ∙ c.find.ensures.same in
    let above = directory-above e c.find-2.new.self (c.find-2.ensures.same ∙ c.find.ensures.same) to _ c.key-4.ensures.value _ c.in-Some.ensures in
    λ rest. (λ i. get (same i).resources (c.key-7.ensures.value i ++ rest)) ∙ nothing_kept_below e.resources to c.args.self.now.sound nowhere rest

pub invariant_of-self-3 : goal.invariant_of-self-3
invariant_of-self-3 g c =
    let e = c.args.self.now.entries in
    let from = c.args.from.now.key in let to = c.args.to.now.key in
    let (place, found) = found-of e _ c.find.result c.find.ensures.found (c.is_none.ensures ∙ ap not c.if-is_none.false) in
    let here = found-key _ _ c.find.ensures.same from _ c.key.ensures.value _ _ found in
    let below : from ≢ [] = λ root. (let clash : true ≡ false = sym (c.is_root.ensures.1 (c.key-2.ensures.value ∙ root)) ∙ c.if-is_root.false in cc) in
    let free = (λ i. get (sym c.find.ensures.same i).resources (sym c.key-3.ensures.value i)) ∙ (absent-of c.find.new.self _ c.find-2.result c.find-2.ensures.found (sym c.is_some.ensures ∙ c.if-is_some.false)).missing in
    let nowhere = node_at e.resources to None free in
    let same = c.find-2.ensures.same ∙ c.find.ensures.same in
    let above = directory-above e c.find-2.new.self (c.find-2.ensures.same ∙ c.find.ensures.same) to _ c.key-4.ensures.value _ c.in-Some.ensures in
    record {
      sound = sound-moved c.rename.result from to e c.find-2.new.self c.rename.new.self same c.args.self.now.sound (rw (c.key-6.ensures.value, c.key-7.ensures.value) at c.rename.ensures.ok) c.rename.ensures.err (λ moved.
          sound-renamed from to e.resources c.rename.new.self.resources c.args.self.now.sound moved below (apart-to e.resources from to (sym c.is_below.ensures ∙ c.if-is_below.false) nowhere (some_node e.resources from found.stored here)) nowhere c.key-7.ensures.key above);
    }

pub returns-then-is_root-clause-renamed : goal.returns-then-is_root-clause-renamed
returns-then-is_root-clause-renamed g c =
    let e = c.args.self.now.entries in
    let from = c.args.from.now.key in let to = c.args.to.now.key in
    let (place, found) = found-of e _ c.find.result c.find.ensures.found (c.is_none.ensures ∙ ap not c.if-is_none.false) in
    let here = found-key _ _ c.find.ensures.same from _ c.key.ensures.value _ _ found in
    let root = sym c.key-2.ensures.value ∙ c.is_root.ensures.0 c.if-is_root.true in
    over-err _ _ _ _ _ _ (ap (λ b. mark_error 2 b (memory_of c.args.self.now)) (rename_root e.resources from to found.stored here root)) (memory-same _ _ _ _ _ _ _ c.find.ensures.same)

pub returns-in_default-clause-renamed : goal.returns-in_default-clause-renamed
returns-in_default-clause-renamed g c =
    let e = c.args.self.now.entries in
    let from = c.args.from.now.key in let to = c.args.to.now.key in
    let (place, found) = found-of e _ c.find.result c.find.ensures.found (c.is_none.ensures ∙ ap not c.if-is_none.false) in
    let here = found-key _ _ c.find.ensures.same from _ c.key.ensures.value _ _ found in
    let below : from ≢ [] = λ root. (let clash : true ≡ false = sym (c.is_root.ensures.1 (c.key-2.ensures.value ∙ root)) ∙ c.if-is_root.false in cc) in
    let free = (λ i. get (sym c.find.ensures.same i).resources (sym c.key-3.ensures.value i)) ∙ (absent-of c.find.new.self _ c.find-2.result c.find-2.ensures.found (sym c.is_some.ensures ∙ c.if-is_some.false)).missing in
    let same = c.find-2.ensures.same ∙ c.find.ensures.same in
    let none = no-directory-above e c.find-2.new.self same to _ c.key-4.ensures.value c.in_default.ensures in
    over-err _ _ _ _ _ _ (ap (λ b. mark_error 2 b (memory_of c.args.self.now)) (rename_at e.resources from to found.stored here below ∙ ap (λ b. if b then Some Forbidden else create_dir_bar (get (tree_of e.resources) to) (get (tree_of e.resources) (parent to))) (sym c.is_below.ensures ∙ c.if-is_below.false) ∙ place_nowhere e.resources to _ free none)) (memory-same _ _ _ _ _ _ _ same)

pub returns-then-not-has_room-clause-renamed : goal.returns-then-not-has_room-clause-renamed
returns-then-not-has_room-clause-renamed g c =
    let m = memory_of c.args.self.now in
    let e = c.args.self.now.entries in
    let from = c.args.from.now.key in let to = c.args.to.now.key in
    let (place, found) = found-of e _ c.find.result c.find.ensures.found (c.is_none.ensures ∙ ap not c.if-is_none.false) in
    let here = found-key _ _ c.find.ensures.same from _ c.key.ensures.value _ _ found in
    let below : from ≢ [] = λ root. (let clash : true ≡ false = sym (c.is_root.ensures.1 (c.key-2.ensures.value ∙ root)) ∙ c.if-is_root.false in cc) in
    let free = (λ i. get (sym c.find.ensures.same i).resources (sym c.key-3.ensures.value i)) ∙ (absent-of c.find.new.self _ c.find-2.result c.find-2.ensures.found (sym c.is_some.ensures ∙ c.if-is_some.false)).missing in
    let same = c.find-2.ensures.same ∙ c.find.ensures.same in
    let above = directory-above e c.find-2.new.self same to _ c.key-4.ensures.value _ c.in-Some.ensures in
    over-err _ _ _ _ _ _ (ap (λ b. mark_error 2 b m) (rename_at e.resources from to found.stored here below ∙ ap (λ b. if b then Some Forbidden else create_dir_bar (get (tree_of e.resources) to) (get (tree_of e.resources) (parent to))) (sym c.is_below.ensures ∙ c.if-is_below.false) ∙ place_free e.resources to _ free above)
    ∙ room-error 2 m c.has_room.result c.has_room.ensures c.if-not-has_room.true) (memory-same _ _ _ _ _ _ _ same)

pub unreachable-requires : goal.unreachable-requires
unreachable-requires g c =
    let e = c.args.self.now.entries in
    let from = c.args.from.now.key in
    let (place, found) = found-of e _ c.find.result c.find.ensures.found (c.is_none.ensures ∙ ap not c.if-is_none.false) in
    let here = found-key _ _ c.find.ensures.same from _ c.key.ensures.value _ _ found in
    let same = c.find-2.ensures.same ∙ c.find.ensures.same in
    no-directory-above e c.find-2.new.self same from _ c.key-5.ensures.value c.in_default-directory_above.ensures (c.args.self.now.sound.parents from (some_node e.resources from found.stored here))

pub mark-requires-clause-there : goal.mark-requires-clause-there
mark-requires-clause-there g c =
    let e = c.args.self.now.entries in
    let from = c.args.from.now.key in let to = c.args.to.now.key in
    let (place, found) = found-of e _ c.find.result c.find.ensures.found (c.is_none.ensures ∙ ap not c.if-is_none.false) in
    let here = found-key _ _ c.find.ensures.same from _ c.key.ensures.value _ _ found in
    let below : from ≢ [] = λ root. (let clash : true ≡ false = sym (c.is_root.ensures.1 (c.key-2.ensures.value ∙ root)) ∙ c.if-is_root.false in cc) in
    let free = (λ i. get (sym c.find.ensures.same i).resources (sym c.key-3.ensures.value i)) ∙ (absent-of c.find.new.self _ c.find-2.result c.find-2.ensures.found (sym c.is_some.ensures ∙ c.if-is_some.false)).missing in
    let nowhere = node_at e.resources to None free in
    let same = c.find-2.ensures.same ∙ c.find.ensures.same in
    let off = apart-from e.resources from to c.args.self.now.sound nowhere (some_node e.resources from found.stored here) in
    let apart = apart-to e.resources from to (sym c.is_below.ensures ∙ c.if-is_below.false) nowhere (some_node e.resources from found.stored here) in
    let new_some = new-below e.resources to c.args.self.now.sound nowhere in
    let numbers = rw (c.key-6.ensures.value, c.key-7.ensures.value) at c.in_ok-rename.ensures.numbers in
    let left = left-number from to _ _ numbers below new_some off _ (number-above e c.find-2.new.self same from _ c.key-5.ensures.value _ c.in-Some-directory_above.ensures) in
    (parent from, left)

pub mark-requires-clause-room : goal.mark-requires-clause-room
mark-requires-clause-room g c =
    let m = memory_of c.args.self.now in
    room-less m.marks (m.version + 2) (m.version + 1) (omega arith) (sym c.has_room.ensures ∙ c.if-not-has_room.false)

pub mark-requires-2-clause-there : goal.mark-requires-2-clause-there
mark-requires-2-clause-there g c =
    let e = c.args.self.now.entries in
    let from = c.args.from.now.key in let to = c.args.to.now.key in
    let (place, found) = found-of e _ c.find.result c.find.ensures.found (c.is_none.ensures ∙ ap not c.if-is_none.false) in
    let here = found-key _ _ c.find.ensures.same from _ c.key.ensures.value _ _ found in
    let below : from ≢ [] = λ root. (let clash : true ≡ false = sym (c.is_root.ensures.1 (c.key-2.ensures.value ∙ root)) ∙ c.if-is_root.false in cc) in
    let free = (λ i. get (sym c.find.ensures.same i).resources (sym c.key-3.ensures.value i)) ∙ (absent-of c.find.new.self _ c.find-2.result c.find-2.ensures.found (sym c.is_some.ensures ∙ c.if-is_some.false)).missing in
    let nowhere = node_at e.resources to None free in
    let same = c.find-2.ensures.same ∙ c.find.ensures.same in
    let off = apart-from e.resources from to c.args.self.now.sound nowhere (some_node e.resources from found.stored here) in
    let apart = apart-to e.resources from to (sym c.is_below.ensures ∙ c.if-is_below.false) nowhere (some_node e.resources from found.stored here) in
    let new_some = new-below e.resources to c.args.self.now.sound nowhere in
    let numbers = rw (c.key-6.ensures.value, c.key-7.ensures.value) at c.in_ok-rename.ensures.numbers in
    let left = left-number from to _ _ numbers below new_some off _ (number-above e c.find-2.new.self same from _ c.key-5.ensures.value _ c.in-Some-directory_above.ensures) in
    let entered = entered-number from to _ _ numbers below new_some apart _ (number-above e c.find-2.new.self same to _ c.key-4.ensures.value _ c.in-Some.ensures) in
    (parent to, ap (λ m. get m (parent to)) c.mark.ensures.numbers ∙ entered)

pub mark-requires-2-clause-room : goal.mark-requires-2-clause-room
mark-requires-2-clause-room g c =
    let m = memory_of c.args.self.now in
    let e = c.args.self.now.entries in
    let from = c.args.from.now.key in let to = c.args.to.now.key in
    let (place, found) = found-of e _ c.find.result c.find.ensures.found (c.is_none.ensures ∙ ap not c.if-is_none.false) in
    let here = found-key _ _ c.find.ensures.same from _ c.key.ensures.value _ _ found in
    let below : from ≢ [] = λ root. (let clash : true ≡ false = sym (c.is_root.ensures.1 (c.key-2.ensures.value ∙ root)) ∙ c.if-is_root.false in cc) in
    let free = (λ i. get (sym c.find.ensures.same i).resources (sym c.key-3.ensures.value i)) ∙ (absent-of c.find.new.self _ c.find-2.result c.find-2.ensures.found (sym c.is_some.ensures ∙ c.if-is_some.false)).missing in
    let nowhere = node_at e.resources to None free in
    let same = c.find-2.ensures.same ∙ c.find.ensures.same in
    let off = apart-from e.resources from to c.args.self.now.sound nowhere (some_node e.resources from found.stored here) in
    let apart = apart-to e.resources from to (sym c.is_below.ensures ∙ c.if-is_below.false) nowhere (some_node e.resources from found.stored here) in
    let new_some = new-below e.resources to c.args.self.now.sound nowhere in
    let numbers = rw (c.key-6.ensures.value, c.key-7.ensures.value) at c.in_ok-rename.ensures.numbers in
    let left = left-number from to _ _ numbers below new_some off _ (number-above e c.find-2.new.self same from _ c.key-5.ensures.value _ c.in-Some-directory_above.ensures) in
    ap (has_room 1) (c.mark.ensures.marked (parent from) left) ∙ room-marked (parent from) (memory_by c.rename.new.self m.version m.moment m.limit m.tag_part m.marks) (sym c.has_room.ensures ∙ c.if-not-has_room.false)

pub returns-clause-renamed : goal.returns-clause-renamed
returns-clause-renamed g c =
    let m = memory_of c.args.self.now in
    let e = c.args.self.now.entries in
    let from = c.args.from.now.key in let to = c.args.to.now.key in
    let (place, found) = found-of e _ c.find.result c.find.ensures.found (c.is_none.ensures ∙ ap not c.if-is_none.false) in
    let here = found-key _ _ c.find.ensures.same from _ c.key.ensures.value _ _ found in
    let below : from ≢ [] = λ root. (let clash : true ≡ false = sym (c.is_root.ensures.1 (c.key-2.ensures.value ∙ root)) ∙ c.if-is_root.false in cc) in
    let free = (λ i. get (sym c.find.ensures.same i).resources (sym c.key-3.ensures.value i)) ∙ (absent-of c.find.new.self _ c.find-2.result c.find-2.ensures.found (sym c.is_some.ensures ∙ c.if-is_some.false)).missing in
    let nowhere = node_at e.resources to None free in
    let same = c.find-2.ensures.same ∙ c.find.ensures.same in
    let above = directory-above e c.find-2.new.self same to _ c.key-4.ensures.value _ c.in-Some.ensures in
    let off = apart-from e.resources from to c.args.self.now.sound nowhere (some_node e.resources from found.stored here) in
    let apart = apart-to e.resources from to (sym c.is_below.ensures ∙ c.if-is_below.false) nowhere (some_node e.resources from found.stored here) in
    let new_some = new-below e.resources to c.args.self.now.sound nowhere in
    let numbers = rw (c.key-6.ensures.value, c.key-7.ensures.value) at c.in_ok-rename.ensures.numbers in
    let left = left-number from to _ _ numbers below new_some off _ (number-above e c.find-2.new.self same from _ c.key-5.ensures.value _ c.in-Some-directory_above.ensures) in
    let entered = entered-number from to _ _ numbers below new_some apart _ (number-above e c.find-2.new.self same to _ c.key-4.ensures.value _ c.in-Some.ensures) in
    let moved = rw (c.key-6.ensures.value, c.key-7.ensures.value) at c.in_ok-rename.ensures.ok in
    over-ok _ _ _ _ _ _ (ap (λ b. mark_error 2 b m) (rename_at e.resources from to found.stored here below ∙ ap (λ b. if b then Some Forbidden else create_dir_bar (get (tree_of e.resources) to) (get (tree_of e.resources) (parent to))) (sym c.is_below.ensures ∙ c.if-is_below.false) ∙ place_free e.resources to _ free above)
    ∙ room-free 2 m c.has_room.result c.has_room.ensures c.if-not-has_room.false)
    (record {
      between = memory_by c.rename.new.self m.version m.moment m.limit m.tag_part m.marks;
      renamed = record { resources = subst (λ (k : Kept). IsMoved from to k.resources c.rename.new.self.resources) same moved.resources_are; version = refl; moment = refl; limit = refl; tag_part = refl; marks = refl; held = moved.held_are ∙ ap held_of same };
      becomes = c.mark-2.ensures.marked (parent to) (ap (λ m. get m (parent to)) c.mark.ensures.numbers ∙ entered) ∙ ap (marked (parent to)) (c.mark.ensures.marked (parent from) left);
    })
