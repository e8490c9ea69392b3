use Rattle.std.proofs.Common.{◌∙◌, ◌+◌, None, ap, sym, arith}
use Rattle.std.specs.FinMap.{insert, get}
use Rattle.dav_key.specs.Key.{parent}
use Rattle.dav_store.specs.Store.{Directory}
use Rattle.dav_tree.specs.Memory.{fresh, tree_of, marked}
use Rattle.dav_tree.specs.TreeFs.{memory_of}
use Rattle.dav_tree.specs.MemoryCalls.{member_error}
use Rattle.dav_tree.proofs.Named.{named-empty}
use Rattle.dav_tree.proofs.Sound.{sound-kept}
use Rattle.dav_tree.proofs.Rows.{place_taken, place_nowhere, dir_free, missing_no_directory}
use Rattle.dav_tree.proofs.Marking.{member-room, room-less}
use Rattle.dav_tree.proofs.Places.{absent-of, found-of, missing-key, found-key, directory-above, number-above, no-directory-above}
use Rattle.dav_tree.proofs.Effects.{over-ok, over-err, over-exit, memory-same, memory-changed, sound-changed}
use Rattle.dav_tree.proofs.tree_fs.TreeFs.make_directory.Goals as goal

pub returns-then-is_some-clause-made : goal.returns-then-is_some-clause-made
returns-then-is_some-clause-made g c =
    let m = memory_of c.args.self.now in
    let key = c.args.path.now.key in
    let (place, found) = found-of c.args.self.now.entries _ c.find.result c.find.ensures.found (sym c.is_some.ensures ∙ c.if-is_some.true) in
    let here = found-key _ _ c.find.ensures.same key _ c.key.ensures.value _ _ found in
    over-err _ _ _ _ _ _ (ap (λ b. member_error b m) (place_taken m.resources key found.stored (get (tree_of m.resources) (parent key)) here)) (memory-same _ _ _ _ _ _ _ c.find.ensures.same)

pub returns-in_default-clause-made : goal.returns-in_default-clause-made
returns-in_default-clause-made g c =
    let m = memory_of c.args.self.now in
    let key = c.args.path.now.key in
    let missing = missing-key _ _ c.find.ensures.same key _ c.key.ensures.value (absent-of c.args.self.now.entries _ c.find.result c.find.ensures.found (sym c.is_some.ensures ∙ c.if-is_some.false)) in
    let none = no-directory-above c.args.self.now.entries c.find.new.self c.find.ensures.same key _ c.key-2.ensures.value c.in_default.ensures in
    over-err _ _ _ _ _ _ (ap (λ b. member_error b m) (place_nowhere m.resources key _ missing none)) (memory-same _ _ _ _ _ _ _ c.find.ensures.same)

pub returns-in_err-version-clause-made : goal.returns-in_err-version-clause-made
returns-in_err-version-clause-made g c =
    let m = memory_of c.args.self.now in
    let key = c.args.path.now.key in
    let same = c.find.ensures.same in
    let missing = missing-key _ _ c.find.ensures.same key _ c.key.ensures.value (absent-of c.args.self.now.entries _ c.find.result c.find.ensures.found (sym c.is_some.ensures ∙ c.if-is_some.false)) in
    let above = directory-above c.args.self.now.entries c.find.new.self c.find.ensures.same key _ c.key-2.ensures.value _ c.in-Some.ensures in
    let again = memory-same m.version m.moment m.limit m.tag_part m.marks c.args.self.now.entries c.find.new.self same in
    over-exit _ _ _ _ _ _ _ c.from_residual.ensures.1 (dir_free m key missing above ∙ ap (member_error None) (sym again) ∙ c.in_err-version.ensures) (memory-same _ _ _ _ _ _ _ same)

pub invariant_of-self-2 : goal.invariant_of-self-2
invariant_of-self-2 g c =
    let e = c.args.self.now.entries in
    let key = c.args.path.now.key in
    let same = c.find.ensures.same in
    let missing = missing-key _ _ c.find.ensures.same key _ c.key.ensures.value (absent-of e _ c.find.result c.find.ensures.found (sym c.is_some.ensures ∙ c.if-is_some.false)) in
    let above = directory-above e c.find.new.self c.find.ensures.same key _ c.key-2.ensures.value _ c.in-Some.ensures in
    let made = fresh Directory c.in_ok-version.version c.args.self.now.moment in
    record {
      sound = sound-changed e c.find.new.self c.add_directory.new.self same c.args.self.now.sound (λ r. insert r key made)
          (λ new is. sound-kept e.resources new key made c.args.self.now.sound is c.key.ensures.key above (missing_no_directory e.resources key missing) named-empty)
          (rw c.key-3.ensures.value at c.in_ok-add_directory.ensures.ok);
    }

pub mark-requires-clause-there : goal.mark-requires-clause-there
mark-requires-clause-there g c =
    let key = c.args.path.now.key in
    (parent key, c.in_ok-add_directory.ensures.numbers (parent key) _ (number-above c.args.self.now.entries c.find.new.self c.find.ensures.same key _ c.key-2.ensures.value _ c.in-Some.ensures))

pub mark-requires-clause-room : goal.mark-requires-clause-room
mark-requires-clause-room g c =
    let m = memory_of c.args.self.now in
    let again = memory-same m.version m.moment m.limit m.tag_part m.marks c.args.self.now.entries c.find.new.self c.find.ensures.same in
    room-less m.marks (m.version + 2) (c.in_ok-version.version + 1) (omega (arith, c.in_ok-version.ensures.0)) (member-room m (ap (member_error None) (sym again) ∙ c.in_ok-version.ensures.1))

pub returns-clause-made : goal.returns-clause-made
returns-clause-made g c =
    let m = memory_of c.args.self.now in
    let e = c.args.self.now.entries in
    let key = c.args.path.now.key in
    let same = c.find.ensures.same in
    let missing = missing-key _ _ c.find.ensures.same key _ c.key.ensures.value (absent-of e _ c.find.result c.find.ensures.found (sym c.is_some.ensures ∙ c.if-is_some.false)) in
    let above = directory-above e c.find.new.self c.find.ensures.same key _ c.key-2.ensures.value _ c.in-Some.ensures in
    let number = c.in_ok-add_directory.ensures.numbers (parent key) _ (number-above e c.find.new.self c.find.ensures.same key _ c.key-2.ensures.value _ c.in-Some.ensures) in
    let again = memory-same m.version m.moment m.limit m.tag_part m.marks e c.find.new.self same in
    over-ok _ _ _ _ _ _ (dir_free m key missing above ∙ ap (member_error None) (sym again) ∙ c.in_ok-version.ensures.1)
    (c.mark.ensures.marked (parent key) number
    ∙ ap (marked (parent key)) (memory-changed c.in_ok-version.version m.moment m.limit m.tag_part m.marks e c.find.new.self c.add_directory.new.self (λ r. insert r key (fresh Directory c.in_ok-version.version m.moment)) same (rw c.key-3.ensures.value at c.in_ok-add_directory.ensures.ok)
    ∙ ap (λ v. record m { resources = insert m.resources key (fresh Directory v m.moment); version = v }) c.in_ok-version.ensures.0))
