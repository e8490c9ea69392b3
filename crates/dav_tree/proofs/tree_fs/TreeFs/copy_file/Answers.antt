use Rattle.std.proofs.Common.{◌∙◌, ◌+◌, None, ap, sym, arith}
use Rattle.std.specs.Option.{option_map}
use Rattle.std.specs.FinMap.{get, insert}
use Rattle.dav_key.specs.Key.{parent}
use Rattle.dav_key.specs.Below.{put_at}
use Rattle.dav_resource.specs.declared.error.FsError.TheVariants.{NotFound, Forbidden}
use Rattle.dav_tree.specs.Memory.{copy_of, copied, marked}
use Rattle.dav_tree.specs.Kept.{Kept}
use Rattle.dav_tree.specs.TreeFs.{memory_of}
use Rattle.dav_tree.specs.MemoryCalls.{member_error, error_of_copy}
use Rattle.dav_tree.proofs.Sound.{sound-kept}
use Rattle.dav_tree.proofs.Rows.{copy_missing, copy_of_directory, copy_onto_directory, copy_free, copy-due, copy-over, copy-new}
use Rattle.dav_tree.proofs.Marking.{member-room, room-less}
use Rattle.dav_tree.proofs.Places.{at-again, missing-key, found-key, directory-above, number-above, finds-some, directory-key, no-directory-key}
use Rattle.dav_tree.proofs.Effects.{over-ok, over-err, over-exit, memory-same, memory-changed, sound-changed}
use Rattle.dav_tree.proofs.tree_fs.TreeFs.copy_file.Goals as goal

pub returns-in_default-clause-copied : goal.returns-in_default-clause-copied
returns-in_default-clause-copied g c =
    let m = memory_of c.args.self.now in
    let missing = missing-key _ _ c.find.ensures.same _ _ c.key.ensures.value c.in_default.ensures.found in
    over-err _ _ _ _ _ _ (ap (λ b. error_of_copy (get m.resources c.args.to.now.key) b m) (copy_missing m.resources c.args.from.now.key c.args.to.now.key missing) ∙ copy-due (get m.resources c.args.to.now.key) NotFound m) (memory-same _ _ _ _ _ _ _ c.find.ensures.same)

pub returns-then-source-clause-copied : goal.returns-then-source-clause-copied
returns-then-source-clause-copied g c =
    let m = memory_of c.args.self.now in
    let found = c.in-Some.ensures.found in
    let here = found-key _ _ c.find.ensures.same c.args.from.now.key _ c.key.ensures.value _ _ found in
    let above = directory-above c.args.self.now.entries c.find.new.self c.find.ensures.same c.args.to.now.key _ c.key-2.ensures.value _ c.in-Some-directory_above.ensures in
    over-err _ _ _ _ _ _ (ap (λ b. error_of_copy (get m.resources c.args.to.now.key) b m) (copy_of_directory m.resources c.args.from.now.key c.args.to.now.key found.stored here (sym found.kind ∙ c.if-source.true) above) ∙ copy-due (get m.resources c.args.to.now.key) Forbidden m) (memory-same _ _ _ _ _ _ _ (c.find.ensures.same))

pub returns-then-is_directory-clause-copied : goal.returns-then-is_directory-clause-copied
returns-then-is_directory-clause-copied g c =
    let m = memory_of c.args.self.now in
    let found = c.in-Some.ensures.found in
    let here = found-key _ _ c.find.ensures.same c.args.from.now.key _ c.key.ensures.value _ _ found in
    let above = directory-above c.args.self.now.entries c.find.new.self c.find.ensures.same c.args.to.now.key _ c.key-2.ensures.value _ c.in-Some-directory_above.ensures in
    let same = c.find.ensures.same in
    let there = directory-key c.args.self.now.entries c.find.new.self same c.args.to.now.key _ c.key-3.ensures.value c.find-there.result c.find-there.ensures.found (sym c.is_directory.ensures ∙ c.if-is_directory.true) in
    over-err _ _ _ _ _ _ (ap (λ b. error_of_copy (get m.resources c.args.to.now.key) b m) (copy_onto_directory m.resources c.args.from.now.key c.args.to.now.key found.stored here (sym found.kind ∙ c.if-source.false) there above) ∙ copy-due (get m.resources c.args.to.now.key) Forbidden m) (memory-same _ _ _ _ _ _ _ (c.find-there.ensures.same ∙ same))

pub returns-in_err-version-clause-copied : goal.returns-in_err-version-clause-copied
returns-in_err-version-clause-copied g c =
    let m = memory_of c.args.self.now in
    let found = c.in-Some.ensures.found in
    let here = found-key _ _ c.find.ensures.same c.args.from.now.key _ c.key.ensures.value _ _ found in
    let above = directory-above c.args.self.now.entries c.find.new.self c.find.ensures.same c.args.to.now.key _ c.key-2.ensures.value _ c.in-Some-directory_above.ensures in
    let same = c.find.ensures.same in
    let there = no-directory-key c.args.self.now.entries c.find.new.self same c.args.to.now.key _ c.key-3.ensures.value c.find-there.result c.find-there.ensures.found (sym c.is_directory.ensures ∙ c.if-is_directory.false) in
    let again = memory-same m.version m.moment m.limit m.tag_part m.marks c.args.self.now.entries c.find-there.new.self (c.find-there.ensures.same ∙ same) in
    over-exit _ _ _ _ _ _ _ c.from_residual.ensures.1 (ap (λ b. error_of_copy (get m.resources c.args.to.now.key) b m) (copy_free m.resources c.args.from.now.key c.args.to.now.key found.stored here (sym found.kind ∙ c.if-source.false) there above)
    ∙ ap (error_of_copy (get m.resources c.args.to.now.key) None) (sym again) ∙ c.in_err-version.ensures (get m.resources c.args.to.now.key) (finds-some c.args.self.now.entries c.find.new.self same c.args.to.now.key _ c.key-3.ensures.value c.find-there.result c.find-there.ensures.found)) (memory-same _ _ _ _ _ _ _ (c.find-there.ensures.same ∙ same))

pub copy_to-requires-clause-from : goal.copy_to-requires-clause-from
copy_to-requires-clause-from g c =
    let found = c.in-Some.ensures.found in
    (_, found.stored, at-again _ _ _ (c.find-there.ensures.same ∙ c.find.ensures.same) _ _ found)

pub invariant_of-self-3 : goal.invariant_of-self-3
invariant_of-self-3 g c =
    let e = c.args.self.now.entries in
    let to = c.args.to.now.key in
    let found = c.in-Some.ensures.found in
    let here = found-key _ _ c.find.ensures.same c.args.from.now.key _ c.key.ensures.value _ _ found in
    let above = directory-above e c.find.new.self c.find.ensures.same to _ c.key-2.ensures.value _ c.in-Some-directory_above.ensures in
    let same = c.find.ensures.same in
    let there = no-directory-key e c.find.new.self same to _ c.key-3.ensures.value c.find-there.result c.find-there.ensures.found (sym c.is_directory.ensures ∙ c.if-is_directory.false) in
    let version = c.in_ok-version.version in let now = c.args.self.now.moment in
    record {
      sound = sound-changed e c.find-there.new.self c.copy_to.new.self (c.find-there.ensures.same ∙ same) c.args.self.now.sound (λ r. insert r to (copy_of (get r to) version now found.stored))
          (λ new is. sound-kept e.resources new to (copy_of (get e.resources to) version now found.stored) c.args.self.now.sound is c.key-3.ensures.key above there (c.args.self.now.sound.named c.args.from.now.key found.stored here))
          (rw c.key-4.ensures.value at (c.in_ok-copy_to.ensures.ok _ found.stored (at-again _ _ _ (c.find-there.ensures.same ∙ same) _ _ found)));
    }

pub mark-requires-clause-there : goal.mark-requires-clause-there
mark-requires-clause-there g c =
    let e = c.args.self.now.entries in
    let to = c.args.to.now.key in
    let above = number-above e c.find.new.self c.find.ensures.same to _ c.key-2.ensures.value _ c.in-Some-directory_above.ensures in
    (parent to, c.in_ok-copy_to.ensures.numbers (parent to) _ (ap (λ (k : Kept). get k.numbers (parent to)) c.find-there.ensures.same ∙ above))

pub mark-requires-clause-room : goal.mark-requires-clause-room
mark-requires-clause-room g c =
    let m = memory_of c.args.self.now in
    let next = c.in_ok-version.ensures None (sym (sym c.is_some.ensures ∙ c.if-is_some.false)) in
    let again = memory-same m.version m.moment m.limit m.tag_part m.marks c.args.self.now.entries c.find-there.new.self (c.find-there.ensures.same ∙ c.find.ensures.same) in
    room-less m.marks (m.version + 2) (c.in_ok-version.version + 1) (omega (arith, next.0)) (member-room m (ap (member_error None) (sym again) ∙ next.1))

pub returns-then-is_some-clause-copied : goal.returns-then-is_some-clause-copied
returns-then-is_some-clause-copied g c =
    let m = memory_of c.args.self.now in
    let e = c.args.self.now.entries in
    let to = c.args.to.now.key in
    let found = c.in-Some.ensures.found in
    let here = found-key _ _ c.find.ensures.same c.args.from.now.key _ c.key.ensures.value _ _ found in
    let above = directory-above e c.find.new.self c.find.ensures.same to _ c.key-2.ensures.value _ c.in-Some-directory_above.ensures in
    let same = c.find.ensures.same in
    let there = no-directory-key e c.find.new.self same to _ c.key-3.ensures.value c.find-there.result c.find-there.ensures.found (sym c.is_directory.ensures ∙ c.if-is_directory.false) in
    let some = finds-some e c.find.new.self same to _ c.key-3.ensures.value c.find-there.result c.find-there.ensures.found in
    let next = c.in_ok-version.ensures (get m.resources to) some in
    let again = memory-same m.version m.moment m.limit m.tag_part m.marks e c.find-there.new.self (c.find-there.ensures.same ∙ same) in
    over-ok _ _ _ _ _ _ (ap (λ b. error_of_copy (get m.resources to) b m) (copy_free m.resources c.args.from.now.key to found.stored here (sym found.kind ∙ c.if-source.false) there above)
    ∙ ap (error_of_copy (get m.resources to) None) (sym again) ∙ next.1)
    (memory-changed c.in_ok-version.version m.moment m.limit m.tag_part m.marks e c.find-there.new.self c.copy_to.new.self (λ r. insert r to (copy_of (get r to) c.in_ok-version.version m.moment found.stored)) (c.find-there.ensures.same ∙ same)
    (rw c.key-4.ensures.value at (c.in_ok-copy_to.ensures.ok _ found.stored (at-again _ _ _ (c.find-there.ensures.same ∙ same) _ _ found)))
    ∙ ap (λ v. record m { resources = insert m.resources to (copy_of (get m.resources to) v m.moment found.stored); version = v }) next.0
    ∙ ap (λ o. record m { resources = put_at m.resources to (option_map (copy_of (get m.resources to) (m.version + 1) m.moment) o); version = m.version + 1 }) (sym here)
    ∙ sym (copy-over (get m.resources to) to (copied c.args.from.now.key to m) (some ∙ sym c.is_some.ensures ∙ c.if-is_some.true)))

pub returns-clause-copied : goal.returns-clause-copied
returns-clause-copied g c =
    let m = memory_of c.args.self.now in
    let e = c.args.self.now.entries in
    let to = c.args.to.now.key in
    let found = c.in-Some.ensures.found in
    let here = found-key _ _ c.find.ensures.same c.args.from.now.key _ c.key.ensures.value _ _ found in
    let above = directory-above e c.find.new.self c.find.ensures.same to _ c.key-2.ensures.value _ c.in-Some-directory_above.ensures in
    let same = c.find.ensures.same in
    let there = no-directory-key e c.find.new.self same to _ c.key-3.ensures.value c.find-there.result c.find-there.ensures.found (sym c.is_directory.ensures ∙ c.if-is_directory.false) in
    let some = finds-some e c.find.new.self same to _ c.key-3.ensures.value c.find-there.result c.find-there.ensures.found in
    let next = c.in_ok-version.ensures (get m.resources to) some in
    let above_number = number-above e c.find.new.self c.find.ensures.same to _ c.key-2.ensures.value _ c.in-Some-directory_above.ensures in
    let number = c.in_ok-copy_to.ensures.numbers (parent to) _ (ap (λ (k : Kept). get k.numbers (parent to)) c.find-there.ensures.same ∙ above_number) in
    let again = memory-same m.version m.moment m.limit m.tag_part m.marks e c.find-there.new.self (c.find-there.ensures.same ∙ same) in
    over-ok _ _ _ _ _ _ (ap (λ b. error_of_copy (get m.resources to) b m) (copy_free m.resources c.args.from.now.key to found.stored here (sym found.kind ∙ c.if-source.false) there above)
    ∙ ap (error_of_copy (get m.resources to) None) (sym again) ∙ next.1)
    (c.mark.ensures.marked (parent to) number ∙ ap (marked (parent to)) (memory-changed c.in_ok-version.version m.moment m.limit m.tag_part m.marks e c.find-there.new.self c.copy_to.new.self (λ r. insert r to (copy_of (get r to) c.in_ok-version.version m.moment found.stored)) (c.find-there.ensures.same ∙ same)
    (rw c.key-4.ensures.value at (c.in_ok-copy_to.ensures.ok _ found.stored (at-again _ _ _ (c.find-there.ensures.same ∙ same) _ _ found)))
    ∙ ap (λ v. record m { resources = insert m.resources to (copy_of (get m.resources to) v m.moment found.stored); version = v }) next.0
    ∙ ap (λ o. record m { resources = put_at m.resources to (option_map (copy_of (get m.resources to) (m.version + 1) m.moment) o); version = m.version + 1 }) (sym here))
    ∙ sym (copy-new (get m.resources to) to (copied c.args.from.now.key to m) (some ∙ sym c.is_some.ensures ∙ c.if-is_some.false)))
