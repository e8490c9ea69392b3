use Rattle.std.proofs.Common.{◌∙◌, ◌+◌, ◌<◌, ◌^◌, ap, Some, length, refl, arith}
use Rattle.dav_store.specs.Calls.{written_at, bytes_at}
use Rattle.dav_tree.specs.Memory.{filled, wrote, change_at, size_of}
use Rattle.dav_tree.specs.TreeFs.{memory_of}
use Rattle.dav_tree.specs.MemoryCalls.{change_error}
use Rattle.dav_tree.proofs.Sound.{sound-filled}
use Rattle.dav_tree.proofs.Rows.{file_there, filled-is, place-is, bytes-are, change_to}
use Rattle.dav_tree.proofs.Places.{at-key}
use Rattle.dav_tree.proofs.Effects.{over-ok, over-exit, fits, memory-same, memory-changed, sound-changed}
use Rattle.dav_tree.proofs.tree_fs.TreeFs.write_file.Goals as goal

pub place_in-place-requires : goal.place_in-place-requires
place_in-place-requires g c =
    let found = c.in_ok-number.ensures.found in
    (c.args.file.now.path.key, found.stored, at-key _ _ c.find_file.ensures.same _ _ c.key.ensures.value _ _ found.at)

pub returns-in_err-version-clause-written : goal.returns-in_err-version-clause-written
returns-in_err-version-clause-written g c =
    let e = c.args.self.now.entries in
    let found = c.in_ok-number.ensures.found in
    let at = at-key e e refl c.args.file.now.path.key _ c.key.ensures.value _ _ found.at in
    over-exit _ _ _ _ _ _ _ c.from_residual-in_err-version.ensures.1 (ap (λ b. change_error b (memory_of c.args.self.now)) (file_there e.resources c.args.file.now.path.key found.stored at.there found.file) ∙ c.in_err-version.ensures) (memory-same _ _ _ _ _ _ _ c.find_file.ensures.same)

pub write-requires-clause-file : goal.write-requires-clause-file
write-requires-clause-file g c =
    let found = c.in_ok-number.ensures.found in
    (c.args.file.now.path.key, found.stored, at-key _ _ c.find_file.ensures.same _ _ c.key.ensures.value _ _ found.at, found.file)

pub write-requires-clause-fits : goal.write-requires-clause-fits
write-requires-clause-fits g c =
    let found = c.in_ok-number.ensures.found in
    let at = at-key _ _ c.find_file.ensures.same c.args.file.now.path.key _ c.key.ensures.value _ _ found.at in
    fits c.args.file.now.append c.args.file.now.pos (size_of found.stored.node) c.place_in-place.result (length c.args.bytes.now) (c.place_in-place.ensures.value _ _ at) c.place_in-place.ensures.small c.requires (omega arith)

pub overflow_add-file : goal.overflow_add-file
overflow_add-file g c =
    let found = c.in_ok-number.ensures.found in
    let at = at-key _ _ c.find_file.ensures.same c.args.file.now.path.key _ c.key.ensures.value _ _ found.at in
    let room : c.place_in-place.result + length c.args.bytes.now < 2 ^ 64 =
    fits c.args.file.now.append c.args.file.now.pos (size_of found.stored.node) c.place_in-place.result (length c.args.bytes.now) (c.place_in-place.ensures.value _ _ at) c.place_in-place.ensures.small c.requires (omega arith) in
    omega (arith, room)

pub invariant_of-self-2 : goal.invariant_of-self-2
invariant_of-self-2 g c =
    let e = c.args.self.now.entries in
    let key = c.args.file.now.path.key in
    let found = c.in_ok-number.ensures.found in
    let here = at-key e e refl key _ c.key.ensures.value _ _ found.at in
    let at = at-key e c.find_file.new.self c.find_file.ensures.same key _ c.key.ensures.value _ _ found.at in
    record {
      sound = sound-changed e c.find_file.new.self c.write.new.self c.find_file.ensures.same c.args.self.now.sound (change_at key (wrote c.place_in-place.result c.args.bytes.now c.in_ok-version.version c.args.self.now.moment))
          (λ new is. sound-filled e.resources new key (written_at (bytes_at (Some found.stored.node)) c.place_in-place.result c.args.bytes.now) c.in_ok-version.version c.args.self.now.moment found.stored c.args.self.now.sound (is ∙ change_to e.resources key found.stored _ _ here.there refl) here.there found.file)
          (c.in_ok-write.ensures.ok key at.numbered);
    }

pub returns-clause-written : goal.returns-clause-written
returns-clause-written g c =
    let m = memory_of c.args.self.now in
    let e = c.args.self.now.entries in
    let key = c.args.file.now.path.key in
    let found = c.in_ok-number.ensures.found in
    let here = at-key e e refl key _ c.key.ensures.value _ _ found.at in
    let at = at-key e c.find_file.new.self c.find_file.ensures.same key _ c.key.ensures.value _ _ found.at in
    let place = c.place_in-place.ensures.value _ _ at ∙ place-is m c.args.file.now found.stored here.there found.file in
    over-ok _ _ _ _ _ _ (ap (λ b. change_error b m) (file_there e.resources key found.stored here.there found.file) ∙ c.in_ok-version.ensures.1)
    (memory-changed c.in_ok-version.version m.moment m.limit m.tag_part m.marks e c.find_file.new.self c.write.new.self (change_at key (wrote c.place_in-place.result c.args.bytes.now c.in_ok-version.version m.moment)) c.find_file.ensures.same (c.in_ok-write.ensures.ok key at.numbered)
    ∙ filled-is m key (written_at (bytes_at (Some found.stored.node)) c.place_in-place.result c.args.bytes.now) _ c.in_ok-version.version (change_to e.resources key found.stored _ _ here.there refl) c.in_ok-version.ensures.0
    ∙ (λ i. filled key (written_at (bytes-are e.resources key found.stored here.there i) (place i) c.args.bytes.now) m))

pub returns-clause-place : goal.returns-clause-place
returns-clause-place g c =
    let e = c.args.self.now.entries in
    let key = c.args.file.now.path.key in
    let found = c.in_ok-number.ensures.found in
    let here = at-key e e refl key _ c.key.ensures.value _ _ found.at in
    let at = at-key e c.find_file.new.self c.find_file.ensures.same key _ c.key.ensures.value _ _ found.at in
    let place = c.place_in-place.ensures.value _ _ at ∙ place-is (memory_of c.args.self.now) c.args.file.now found.stored here.there found.file in
    λ i. record c.args.file.now { pos = place i + length c.args.bytes.now }
