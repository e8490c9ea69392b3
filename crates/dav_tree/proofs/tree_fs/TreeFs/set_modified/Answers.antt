use Rattle.std.proofs.Common.{refl, map, None}
use Rattle.dav_store.specs.Logged.{logged_of}
use Rattle.dav_tree.specs.Memory.{change_at, with_modified}
use Rattle.dav_tree.specs.TreeFs.{memory_of}
use Rattle.dav_tree.proofs.Sound.{sound-beside}
use Rattle.dav_tree.proofs.Rows.{node_at}
use Rattle.dav_tree.proofs.Places.{number-again, at-key, missing-key, found-key}
use Rattle.dav_tree.proofs.Effects.{memory-same, memory-changed, sound-changed}
use Rattle.dav_tree.proofs.Modifying.{sets-modified}
use Rattle.dav_tree.proofs.tree_fs.TreeFs.set_modified.Goals as goal

pub returns-in_default-clause-err : goal.returns-in_default-clause-err
returns-in_default-clause-err g c = memory-same _ _ _ _ _ _ _ c.find.ensures.same

pub returns-in_default-clause-cause : goal.returns-in_default-clause-cause
returns-in_default-clause-cause g c =
    (refl, node_at c.args.self.now.entries.resources c.args.path.now.key None (missing-key _ _ c.find.ensures.same _ _ c.key.ensures.value c.in_default.ensures.found))

pub set_modified-requires : goal.set_modified-requires
set_modified-requires g c = number-again _ _ _ c.find.ensures.same _ _ c.in-Some.ensures.found

pub invariant_of-self-2 : goal.invariant_of-self-2
invariant_of-self-2 g c =
    let key = c.args.path.now.key in
    let at = at-key c.args.self.now.entries c.find.new.self c.find.ensures.same key _ c.key.ensures.value _ _ c.in-Some.ensures.found.at in
    record {
      sound = sound-changed c.args.self.now.entries c.find.new.self c.set_modified.new.self c.find.ensures.same c.args.self.now.sound (change_at key (with_modified c.args.time))
          (λ new is. sound-beside c.args.self.now.entries.resources new key (with_modified c.args.time) (λ s. refl) (λ s named. named) c.args.self.now.sound is)
          (c.set_modified.ensures key at.numbered);
    }

pub returns-clause-seen : goal.returns-clause-seen
returns-clause-seen g c =
    let key = c.args.path.now.key in
    let here = found-key _ _ c.find.ensures.same key _ c.key.ensures.value _ _ c.in-Some.ensures.found in
    let at = at-key c.args.self.now.entries c.find.new.self c.find.ensures.same key _ c.key.ensures.value _ _ c.in-Some.ensures.found.at in
    sets-modified (memory_of c.args.self.now) key c.args.time c.in-Some.ensures.found.stored here _ (map logged_of c.args.self.now.log.items)
    (memory-changed _ _ _ _ _ c.args.self.now.entries c.find.new.self c.set_modified.new.self (change_at key (with_modified c.args.time)) c.find.ensures.same (c.set_modified.ensures key at.numbered))

pub returns-clause-memory : goal.returns-clause-memory
returns-clause-memory g c =
    let key = c.args.path.now.key in
    let at = at-key c.args.self.now.entries c.find.new.self c.find.ensures.same key _ c.key.ensures.value _ _ c.in-Some.ensures.found.at in
    memory-changed _ _ _ _ _ c.args.self.now.entries c.find.new.self c.set_modified.new.self (change_at key (with_modified c.args.time)) c.find.ensures.same (c.set_modified.ensures key at.numbered)
