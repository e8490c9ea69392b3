use Rattle.std.proofs.Common.{ap, Some, None, true}
use Rattle.dav_store.specs.PropertyCalls.{properties_bar}
use Rattle.dav_tree.specs.Memory.{change_at, patched_by}
use Rattle.dav_tree.proofs.Sound.{sound-patched}
use Rattle.dav_tree.proofs.Rows.{node_at}
use Rattle.dav_tree.proofs.Places.{number-again, at-key, missing-key, found-key}
use Rattle.dav_tree.proofs.Effects.{over-ok, over-err, memory-same, memory-changed, sound-either-way}
use Rattle.dav_tree.proofs.tree_fs.TreeFs.patch.Goals as goal

pub returns-in_default-clause-patched : goal.returns-in_default-clause-patched
returns-in_default-clause-patched g c =
    let missing = missing-key _ _ c.find.ensures.same _ _ c.key.ensures.value c.in_default.ensures.found in
    over-err _ _ _ _ _ _ (ap (properties_bar true) (node_at c.args.self.now.entries.resources c.args.path.now.key None missing)) (memory-same _ _ _ _ _ _ _ c.find.ensures.same)

pub patch-requires : goal.patch-requires
patch-requires g c = number-again _ _ _ c.find.ensures.same _ _ c.in-Some.ensures.found

pub invariant_of-self-2 : goal.invariant_of-self-2
invariant_of-self-2 g c =
    let key = c.args.path.now.key in
    let at = at-key c.args.self.now.entries c.find.new.self c.find.ensures.same key _ c.key.ensures.value _ _ c.in-Some.ensures.found.at in
    record {
      sound = sound-either-way c.args.self.now.entries c.find.new.self c.patch.new.self c.find.ensures.same c.args.self.now.sound (change_at key (patched_by c.args.patches.now))
          (λ new is. sound-patched c.args.self.now.entries.resources new key c.args.patches.now c.args.self.now.sound is c.requires)
          c.patch.result (c.patch.ensures.ok key at.numbered) c.patch.ensures.err;
    }

pub returns-clause-patched : goal.returns-clause-patched
returns-clause-patched g c =
    let key = c.args.path.now.key in
    let here = found-key _ _ c.find.ensures.same key _ c.key.ensures.value _ _ c.in-Some.ensures.found in
    let at = at-key c.args.self.now.entries c.find.new.self c.find.ensures.same key _ c.key.ensures.value _ _ c.in-Some.ensures.found.at in
    over-ok _ _ _ _ _ _ (ap (properties_bar true) (node_at c.args.self.now.entries.resources key (Some c.in-Some.ensures.found.stored) here))
    (memory-changed _ _ _ _ _ c.args.self.now.entries c.find.new.self c.patch.new.self (change_at key (patched_by c.args.patches.now)) c.find.ensures.same (c.in_ok-patch.ensures.ok key at.numbered))
