use Rattle.std.proofs.Common.{refl}
use Rattle.dav_store.specs.Store.{Directory}
use Rattle.dav_tree.specs.Memory.{fresh}
use Rattle.dav_tree.proofs.Sound.{sound-root}
use Rattle.dav_tree.proofs.tree_fs.TreeFs.over.Goals as goal

pub invariant_of-result : goal.invariant_of-result
invariant_of-result g c = record { sound = sound-root _ (fresh Directory 0 0) c.in_ok-new.ensures.resources refl refl }
