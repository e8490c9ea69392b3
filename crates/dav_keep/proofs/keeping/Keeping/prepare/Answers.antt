use Rattle.std.proofs.Common.{inr, sym, subst}
use Rattle.dav_memls.specs.MemLs.{list_of}
use Rattle.dav_store_rows.specs.LockRows.{SavesLocks}
use Rattle.dav_tree.specs.Before.{IsNotedBetween}
use Rattle.dav_tree.specs.TreeFs.{before_of, entries_of}
use Rattle.dav_keep.proofs.Preparing.{prepared}
use Rattle.dav_keep.proofs.SoundTrees.{sound_tree, on_err}
use Rattle.dav_keep.proofs.keeping.Keeping.prepare.Goals as goal

pub returns-in_err-save_changes-clause-stopped : goal.returns-in_err-save_changes-clause-stopped
returns-in_err-save_changes-clause-stopped g c =
    on_err c.from_residual-in_err-save_changes.result (inr (record {
      tree = c.show_entries.ensures.tree;
      is = c.show_entries.ensures.entries;
      sound = sound_tree c.take_changes.new.self c.show_entries.ensures;
      saved = c.in_ok-noted.ensures.saved;
      older = c.in_ok-noted.ensures.older;
    }))

pub returns-clause-prepared : goal.returns-clause-prepared
returns-clause-prepared g c =
    let saves =
    subst (λ before. SavesLocks (list_of c.args.locks.now) c.args.self.now.locks before c.save.new.self c.save.new.changes.items) c.new-changes.ensures.items
    (subst (λ locks. SavesLocks locks c.args.self.now.locks c.new-changes.result.items c.save.new.self c.save.new.changes.items) c.locks.ensures.value
    c.in_ok-save.ensures.ok) in
    prepared g.M.Medium.body_code _ _ (before_of c.args.store.now) (entries_of c.take_changes.new.self) (list_of c.args.locks.now) c.in_ok-noted.noted
    c.save.new.changes.items c.save_changes.new.changes.items saves c.in_ok-save_changes.ensures c.show_entries.ensures.tree
    (subst (λ now. IsNotedBetween g.M.Medium.body_code c.in_ok-noted.noted (before_of c.args.store.now) now) (sym c.take_changes.ensures.entries) c.in_ok-noted.ensures.noted)
    c.show_entries.ensures.entries (sound_tree c.take_changes.new.self c.show_entries.ensures)
