use Rattle.std.proofs.Common.{◌≡◌, ◌++◌, List, map, length}
use Rattle.std.specs.List.{AllZip}
use Rattle.std.specs.FinMap.{entries}
use Rattle.std.specs.Vec.Iter.{into_iter_items, into_iter_len}
use Rattle.dav_key.specs.Key.{Key}
use Rattle.dav_tree.specs.Memory.{Stored}
use Rattle.dav_tree.specs.Entry.{stored_by}
use Rattle.dav_tree.specs.Dump.{IsDumpOf}
use Rattle.dav_tree.proofs.entries.listing.Entries+InMemory.dump.Given as goal

-- what comes first is copied, and the others are left
abbrev pub invariant-loop-key : goal.invariant-loop-key
invariant-loop-key l = record {
  done : List (Key × Stored);
  copied : AllZip IsDumpOf done l.dumped.items;
  left : done ++ map (λ e. (e.0, stored_by (λ body. body) e.1.now)) (into_iter_items l.key-iterator) ≡ entries l.self.resources;
  count : into_iter_len l.key-iterator ≡ length (into_iter_items l.key-iterator);
}
