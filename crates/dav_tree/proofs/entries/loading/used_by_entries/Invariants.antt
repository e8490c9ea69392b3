use Rattle.std.proofs.Common.{◌≡◌, ◌≤◌, ◌*◌, ◌^◌, take}
use Rattle.std.specs.List.{sum_by}
use Rattle.dav_tree.specs.Entry.{node_by}
use Rattle.dav_tree.specs.Memory.{size_of}
use Rattle.dav_tree.proofs.entries.loading.used_by_entries.Given as goal

-- the bytes of the files so far
abbrev pub invariant-loop-entry : goal.invariant-loop-entry
invariant-loop-entry g l = record {
  value : l.used ≡ sum_by (λ e. size_of (node_by (g.M.Medium.bytes l.medium) e.1.now.content)) (take l.entry-index l.entries);
  small : l.used ≤ l.entry-index * 2 ^ 63;
}
