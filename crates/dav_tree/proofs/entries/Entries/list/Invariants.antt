use Rattle.std.proofs.Common.{◌≡◌, ◌++◌, ℕ, List, Some, map, All}
use Rattle.std.specs.List.{AllZip}
use Rattle.std.specs.FinMap.{get, keys}
use Rattle.dav_key.specs.Members.{names_among, member}
use Rattle.dav_tree.specs.declared.entry.Entry.{Entry}
use Rattle.dav_tree.proofs.Listings.{IsEntryOf}
use Rattle.dav_tree.proofs.entries.Entries.list.Given as goal

-- the members so far are listed
abbrev pub invariant-loop-name : goal.invariant-loop-name
invariant-loop-name g l = record {
  all : List (List ℕ × Entry g.row.M-Body.Denot);
  names : map (λ m. m.0) all ≡ names_among (keys l.self-inside.tree.nodes.values) l.directory;
  values : All (λ m. get l.self-inside.tree.nodes.values (member l.directory m.0) ≡ Some m.1) all;
  done : List (List ℕ × Entry g.row.M-Body.Denot);
  shown : AllZip (IsEntryOf l.tag_part (g.M.Medium.bytes l.self-inside.medium)) done l.listing.items;
  left : done ++ l.name-iterator ≡ all;
}
