-- Properties whose elements have their names, entry by entry.
use Rattle.std.proofs.Common.{◌≡◌, List}
use Rattle.std.specs.FinMap.{entries}
use Rattle.dav_key.specs.Key.{Key}
use Rattle.dav_resource.specs.Tree.{Tree}
use Rattle.dav_store.specs.Store.{PropertyMap, AreNamed, element_key}
use Rattle.dav_tree.proofs.EachEntry.{AllEntries, all-entries, at-entries}

-- the element has this name
abbrev pub IsNamedBy : Key → Tree → Type 0
IsNamedBy name element = element_key element ≡ name

abbrev pub AllNamedBy : List (Key × Tree) → Type 0
AllNamedBy es = AllEntries IsNamedBy es

pub named-entries : (m : PropertyMap) → AreNamed m → AllNamedBy (entries m)
named-entries m named = all-entries IsNamedBy m named

pub entries-named : (m : PropertyMap) → AllNamedBy (entries m) → AreNamed m
entries-named m each = at-entries IsNamedBy m each
