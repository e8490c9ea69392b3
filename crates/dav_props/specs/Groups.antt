-- Properties grouped by status, in a map: this project's own choice.
use Rattle.std.specs.Prelude.{◌≡◌, ◌≢◌, ℕ, List, [], ◌∷◌, ◌++◌, All, Vec, map, Some, option_map}
use Rattle.std.specs.declared.alloc.Global.{Global}
use Rattle.std.specs.Option.{option_map_or}
use Rattle.std.specs.Ordering.{nat_cmp}
use Rattle.std.specs.BTreeMap.{BTreeMap, keys, get, IsOrdered}
use Rattle.http.specs.StatusCode.{IsStatusCode}
use Rattle.dav_resource.specs.Tree.{Tree}
use Rattle.dav_props.specs.Propstat.{Group}

abbrev pub StatusMap : Type 0
StatusMap = BTreeMap ℕ (Vec Tree Global)

-- each status with its properties, in the order of the map, the least status first
abbrev pub groups_of : StatusMap → List Group
groups_of map_of = map (λ e. (e.0, e.1.items)) map_of.entries

-- each key is an HTTP status, of three digits
abbrev pub AreStatuses : StatusMap → Type 0
AreStatuses map_of = All IsStatusCode (keys map_of)

-- the properties of a status, none if it has no entry
abbrev pub properties_at : StatusMap → ℕ → List Tree
properties_at map_of status = option_map_or (λ elements. elements.items) (get nat_cmp map_of status) []

-- One more property has this status, after those that had it. The other statuses keep what they had.
pub record AddsProperty (old : StatusMap) (status : ℕ) (element : Tree) (new : StatusMap) : Type 0 where
  pub here : option_map (λ (elements : Vec Tree Global). elements.items) (get nat_cmp new status) ≡ Some (properties_at old status ++ element ∷ [])
  pub others : (other : ℕ) → other ≢ status → get nat_cmp new other ≡ get nat_cmp old other
  pub ordered : IsOrdered nat_cmp new
