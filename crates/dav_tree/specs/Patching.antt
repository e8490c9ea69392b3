-- How the in-memory store changes the dead properties of a resource: this project's own choice.
use Rattle.std.specs.Prelude.{◌≡◌, true, if◌then◌else◌, Option, Some, None, is_some}
use Rattle.std.specs.Option.{option_and_then, option_or}
use Rattle.std.specs.FinMap.{FinMap, get}
use Rattle.std.specs.BTreeMap.{BTreeMap}
use Rattle.dav_key.specs.Below.{put_at}
use Rattle.dav_key.specs.Key.{Key, key_cmp}
use Rattle.dav_resource.specs.Tree.{Tree}
use Rattle.dav_store.specs.Store.{PropertyMap}
use Rattle.dav_tree.specs.OrderedMaps.{seen_map}
use Rattle.dav_tree.specs.PropertyNames.{key_of}
use Rattle.dav_tree.specs.declared.properties.PropertyName.{PropertyName}
use Rattle.dav_tree.specs.declared.properties.patching.Plan.{Plan}

-- changes of properties by their names
abbrev pub Changes : Type 0
Changes = FinMap key_cmp (Option Tree)

abbrev pub changes_of : BTreeMap PropertyName (Option Tree) → Changes
changes_of m = seen_map key_of m

-- a change gives an existing property this element, or removes it; a missing property stays missing
abbrev pub replaced_by : Option (Option Tree) → Option Tree → Option Tree
replaced_by None there = there
replaced_by (Some element) there = option_and_then (λ _. element) there

-- some properties are stored among others, replacing those with the same names
abbrev pub ArePut : PropertyMap → PropertyMap → PropertyMap → Type 0
ArePut properties old new = (q : Key) → get new q ≡ option_or (get properties q) (get old q)

-- the names that are not among some properties have the same element as before
abbrev pub AreKept : PropertyMap → PropertyMap → PropertyMap → Type 0
AreKept properties old new = (q : Key) → get properties q ≡ None → get new q ≡ get old q

-- the names of some properties are removed
abbrev pub AreTaken : PropertyMap → PropertyMap → PropertyMap → Type 0
AreTaken properties old new = (q : Key) → get new q ≡ (if is_some (get properties q) then None else get old q)

-- two maps of properties have no name in common
abbrev pub AreOthers : PropertyMap → PropertyMap → Type 0
AreOthers properties old = (q : Key) → is_some (get properties q) ≡ true → get old q ≡ None

-- the existing properties are changed
abbrev pub AreChanged : Changes → PropertyMap → PropertyMap → Type 0
AreChanged changes old new = (q : Key) → get new q ≡ replaced_by (get changes q) (get old q)

-- the plan for one name: a missing property may be added, and an existing one may be changed
abbrev pub Planned : Option Tree → Option Tree → Option (Option Tree) → Option Tree → Type 0
Planned None added change want = (change ≡ None) × (added ≡ want)
Planned (Some element) added change want = (added ≡ None) × (replaced_by change (Some element) ≡ want)

-- these additions and changes turn the old properties into the wanted ones
abbrev pub IsPlan : PropertyMap → PropertyMap → Changes → PropertyMap → Type 0
IsPlan old added changes want = (q : Key) → Planned (get old q) (get added q) (get changes q) (get want q)

-- whatever a plan comes to, the next one comes to the same with this element at the name, or with none there
abbrev pub PlansMore : PropertyMap → Plan → Plan → Key → Option Tree → Type 0
PlansMore old before after name element =
    (want : PropertyMap) → IsPlan old before.added (changes_of before.changed) want
    → IsPlan old after.added (changes_of after.changed) (put_at want name element)
