-- How properties are distinguished by their names (Namespaces in XML 1.0, section 2.1): this project's own choice.
use Rattle.std.specs.Prelude.{◌≡◌, ◌&&◌, ℕ, Bool, not, List, [], ◌∷◌, ◌++◌, map, bytes_eq}
use Rattle.std.specs.Cmp.Lexicographic.{slice_cmp}
use Rattle.std.specs.List.{list_any}
use Rattle.std.specs.Option.{option_cmp, option_copied, option_eq}
use Rattle.std.specs.Ordering.{nat_cmp, ordering_then}
use Rattle.std.specs.declared.cmp.Ordering.{Ordering}
use Rattle.std.specs.BTreeSet.{BTreeSet, contains}
use denote.Ref.{Bor}
use Rattle.dav_resource.specs.Tree.{Tree}
use Rattle.dav_find.specs.declared.names.PropertyName.{PropertyName}
use Rattle.dav_find.specs.Asked.{AskedProperty}
use Rattle.dav_find.specs.Asked.{is_among}

-- strings compare byte by byte
abbrev pub text_cmp : Bor (List ℕ) → Bor (List ℕ) → Ordering
text_cmp a b = slice_cmp nat_cmp a.now b.now

-- names compare first by namespace, where no namespace is the least, then by local name
abbrev pub name_cmp : PropertyName → PropertyName → Ordering
name_cmp a b = ordering_then (option_cmp text_cmp a.namespace b.namespace) (text_cmp a.name b.name)

-- the element names the property of this name
abbrev pub is_named_by : PropertyName → Tree → Bool
is_named_by name element = option_eq bytes_eq (option_copied name.namespace) element.tag.namespace && bytes_eq name.name.now element.tag.name

-- a name is in the set if and only if one of these elements names the property that has it
abbrev pub AreNamesOf : BTreeSet PropertyName → List Tree → Type 0
AreNamesOf names elements = (name : PropertyName) → contains name_cmp names name ≡ list_any (is_named_by name) elements

-- the element names a property that is not among those whose names are in the set
abbrev pub IsNewAmong : BTreeSet PropertyName → Tree → Bool → Type 0
IsNewAmong names element added = (elements : List Tree) → AreNamesOf names elements → added ≡ not (is_among element elements)

-- the name of the property that the element names is added to the set
abbrev pub AddsName : BTreeSet PropertyName → Tree → BTreeSet PropertyName → Type 0
AddsName old element new = (elements : List Tree) → AreNamesOf old elements → AreNamesOf new (elements ++ element ∷ [])

-- the elements that name these properties
abbrev pub elements_in : List AskedProperty → List Tree
elements_in asked = map (λ (a : AskedProperty). a.element) asked
