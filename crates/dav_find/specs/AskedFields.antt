-- What a requested property holds besides its element, and a code by which proofs compare such properties: this project's own choice.
use Rattle.std.specs.Prelude.{◌≡◌, Bool, if◌then◌else◌, Option, Some, None, refl}
use Rattle.std.specs.Coded.{Coded, code_by, coded×, coded_bool}
use Rattle.dav_resource.specs.Tree.{Tree}
use Rattle.dav_resource.specs.TreeCode.{tree_code}
use Rattle.dav_resource.specs.declared.property.DavProp.{DavProp}
use Rattle.dav_props.specs.Live.{is_kept}
use Rattle.dav_props.specs.Property.{bare, prop_named}
use Rattle.dav_live.specs.Names.{live_property_of}
use Rattle.dav_find.specs.Asked.{AskedProperty}
use Rattle.dav_find.specs.declared.asked.AskedProperty.TheInside.{Inside}

abbrev pub asked_in : Inside → AskedProperty
asked_in a = record { element = a.element; by_server = a.by_server }

-- the name by which a store can keep the property, if it can
abbrev pub kept_name : Tree → Option DavProp
kept_name element = if is_kept element then Some (prop_named element None) else None

-- the element that reports it without a value, unless only the server's own list names it
abbrev pub bare_unless : Bool → Tree → Option Tree
bare_unless by_server element = if by_server then None else Some (bare element)

-- the fields that follow from the element and from who names it
pub record IsResolved (a : Inside) : Type 0 where
  pub live : a.live ≡ live_property_of a.element.tag.namespace a.element.tag.name
  pub kept : a.kept ≡ kept_name a.element
  pub bare : a.bare ≡ bare_unless a.by_server a.element

abbrev pub asked_code : Coded AskedProperty
asked_code =
    code_by (Tree × Bool) (coded× tree_code coded_bool) (λ a. (a.element, a.by_server)) (λ p. record { element = p.0; by_server = p.1 })
    (λ _. refl)
