-- The fields of a requested property, from what contracts see of it.
use Rattle.std.proofs.Common.{◌≡◌, ◌∙◌, ap, sym, refl, Bool, true, false, Some, None, if◌then◌else◌}
use Rattle.dav_resource.specs.Tree.{Tree}
use Rattle.dav_resource.specs.declared.property.DavProp.{DavProp}
use Rattle.dav_props.specs.Property.{prop_named}
use Rattle.dav_live.specs.Names.{live_property_of}
use Rattle.dav_find.specs.Asked.{AskedProperty}
use Rattle.dav_find.specs.AskedFields.{asked_in, kept_name, bare_unless, IsResolved}
use Rattle.dav_find.specs.Finding.{View, is_looked_up, looked_up}
use Rattle.dav_find.specs.declared.asked.AskedProperty.TheInside.{Inside}

module _ (a : Inside) (asked : AskedProperty) (resolved : IsResolved a) (is : asked_in a ≡ asked) where
  pub live_in : live_property_of asked.element.tag.namespace asked.element.tag.name ≡ a.live
  live_in = ap (λ (x : AskedProperty). live_property_of x.element.tag.namespace x.element.tag.name) (sym is) ∙ sym resolved.live

  pub kept_in : kept_name asked.element ≡ a.kept
  kept_in = ap (λ (x : AskedProperty). kept_name x.element) (sym is) ∙ sym resolved.kept

  pub bare_in : bare_unless asked.by_server asked.element ≡ a.bare
  bare_in = ap (λ (x : AskedProperty). bare_unless x.by_server x.element) (sym is) ∙ sym resolved.bare

-- ---- the name by which a store is asked

where_some : (b : Bool) (x y : DavProp) → (if b then Some x else None) ≡ Some y → (b ≡ true) × (y ≡ x)
where_some true x y is = (refl, sym cc)
where_some false x y is = absurd cc

where_none : (b : Bool) (x : DavProp) → (if b then Some x else None) ≡ None → b ≡ false
where_none true x is = absurd cc
where_none false x is = refl

pub is_asked : (view : View) (element : Tree) (name : DavProp) → looked_up view element ≡ Some name → (is_looked_up view element ≡ true) × (name ≡ prop_named element None)
is_asked view element name is = where_some (is_looked_up view element) (prop_named element None) name is

pub is_unasked : (view : View) (element : Tree) → looked_up view element ≡ None → is_looked_up view element ≡ false
is_unasked view element is = where_none (is_looked_up view element) (prop_named element None) is
