-- The name of a property, and a property as it is stored (RFC 4918, sections 4.3, 4.4 and 14.18; Namespaces in XML 1.0, section 3).
use Rattle.std.specs.Prelude.{ℕ, List, [], Option, Some, None, unwrap_or}
use Rattle.dav_resource.specs.Tree.{Tree, no_nodes, with_attribute, xmlns_name}
use Rattle.dav_resource.specs.declared.property.DavProp.{DavProp}

-- an element with only the name, prefix and namespace of this one
abbrev pub named_alone : Tree → Tree
named_alone prop =
    record {
      tag = record { name = prop.tag.name; prefix = prop.tag.prefix; namespace = prop.tag.namespace; attributes = [] };
      children = no_nodes;
    }

-- the same, with a declaration of its namespace, if it has one, under its prefix
abbrev pub bare : Tree → Tree
bare prop = declare prop.tag.namespace
  where
    declare : Option (List ℕ) → Tree
    declare None = named_alone prop
    declare (Some namespace) = with_attribute (named_alone prop) (xmlns_name (unwrap_or prop.tag.prefix [])) namespace

-- the property of this element's name, with this value
abbrev pub prop_named : Tree → Option Tree → DavProp
prop_named element value = record { name = element.tag.name; prefix = element.tag.prefix; namespace = element.tag.namespace; element = value }
