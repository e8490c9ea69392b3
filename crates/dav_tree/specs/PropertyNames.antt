-- What contracts see of the names of dead properties in the in-memory store (RFC 4918, section 4.2): this project's own choice.
use Rattle.std.specs.Prelude.{string_bytes, string_cmp}
use Rattle.std.specs.Option.{option_map, option_cmp}
use Rattle.std.specs.Ordering.{ordering_then}
use Rattle.std.specs.declared.cmp.Ordering.{Ordering}
use Rattle.std.specs.BTreeMap.{BTreeMap}
use Rattle.dav_key.specs.Key.{Key}
use Rattle.dav_resource.specs.Tree.{Tree}
use Rattle.dav_tree.specs.OrderedMaps.{seen_map}
use Rattle.dav_store.specs.Store.{PropertyMap, property_key}
use Rattle.dav_tree.specs.declared.properties.PropertyName.{PropertyName}

-- a name, as a key
abbrev pub key_of : PropertyName → Key
key_of name = property_key (option_map string_bytes name.namespace) (string_bytes name.name)

-- names compare by namespace, none first, and then by local name
abbrev pub name_cmp : PropertyName → PropertyName → Ordering
name_cmp a b = ordering_then (option_cmp string_cmp a.namespace b.namespace) (string_cmp a.name b.name)

abbrev pub properties_of : BTreeMap PropertyName Tree → PropertyMap
properties_of m = seen_map key_of m
