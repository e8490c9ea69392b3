-- What the store is asked to set has an element of its own name.
use Rattle.std.specs.Prelude.{◌≡◌, ℕ, true, false, refl, Option, Some, None}
use Rattle.std.specs.Option.{unwrap_or}
use Rattle.dav_resource.specs.Tree.{Tree}
use Rattle.dav_resource.specs.declared.property.PropertyPatch.TheVariants.{Set}
use Rattle.dav_store.specs.PropertyCalls.{IsWhole}
use Rattle.dav_props.specs.Live.{kind_of, time_in, patch_of_time}
use Rattle.dav_props.specs.Property.{prop_named}
use Rattle.dav_props.specs.Update.{Change, patch_of}
use Rattle.dav_props.specs.declared.live.PropertyKind.{PropertyKind}
use Rattle.dav_props.specs.declared.live.PropertyKind.TheVariants.{Dead, DisplayName, ContentLanguage, Fixed, PassedOver, ModificationTime, CreationTime, Protected}

set_whole : (element : Tree) (kind : PropertyKind) (time : Option ℕ) → IsWhole (unwrap_or (patch_of_time kind time) (Set (prop_named element (Some element))))
set_whole element Dead time = refl
set_whole element DisplayName time = refl
set_whole element ContentLanguage time = refl
set_whole element Fixed time = refl
set_whole element PassedOver time = refl
set_whole element ModificationTime None = refl
set_whole element ModificationTime (Some secs) = tt
set_whole element CreationTime None = refl
set_whole element CreationTime (Some secs) = tt
set_whole element Protected time = refl

pub patch_whole : (change : Change) → IsWhole (patch_of change)
patch_whole change =
    elim change.set as (λ set. IsWhole (patch_of (record change { set = set }))) [
      | true ↦ set_whole change.element (kind_of change.element.tag.namespace change.element.tag.name) (time_in change.element)
      | false ↦ tt
    ]
