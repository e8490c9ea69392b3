-- What a change makes of the maps.
use Rattle.std.specs.Prelude.{ℤ, List, [], ◌∷◌, string_bytes}
use Rattle.std.specs.FinMap.{insert, remove}
use Rattle.dav_rows.specs.Contents.{Contents, ResourceValues, ExtentValues, PropertyValues, LockValues, StateValues, NoteValues}
use Rattle.dav_rows.specs.declared.resource.ResourceRow.{ResourceRow}
use Rattle.dav_rows.specs.declared.extent.ExtentRow.{ExtentRow}
use Rattle.dav_rows.specs.declared.property.PropertyRow.{PropertyRow}
use Rattle.dav_rows.specs.declared.lock.LockRow.{LockRow}
use Rattle.dav_rows.specs.declared.state.StateRow.{StateRow}
use Rattle.dav_rows.specs.declared.note.NoteRow.{NoteRow}
use Rattle.dav_rows.specs.declared.change.Table.{Table}
use Rattle.dav_rows.specs.declared.change.Table.TheVariants.{Resource, Extent, Property, Lock, State, Note}
use Rattle.dav_rows.specs.declared.change.Change.{Change}
use Rattle.dav_rows.specs.declared.change.Change.TheVariants.{PutResource, PutExtent, PutProperty, PutLock, PutState, PutNote, Remove}

-- ---- a row as the entry of a map

abbrev pub resource_entry : ResourceRow → ℤ × ResourceValues
resource_entry r =
    (r.number, record { parent = r.parent; name = string_bytes r.name; directory = r.directory; size = r.size; version = r.version; created = r.created; modified = r.modified })

abbrev pub extent_entry : ExtentRow → ℤ × ExtentValues
extent_entry r = (r.number, record { resource = r.resource; place = r.place; pieces = r.pieces.items })

abbrev pub property_entry : PropertyRow → ℤ × PropertyValues
property_entry r = (r.number, record { resource = r.resource; namespace = string_bytes r.namespace; name = string_bytes r.name; element = r.element.items })

abbrev pub lock_entry : LockRow → ℤ × LockValues
lock_entry r = (r.number, record { token = string_bytes r.token; path = string_bytes r.path; lock = r.lock.items })

abbrev pub state_entry : StateRow → ℤ × StateValues
state_entry r = (r.number, record { counter = r.counter; time = r.time; batch = r.batch; digest_key = r.digest_key })

abbrev pub note_entry : NoteRow → ℤ × NoteValues
note_entry r = (r.number, record { kind = r.kind; owner = r.owner; value = r.value.items })

-- ---- the maps after a change

abbrev pub put_resource : ResourceRow → Contents → Contents
put_resource r m = record m { resources = insert m.resources r.number (resource_entry r).1 }

abbrev pub put_extent : ExtentRow → Contents → Contents
put_extent r m = record m { extents = insert m.extents r.number (extent_entry r).1 }

abbrev pub put_property : PropertyRow → Contents → Contents
put_property r m = record m { properties = insert m.properties r.number (property_entry r).1 }

abbrev pub put_lock : LockRow → Contents → Contents
put_lock r m = record m { locks = insert m.locks r.number (lock_entry r).1 }

abbrev pub put_state : StateRow → Contents → Contents
put_state r m = record m { states = insert m.states r.number (state_entry r).1 }

-- the first of them first
abbrev pub put_two_states : StateRow → StateRow → Contents → Contents
put_two_states first second m = put_state second (put_state first m)

abbrev pub put_note : NoteRow → Contents → Contents
put_note r m = record m { notes = insert m.notes r.number (note_entry r).1 }

abbrev pub removed : Table → ℤ → Contents → Contents
removed Resource n m = record m { resources = remove m.resources n }
removed Extent n m = record m { extents = remove m.extents n }
removed Property n m = record m { properties = remove m.properties n }
removed Lock n m = record m { locks = remove m.locks n }
removed State n m = record m { states = remove m.states n }
removed Note n m = record m { notes = remove m.notes n }

abbrev pub after_one : Change → Contents → Contents
after_one (PutResource r) m = put_resource r m
after_one (PutExtent r) m = put_extent r m
after_one (PutProperty r) m = put_property r m
after_one (PutLock r) m = put_lock r m
after_one (PutState r) m = put_state r m
after_one (PutNote r) m = put_note r m
after_one (Remove table n) m = removed table n m

-- the maps after these changes, the first of them first
abbrev pub after : List Change → Contents → Contents
after [] m = m
after (c ∷ cs) m = after cs (after_one c m)
