-- What a row that is put, and a number that is removed, make of all maps.
use Rattle.std.proofs.Common.{◌≡◌, ℕ, ℤ, true, codes, [], ◌∷◌, Ok, Err, Result, OnOk, ◌∙◌}
use Rattle.std.specs.FinMap.{remove}
use Rattle.sqlite.specs.declared.types.Value.TheVariants.{Int}
use Rattle.sqlite.specs.declared.error.Error.{Error}
use Rattle.sqlite.specs.State.{State, ExecutesInside, Shows}
use Rattle.dav_rows.specs.declared.change.Table.{Table}
use Rattle.dav_rows.specs.declared.change.Table.TheVariants.{Resource, Extent, Property, Lock, State as TheState, Note}
use Rattle.dav_rows.specs.declared.resource.ResourceRow.{ResourceRow}
use Rattle.dav_rows.specs.declared.extent.ExtentRow.{ExtentRow}
use Rattle.dav_rows.specs.declared.property.PropertyRow.{PropertyRow}
use Rattle.dav_rows.specs.declared.lock.LockRow.{LockRow}
use Rattle.dav_rows.specs.declared.state.StateRow.{StateRow}
use Rattle.dav_rows.specs.declared.note.NoteRow.{NoteRow}
use Rattle.dav_rows.specs.Tables.{rows_schema, resource_columns, extent_columns, property_columns, lock_columns, state_columns, note_columns}
use Rattle.dav_rows.specs.Stored.{Numbered, shown}
use Rattle.dav_rows.specs.Texts.{removal}
use Rattle.dav_rows.specs.Contents.{Contents, Holds, resource_cells, ResourceValues, extent_cells, ExtentValues, property_cells, PropertyValues, lock_cells, LockValues, state_cells, StateValues, note_cells, NoteValues}
use Rattle.dav_rows.specs.Changes.{resource_entry, put_resource, extent_entry, put_extent, property_entry, put_property, lock_entry, put_lock, state_entry, put_state, note_entry, put_note, removed}
use Rattle.dav_rows.specs.Saving.{IsReady, Edits}
use Rattle.dav_rows.proofs.Suits.{given_of}
use Rattle.dav_rows.proofs.ChangeLemmas.{Alters, put_entries, puts}
use Rattle.dav_rows.proofs.RemoveLemmas.{removes}
use Rattle.dav_rows.proofs.ResourceTexts as resource
use Rattle.dav_rows.proofs.ExtentTexts as extent
use Rattle.dav_rows.proofs.PropertyTexts as property
use Rattle.dav_rows.proofs.LockTexts as lock
use Rattle.dav_rows.proofs.StateTexts as state
use Rattle.dav_rows.proofs.NoteTexts as note

edited : (old new : State) (f : Contents → Contents) → Shows old new new.now old.committed true → new.now.schema ≡ rows_schema → ((m : Contents) → Holds old.now.trees m → Holds new.now.trees (f m)) → Edits old new f
edited old new f shown schema holds = record {
  ready = record { is_open = shown.is_open; inside = shown.mode; schema = schema };
  committed = shown.committed_is;
  holds = holds;
}

in_resources : (old new : State) (f : Numbered ResourceValues → Numbered ResourceValues) → Alters resource_cells 0 old.now new.now f
    → (m : Contents) → Holds old.now.trees m → Holds new.now.trees (record m { resources = f m.resources })
in_resources old new f it m was = record {
  resources = it.rows m.resources was.resources;
  extents = it.others 1 (λ e. cc) ∙ was.extents;
  properties = it.others 2 (λ e. cc) ∙ was.properties;
  locks = it.others 3 (λ e. cc) ∙ was.locks;
  states = it.others 4 (λ e. cc) ∙ was.states;
  notes = it.others 5 (λ e. cc) ∙ was.notes;
  sound = it.sound;
}

pub put_resource_edits : (old new : State) (row : ResourceRow) (r : Result ℕ Error) → ExecutesInside 0 resource.put_text (shown resource_cells (resource_entry row)) old new r → IsReady old → OnOk r (Edits old new (put_resource row))
put_resource_edits old new row (Ok count) ran ready =
    let es = resource_entry row ∷ [] in
    let it = puts resource_cells (codes "resource") 0 resource_columns resource.suits resource.put_text es (resource.puts (resource_entry row)) old new count ready.schema ran.0 in
    edited old new (put_resource row) ran.1 it.schema (in_resources old new (λ m. put_entries es m) it)
put_resource_edits old new row (Err e) ran ready = tt

in_extents : (old new : State) (f : Numbered ExtentValues → Numbered ExtentValues) → Alters extent_cells 1 old.now new.now f
    → (m : Contents) → Holds old.now.trees m → Holds new.now.trees (record m { extents = f m.extents })
in_extents old new f it m was = record {
  resources = it.others 0 (λ e. cc) ∙ was.resources;
  extents = it.rows m.extents was.extents;
  properties = it.others 2 (λ e. cc) ∙ was.properties;
  locks = it.others 3 (λ e. cc) ∙ was.locks;
  states = it.others 4 (λ e. cc) ∙ was.states;
  notes = it.others 5 (λ e. cc) ∙ was.notes;
  sound = it.sound;
}

pub put_extent_edits : (old new : State) (row : ExtentRow) (r : Result ℕ Error) → ExecutesInside 0 extent.put_text (shown extent_cells (extent_entry row)) old new r → IsReady old → OnOk r (Edits old new (put_extent row))
put_extent_edits old new row (Ok count) ran ready =
    let es = extent_entry row ∷ [] in
    let it = puts extent_cells (codes "extent") 1 extent_columns extent.suits extent.put_text es (extent.puts (extent_entry row)) old new count ready.schema ran.0 in
    edited old new (put_extent row) ran.1 it.schema (in_extents old new (λ m. put_entries es m) it)
put_extent_edits old new row (Err e) ran ready = tt

in_properties : (old new : State) (f : Numbered PropertyValues → Numbered PropertyValues) → Alters property_cells 2 old.now new.now f
    → (m : Contents) → Holds old.now.trees m → Holds new.now.trees (record m { properties = f m.properties })
in_properties old new f it m was = record {
  resources = it.others 0 (λ e. cc) ∙ was.resources;
  extents = it.others 1 (λ e. cc) ∙ was.extents;
  properties = it.rows m.properties was.properties;
  locks = it.others 3 (λ e. cc) ∙ was.locks;
  states = it.others 4 (λ e. cc) ∙ was.states;
  notes = it.others 5 (λ e. cc) ∙ was.notes;
  sound = it.sound;
}

pub put_property_edits : (old new : State) (row : PropertyRow) (r : Result ℕ Error) → ExecutesInside 0 property.put_text (shown property_cells (property_entry row)) old new r → IsReady old → OnOk r (Edits old new (put_property row))
put_property_edits old new row (Ok count) ran ready =
    let es = property_entry row ∷ [] in
    let it = puts property_cells (codes "property") 2 property_columns property.suits property.put_text es (property.puts (property_entry row)) old new count ready.schema ran.0 in
    edited old new (put_property row) ran.1 it.schema (in_properties old new (λ m. put_entries es m) it)
put_property_edits old new row (Err e) ran ready = tt

in_locks : (old new : State) (f : Numbered LockValues → Numbered LockValues) → Alters lock_cells 3 old.now new.now f
    → (m : Contents) → Holds old.now.trees m → Holds new.now.trees (record m { locks = f m.locks })
in_locks old new f it m was = record {
  resources = it.others 0 (λ e. cc) ∙ was.resources;
  extents = it.others 1 (λ e. cc) ∙ was.extents;
  properties = it.others 2 (λ e. cc) ∙ was.properties;
  locks = it.rows m.locks was.locks;
  states = it.others 4 (λ e. cc) ∙ was.states;
  notes = it.others 5 (λ e. cc) ∙ was.notes;
  sound = it.sound;
}

pub put_lock_edits : (old new : State) (row : LockRow) (r : Result ℕ Error) → ExecutesInside 0 lock.put_text (shown lock_cells (lock_entry row)) old new r → IsReady old → OnOk r (Edits old new (put_lock row))
put_lock_edits old new row (Ok count) ran ready =
    let es = lock_entry row ∷ [] in
    let it = puts lock_cells (codes "lock") 3 lock_columns lock.suits lock.put_text es (lock.puts (lock_entry row)) old new count ready.schema ran.0 in
    edited old new (put_lock row) ran.1 it.schema (in_locks old new (λ m. put_entries es m) it)
put_lock_edits old new row (Err e) ran ready = tt

in_states : (old new : State) (f : Numbered StateValues → Numbered StateValues) → Alters state_cells 4 old.now new.now f
    → (m : Contents) → Holds old.now.trees m → Holds new.now.trees (record m { states = f m.states })
in_states old new f it m was = record {
  resources = it.others 0 (λ e. cc) ∙ was.resources;
  extents = it.others 1 (λ e. cc) ∙ was.extents;
  properties = it.others 2 (λ e. cc) ∙ was.properties;
  locks = it.others 3 (λ e. cc) ∙ was.locks;
  states = it.rows m.states was.states;
  notes = it.others 5 (λ e. cc) ∙ was.notes;
  sound = it.sound;
}

pub put_state_edits : (old new : State) (row : StateRow) (r : Result ℕ Error) → ExecutesInside 0 state.put_text (shown state_cells (state_entry row)) old new r → IsReady old → OnOk r (Edits old new (put_state row))
put_state_edits old new row (Ok count) ran ready =
    let es = state_entry row ∷ [] in
    let it = puts state_cells (codes "state") 4 state_columns state.suits state.put_text es (state.puts (state_entry row)) old new count ready.schema ran.0 in
    edited old new (put_state row) ran.1 it.schema (in_states old new (λ m. put_entries es m) it)
put_state_edits old new row (Err e) ran ready = tt

pub put_states_edits : (old new : State) (a b : StateRow) (r : Result ℕ Error) → ExecutesInside 0 state.put_two_text (given_of state_cells (state_entry a ∷ state_entry b ∷ [])) old new r → IsReady old
    → OnOk r (Edits old new (λ m. put_state b (put_state a m)))
put_states_edits old new a b (Ok count) ran ready =
    let es = state_entry a ∷ state_entry b ∷ [] in
    let it = puts state_cells (codes "state") 4 state_columns state.suits state.put_two_text es (state.puts_two (state_entry a) (state_entry b)) old new count ready.schema ran.0 in
    edited old new (λ m. put_state b (put_state a m)) ran.1 it.schema (in_states old new (λ m. put_entries es m) it)
put_states_edits old new a b (Err e) ran ready = tt

in_notes : (old new : State) (f : Numbered NoteValues → Numbered NoteValues) → Alters note_cells 5 old.now new.now f
    → (m : Contents) → Holds old.now.trees m → Holds new.now.trees (record m { notes = f m.notes })
in_notes old new f it m was = record {
  resources = it.others 0 (λ e. cc) ∙ was.resources;
  extents = it.others 1 (λ e. cc) ∙ was.extents;
  properties = it.others 2 (λ e. cc) ∙ was.properties;
  locks = it.others 3 (λ e. cc) ∙ was.locks;
  states = it.others 4 (λ e. cc) ∙ was.states;
  notes = it.rows m.notes was.notes;
  sound = it.sound;
}

pub put_note_edits : (old new : State) (row : NoteRow) (r : Result ℕ Error) → ExecutesInside 0 note.put_text (shown note_cells (note_entry row)) old new r → IsReady old → OnOk r (Edits old new (put_note row))
put_note_edits old new row (Ok count) ran ready =
    let es = note_entry row ∷ [] in
    let it = puts note_cells (codes "note") 5 note_columns note.suits note.put_text es (note.puts (note_entry row)) old new count ready.schema ran.0 in
    edited old new (put_note row) ran.1 it.schema (in_notes old new (λ m. put_entries es m) it)
put_note_edits old new row (Err e) ran ready = tt

pub remove_edits : (old new : State) (table : Table) (n : ℤ) (r : Result ℕ Error) → ExecutesInside 0 (removal table) (Int n ∷ []) old new r → IsReady old → OnOk r (Edits old new (removed table n))
remove_edits old new Resource n (Ok count) ran ready =
    let it = removes resource_cells (codes "resource") 0 resource_columns resource.suits resource.remove_text resource.removes old new n count ready.schema ran.0 in
    edited old new (removed Resource n) ran.1 it.schema (in_resources old new (λ m. remove m n) it)
remove_edits old new Extent n (Ok count) ran ready =
    let it = removes extent_cells (codes "extent") 1 extent_columns extent.suits extent.remove_text extent.removes old new n count ready.schema ran.0 in
    edited old new (removed Extent n) ran.1 it.schema (in_extents old new (λ m. remove m n) it)
remove_edits old new Property n (Ok count) ran ready =
    let it = removes property_cells (codes "property") 2 property_columns property.suits property.remove_text property.removes old new n count ready.schema ran.0 in
    edited old new (removed Property n) ran.1 it.schema (in_properties old new (λ m. remove m n) it)
remove_edits old new Lock n (Ok count) ran ready =
    let it = removes lock_cells (codes "lock") 3 lock_columns lock.suits lock.remove_text lock.removes old new n count ready.schema ran.0 in
    edited old new (removed Lock n) ran.1 it.schema (in_locks old new (λ m. remove m n) it)
remove_edits old new TheState n (Ok count) ran ready =
    let it = removes state_cells (codes "state") 4 state_columns state.suits state.remove_text state.removes old new n count ready.schema ran.0 in
    edited old new (removed TheState n) ran.1 it.schema (in_states old new (λ m. remove m n) it)
remove_edits old new Note n (Ok count) ran ready =
    let it = removes note_cells (codes "note") 5 note_columns note.suits note.remove_text note.removes old new n count ready.schema ran.0 in
    edited old new (removed Note n) ran.1 it.schema (in_notes old new (λ m. remove m n) it)
remove_edits old new table n (Err e) ran ready = tt
