-- What is read of each table.
use Rattle.std.proofs.Common.{◌≡◌, ℤ, Bool, true, false, map, Result, Vec, refl, ap}
use Rattle.std.specs.declared.alloc.Global.{Global}
use Rattle.std.specs.FinMap.{entries}
use Rattle.sqlite.specs.declared.error.Error.{Error}
use Rattle.sqlite.specs.declared.types.Value.TheVariants.{Int}
use Rattle.sqlite.specs.State.{State}
use Rattle.dav_rows.specs.declared.resource.ResourceRow.{ResourceRow}
use Rattle.dav_rows.specs.declared.extent.ExtentRow.{ExtentRow}
use Rattle.dav_rows.specs.declared.property.PropertyRow.{PropertyRow}
use Rattle.dav_rows.specs.declared.lock.LockRow.{LockRow}
use Rattle.dav_rows.specs.declared.state.StateRow.{StateRow}
use Rattle.dav_rows.specs.declared.note.NoteRow.{NoteRow}
use Rattle.dav_rows.specs.Stored.{shown}
use Rattle.dav_rows.specs.Contents.{flag, resource_cells, ResourceValues, extent_cells, property_cells, lock_cells, state_cells, note_cells}
use Rattle.dav_rows.specs.Changes.{resource_entry, extent_entry, property_entry, lock_entry, state_entry, note_entry}
use Rattle.dav_rows.specs.Loading.{Reads, ReadsText, flag_in, resource_in, extent_in, property_in, lock_in, state_in, note_in}
use Rattle.dav_rows.proofs.LoadingLemmas.{all_read}
use Rattle.dav_rows.proofs.ResourceTexts as resource
use Rattle.dav_rows.proofs.ExtentTexts as extent
use Rattle.dav_rows.proofs.PropertyTexts as property
use Rattle.dav_rows.proofs.LockTexts as lock
use Rattle.dav_rows.proofs.StateTexts as state
use Rattle.dav_rows.proofs.NoteTexts as note

flag_back : (b : Bool) → flag_in (Int (flag b)) ≡ b
flag_back true = refl
flag_back false = refl

resource_back : (e : ℤ × ResourceValues) → resource_in (shown resource_cells e) ≡ e
resource_back e = ap (λ b. (e.0, record e.1 { directory = b })) (flag_back e.1.directory)

pub resources_read : (old new : State) (r : Result (Vec ResourceRow Global) Error) → ReadsText resource_entry resource_in resource.select_text old new r → Reads old new r (λ all m. map resource_entry all.items ≡ entries m.resources)
resources_read = all_read resource_cells resource_entry resource_in resource_back (λ m. m.resources) 0 resource.select_text resource.suits.seen resource.selects (λ db m holds. holds.resources)

pub extents_read : (old new : State) (r : Result (Vec ExtentRow Global) Error) → ReadsText extent_entry extent_in extent.select_text old new r → Reads old new r (λ all m. map extent_entry all.items ≡ entries m.extents)
extents_read = all_read extent_cells extent_entry extent_in (λ e. refl) (λ m. m.extents) 1 extent.select_text extent.suits.seen extent.selects (λ db m holds. holds.extents)

pub properties_read : (old new : State) (r : Result (Vec PropertyRow Global) Error) → ReadsText property_entry property_in property.select_text old new r → Reads old new r (λ all m. map property_entry all.items ≡ entries m.properties)
properties_read = all_read property_cells property_entry property_in (λ e. refl) (λ m. m.properties) 2 property.select_text property.suits.seen property.selects (λ db m holds. holds.properties)

pub locks_read : (old new : State) (r : Result (Vec LockRow Global) Error) → ReadsText lock_entry lock_in lock.select_text old new r → Reads old new r (λ all m. map lock_entry all.items ≡ entries m.locks)
locks_read = all_read lock_cells lock_entry lock_in (λ e. refl) (λ m. m.locks) 3 lock.select_text lock.suits.seen lock.selects (λ db m holds. holds.locks)

pub states_read : (old new : State) (r : Result (Vec StateRow Global) Error) → ReadsText state_entry state_in state.select_text old new r → Reads old new r (λ all m. map state_entry all.items ≡ entries m.states)
states_read = all_read state_cells state_entry state_in (λ e. refl) (λ m. m.states) 4 state.select_text state.suits.seen state.selects (λ db m holds. holds.states)

pub notes_read : (old new : State) (r : Result (Vec NoteRow Global) Error) → ReadsText note_entry note_in note.select_text old new r → Reads old new r (λ all m. map note_entry all.items ≡ entries m.notes)
notes_read = all_read note_cells note_entry note_in (λ e. refl) (λ m. m.notes) 5 note.select_text note.suits.seen note.selects (λ db m holds. holds.notes)
