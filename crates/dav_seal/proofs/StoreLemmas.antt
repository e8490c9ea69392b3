-- The seals of all tables after a change.
use Rattle.std.proofs.Common.{◌≡◌, ℕ, ℤ, pos, Result, OnOk, Ok, Err, sym, ap, subst, ◌∙◌}
use Rattle.std.specs.FinMap.{insert}
use Rattle.sqlite_value.specs.Order.{Row}
use Rattle.dav_rows.specs.declared.change.Table.{Table}
use Rattle.dav_rows.specs.declared.change.Table.TheVariants.{Resource, Extent, Property, Lock, State}
use Rattle.dav_rows.specs.declared.resource.ResourceRow.{ResourceRow}
use Rattle.dav_rows.specs.declared.extent.ExtentRow.{ExtentRow}
use Rattle.dav_rows.specs.declared.property.PropertyRow.{PropertyRow}
use Rattle.dav_rows.specs.declared.lock.LockRow.{LockRow}
use Rattle.dav_rows.specs.declared.state.StateRow.{StateRow}
use Rattle.dav_rows.specs.Stored.{Numbered, shown}
use Rattle.dav_rows.specs.Contents.{Contents, resource_cells, extent_cells, property_cells, lock_cells, state_cells}
use Rattle.dav_rows.specs.Changes.{resource_entry, extent_entry, property_entry, lock_entry, state_entry, put_resource, put_extent, put_property, put_lock, put_state, removed}
use Rattle.dav_seal.specs.RowBytes.{AreCells}
use Rattle.dav_seal.specs.Digests.{entry_digest}
use Rattle.dav_seal.specs.declared.seals.Seals.{Seals}
use Rattle.dav_seal.specs.declared.table_seal.TableSeal.{TableSeal}
use Rattle.dav_seal.specs.Held.{Puts, Removes}
use Rattle.dav_seal.specs.Seals.{IsSealOf, AreSealsOf}
use Rattle.dav_seal.specs.SealRow.{unsealed}
use Rattle.dav_seal.proofs.SealLemmas.{put_sealed, remove_sealed}
use Rattle.dav_seal.proofs.Unsealed.{unsealed-insert, unsealed-seal, unsealed-remove}

-- what follows on success from two facts that hold on success
pub when_ok : {U E : Type 0} {A B C : Type 0} (r : Result U E) → OnOk r A → OnOk r B → (A → B → C) → OnOk r C
when_ok (Ok u) a b f = f a b
when_ok (Err e) a b f = tt

module _ {V : Type 0} (key : ℕ) (table : Table) (cells : V → Row) (m : Numbered V) (seal : TableSeal) (was : IsSealOf key table cells m seal) where
  put_under : (own : ℕ) (k : ℤ) (v : V) (after : TableSeal) → own ≡ key → Puts k (entry_digest own table cells (k, v)) seal after → AreCells (shown cells (k, v))
      → IsSealOf key table cells (insert m k v) after
  put_under own k v after under puts here =
      put_sealed key table cells m seal after k v was (subst (λ n. Puts k (entry_digest n table cells (k, v)) seal after) under puts) here

module _ (key : ℕ) (m : Contents) (s : Seals) (was : AreSealsOf key m s) where
  pub resource_put : (row : ResourceRow) (after : TableSeal) → Puts row.number (entry_digest s.key Resource resource_cells (resource_entry row)) s.resources after
      → AreCells (shown resource_cells (resource_entry row)) → AreSealsOf key (put_resource row m) (record s { resources = after })
  resource_put row after is here =
      record { under = was.under; resources = put_under key Resource resource_cells m.resources s.resources was.resources s.key row.number (resource_entry row).1 after was.under is here; extents = was.extents; properties = was.properties; locks = was.locks; states = was.states }

  pub resource_removed : (number : ℤ) (after : TableSeal) → Removes number s.resources after → AreSealsOf key (removed Resource number m) (record s { resources = after })
  resource_removed number after is =
      let now = remove_sealed key Resource resource_cells m.resources s.resources after number was.resources is in
      record { under = was.under; resources = now; extents = was.extents; properties = was.properties; locks = was.locks; states = was.states }

  pub extent_put : (row : ExtentRow) (after : TableSeal) → Puts row.number (entry_digest s.key Extent extent_cells (extent_entry row)) s.extents after
      → AreCells (shown extent_cells (extent_entry row)) → AreSealsOf key (put_extent row m) (record s { extents = after })
  extent_put row after is here =
      record { under = was.under; extents = put_under key Extent extent_cells m.extents s.extents was.extents s.key row.number (extent_entry row).1 after was.under is here; resources = was.resources; properties = was.properties; locks = was.locks; states = was.states }

  pub extent_removed : (number : ℤ) (after : TableSeal) → Removes number s.extents after → AreSealsOf key (removed Extent number m) (record s { extents = after })
  extent_removed number after is =
      let now = remove_sealed key Extent extent_cells m.extents s.extents after number was.extents is in
      record { under = was.under; extents = now; resources = was.resources; properties = was.properties; locks = was.locks; states = was.states }

  pub property_put : (row : PropertyRow) (after : TableSeal) → Puts row.number (entry_digest s.key Property property_cells (property_entry row)) s.properties after
      → AreCells (shown property_cells (property_entry row)) → AreSealsOf key (put_property row m) (record s { properties = after })
  property_put row after is here =
      record { under = was.under; properties = put_under key Property property_cells m.properties s.properties was.properties s.key row.number (property_entry row).1 after was.under is here; resources = was.resources; extents = was.extents; locks = was.locks; states = was.states }

  pub property_removed : (number : ℤ) (after : TableSeal) → Removes number s.properties after → AreSealsOf key (removed Property number m) (record s { properties = after })
  property_removed number after is =
      let now = remove_sealed key Property property_cells m.properties s.properties after number was.properties is in
      record { under = was.under; properties = now; resources = was.resources; extents = was.extents; locks = was.locks; states = was.states }

  pub lock_put : (row : LockRow) (after : TableSeal) → Puts row.number (entry_digest s.key Lock lock_cells (lock_entry row)) s.locks after
      → AreCells (shown lock_cells (lock_entry row)) → AreSealsOf key (put_lock row m) (record s { locks = after })
  lock_put row after is here =
      record { under = was.under; locks = put_under key Lock lock_cells m.locks s.locks was.locks s.key row.number (lock_entry row).1 after was.under is here; resources = was.resources; extents = was.extents; properties = was.properties; states = was.states }

  pub lock_removed : (number : ℤ) (after : TableSeal) → Removes number s.locks after → AreSealsOf key (removed Lock number m) (record s { locks = after })
  lock_removed number after is =
      let now = remove_sealed key Lock lock_cells m.locks s.locks after number was.locks is in
      record { under = was.under; locks = now; resources = was.resources; extents = was.extents; properties = was.properties; states = was.states }

  pub state_put : (row : StateRow) → (row.number ≡ pos 1 → ⊥) → (after : TableSeal) → Puts row.number (entry_digest s.key State state_cells (state_entry row)) s.states after
      → AreCells (shown state_cells (state_entry row)) → AreSealsOf key (put_state row m) (record s { states = after })
  state_put row apart after is here =
      let there = put_under key State state_cells (unsealed m.states) s.states was.states s.key row.number (state_entry row).1 after was.under is here in
      record {
        under = was.under;
        states = subst (λ n. IsSealOf key State state_cells n after) (sym (unsealed-insert m.states row.number (state_entry row).1 apart)) there;
        resources = was.resources;
        extents = was.extents;
        properties = was.properties;
        locks = was.locks;
      }

  -- the row of the seal is not sealed itself
  pub seal_put : (row : StateRow) → row.number ≡ pos 1 → AreSealsOf key (put_state row m) s
  seal_put row is =
      let same : unsealed (insert m.states row.number (state_entry row).1) ≡ unsealed m.states =
      ap (λ k. unsealed (insert m.states k (state_entry row).1)) is ∙ unsealed-seal m.states (state_entry row).1 in
      record {
        under = was.under;
        states = subst (λ n. IsSealOf key State state_cells n s.states) (sym same) was.states;
        resources = was.resources;
        extents = was.extents;
        properties = was.properties;
        locks = was.locks;
      }

  pub state_removed : (number : ℤ) (after : TableSeal) → Removes number s.states after → AreSealsOf key (removed State number m) (record s { states = after })
  state_removed number after is =
      let there = remove_sealed key State state_cells (unsealed m.states) s.states after number was.states is in
      record {
        under = was.under;
        states = subst (λ n. IsSealOf key State state_cells n after) (sym (unsealed-remove m.states number)) there;
        resources = was.resources;
        extents = was.extents;
        properties = was.properties;
        locks = was.locks;
      }
