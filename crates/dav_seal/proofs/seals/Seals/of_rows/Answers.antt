use Rattle.std.proofs.Common.{refl, ap, map, ◌∙◌, ◌∷◌, []}
use Rattle.dav_rows.specs.declared.change.Table.TheVariants.{Resource, Extent, Property, Lock, State}
use Rattle.dav_rows.specs.Contents.{resource_cells, extent_cells, property_cells, lock_cells, state_cells}
use Rattle.dav_rows.specs.Changes.{resource_entry, extent_entry, property_entry, lock_entry, state_entry}
use Rattle.dav_seal.specs.SealRow.{unsealed}
use Rattle.dav_seal.proofs.SealLemmas.{rows_sealed}
use Rattle.dav_seal.proofs.HeldLemmas.{rising-from_sorted}
use Rattle.dav_seal.proofs.seals.Seals.of_rows.Goals as goal

pub returns : goal.returns
returns c m are only =
    let one = c.in_ok-put_row.ensures.digest [] (rising-from_sorted [] tt) c.new-states.ensures in
    record {
      under = refl;
      resources = rows_sealed c.args.key Resource resource_cells resource_entry c.as_slice.result.now m.resources c.in_ok-seal_of_rows.field-0 (ap (map resource_entry) c.as_slice.ensures.value ∙ are.resources) c.in_ok-seal_of_rows.ensures.digests c.in_ok-seal_of_rows.ensures.whole;
      extents = rows_sealed c.args.key Extent extent_cells extent_entry c.as_slice-2.result.now m.extents c.in_ok-seal_of_rows-2.field-0 (ap (map extent_entry) c.as_slice-2.ensures.value ∙ are.extents) c.in_ok-seal_of_rows-2.ensures.digests c.in_ok-seal_of_rows-2.ensures.whole;
      properties = rows_sealed c.args.key Property property_cells property_entry c.as_slice-3.result.now m.properties c.in_ok-seal_of_rows-3.field-0 (ap (map property_entry) c.as_slice-3.ensures.value ∙ are.properties) c.in_ok-seal_of_rows-3.ensures.digests c.in_ok-seal_of_rows-3.ensures.whole;
      locks = rows_sealed c.args.key Lock lock_cells lock_entry c.as_slice-4.result.now m.locks c.in_ok-seal_of_rows-4.field-0 (ap (map lock_entry) c.as_slice-4.ensures.value ∙ are.locks) c.in_ok-seal_of_rows-4.ensures.digests c.in_ok-seal_of_rows-4.ensures.whole;
      states = rows_sealed c.args.key State state_cells state_entry (c.args.state.now ∷ []) (unsealed m.states) c.put_row.new.seal only one (c.in_ok-put_row.ensures.whole, tt);
    }
