use Rattle.std.proofs.Common.{refl}
use Rattle.dav_rows.specs.declared.change.Table.TheVariants.{Resource, Extent, Property, Lock, State}
use Rattle.dav_rows.specs.Contents.{resource_cells, extent_cells, property_cells, lock_cells, state_cells}
use Rattle.dav_seal.proofs.SealLemmas.{nothing_sealed}
use Rattle.dav_seal.proofs.Unsealed.{unsealed-nothing}
use Rattle.dav_seal.proofs.seals.Seals.new.Goals as goal

pub returns : goal.returns
returns c = record {
  under = refl;
  resources = nothing_sealed c.args.key Resource resource_cells c.new.result c.new.ensures;
  extents = nothing_sealed c.args.key Extent extent_cells c.new-2.result c.new-2.ensures;
  properties = nothing_sealed c.args.key Property property_cells c.new-3.result c.new-3.ensures;
  locks = nothing_sealed c.args.key Lock lock_cells c.new-4.result c.new-4.ensures;
  states = rw unsealed-nothing (nothing_sealed c.args.key State state_cells c.new-5.result c.new-5.ensures);
}
