use Rattle.std.proofs.Common.{sym, subst}
use Rattle.dav_store_rows.specs.Saves.{Fits}
use Rattle.dav_store_rows.proofs.Saved.{fits_none}
use Rattle.dav_store_rows.proofs.saving.SavedCounts.new.Goals as goal

pub returns-clause-fits : goal.returns-clause-fits
returns-clause-fits c = λ m no_resources no_extents no_properties.
    subst (λ counts. Fits counts m) (sym c.new.ensures.items) (fits_none m no_resources no_extents no_properties)
