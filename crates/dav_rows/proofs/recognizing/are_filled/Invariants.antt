use Rattle.std.proofs.Common.{◌≡◌, map, take}
use Rattle.dav_rows.specs.Tables.{filled_by}
use Rattle.dav_rows.proofs.recognizing.are_filled.Given as goal

abbrev pub invariant-columns : goal.invariant-columns
invariant-columns l = take l.at l.columns ≡ map filled_by (take l.at l.wanted)
