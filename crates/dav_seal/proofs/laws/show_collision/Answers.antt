use Rattle.dav_seal.proofs.LawLemmas.{seals_determine, sums_determine_one, sums_determine_missing}
use Rattle.dav_seal.proofs.laws.show_collision.Goals as goal

pub returns : goal.returns
returns c = record {
  seals = seals_determine;
  one_row = sums_determine_one;
  missing = sums_determine_missing;
  whole = λ key m seals are. record {
    resources = are.resources.whole;
    extents = are.extents.whole;
    properties = are.properties.whole;
    locks = are.locks.whole;
    states = are.states.whole;
  };
}
