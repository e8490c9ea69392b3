use Rattle.dav_seal.proofs.LawLemmas.{resources_told, extents_told, properties_told, locks_told, states_told}
use Rattle.dav_seal.proofs.laws.show_bytes.Goals as goal

pub returns : goal.returns
returns c = record { resources = resources_told; extents = extents_told; properties = properties_told; locks = locks_told; states = states_told }
