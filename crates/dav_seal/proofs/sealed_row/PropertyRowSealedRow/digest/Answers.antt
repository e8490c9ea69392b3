use Rattle.std.proofs.Common.{rules}
use Rattle.dav_seal.specs.Digests.{entry_digest}
use Rattle.dav_seal.proofs.sealed_row.PropertyRowSealedRow.digest.Goals as goal

pub returns-clause-digest : goal.returns-clause-digest
unfolding entry_digest
returns-clause-digest c = search rules
