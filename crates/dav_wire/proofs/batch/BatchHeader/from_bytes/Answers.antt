use Rattle.dav_wire.specs.Batches.{batch_header, batch_header_of, three_numbers}
use Rattle.dav_wire.proofs.HeaderLemmas.{whole_as}
use Rattle.dav_wire.proofs.batch.BatchHeader.from_bytes.Goals as goal

pub returns : goal.returns
unfolding batch_header
returns c = whole_as batch_header_of (three_numbers.parse c.args.bytes.now) _ c.three_numbers-number.ensures
