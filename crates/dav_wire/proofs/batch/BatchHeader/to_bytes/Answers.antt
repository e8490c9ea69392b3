use Rattle.dav_wire.specs.Batches.{batch_header}
use Rattle.dav_wire.proofs.batch.BatchHeader.to_bytes.Goals as goal

pub returns : goal.returns
unfolding batch_header
returns c = record { valid = c.from_three_numbers.ensures.valid; is = c.from_three_numbers.ensures.is }
