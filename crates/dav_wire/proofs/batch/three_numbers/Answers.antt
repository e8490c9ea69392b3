use Rattle.dav_wire.proofs.HeaderLemmas.{three_parsed}
use Rattle.dav_wire.proofs.batch.three_numbers.Goals as goal

pub returns : goal.returns
returns c =
    rw (c.read_u64-first.ensures, c.read_u64-second.ensures, c.read_u64-third.ensures)
    (three_parsed c.args.bytes.now c.told-bytes c.fits-bytes)
