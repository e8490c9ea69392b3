use Rattle.std.proofs.Common.{◌≤◌, arith}
use Rattle.std.proofs.lemmas.Bool.{lt-ltb, le-ltb}
use Rattle.dav_wire.specs.Batches.{reply_header, reply_header_of, has_status, three_numbers}
use Rattle.dav_wire.proofs.HeaderLemmas.{whole_as, whole_passes, whole_fails}
use Rattle.dav_wire.proofs.batch.ReplyHeader.from_bytes.Goals as goal

pub returns-in-Ok : goal.returns-in-Ok
unfolding reply_header
returns-in-Ok c =
    let n = c.three_numbers-number.result in
    let found = whole_as reply_header_of (three_numbers.parse c.args.bytes.now) (n.0, (n.1, n.2)) c.three_numbers-number.ensures in
    rw c.in-Ok.ensures.1 (whole_passes has_status _ (record { number = n.0; status = n.1; count = n.2 }) found (lt-ltb n.1 65536 c.in-Ok.ensures.0))

pub returns-in-Err : goal.returns-in-Err
unfolding reply_header
returns-in-Err c =
    let n = c.three_numbers-number.result in
    let found = whole_as reply_header_of (three_numbers.parse c.args.bytes.now) (n.0, (n.1, n.2)) c.three_numbers-number.ensures in
    let large : 65536 ≤ n.1 = omega (arith, c.in-Err.ensures) in
    whole_fails has_status _ (record { number = n.0; status = n.1; count = n.2 }) found (le-ltb n.1 65536 large)
