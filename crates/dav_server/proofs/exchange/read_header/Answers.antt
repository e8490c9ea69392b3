use Rattle.dav_server.proofs.Streams.{header_read}
use Rattle.dav_server.proofs.exchange.read_header.Goals as goal

pub returns-clause-read : goal.returns-clause-read
returns-clause-read g c =
    header_read _ _ _ c.in-Some.first c.read_exact.new.buf c.from_bytes.result (rw c.in-Some.is at c.in_ok-first.ensures.read)
    c.in_ok-read_exact.ensures.bytes c.from_bytes.ensures
