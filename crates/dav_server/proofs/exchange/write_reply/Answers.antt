use Rattle.std.proofs.Common.{◌≡◌, ◌∙◌, ℕ, List, ◌++◌, ap, sym, length}
use Rattle.dav_wire.specs.Numbers.{number}
use Rattle.dav_server.proofs.Streams.{writes_after, text_is}
use Rattle.dav_server.proofs.exchange.write_reply.Goals as goal

pub returns : goal.returns
unfolding number
returns g c =
    let bytes = c.args.bytes.now in
    let count : c.to_be_bytes.result ≡ number.encode (length bytes) = c.to_be_bytes.ensures in
    writes_after _ _ _ _ c.to_be_bytes.result bytes _ c.in_ok-write_all.ensures.bytes c.write_all-2.ensures.bytes
    (text_is bytes ∙ ap (λ (bs : List ℕ). bs ++ bytes) (sym count))
