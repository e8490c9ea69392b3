use Rattle.std.proofs.Common.{◌≡◌}
use Rattle.http_header.specs.Token.{lowercase}
use Rattle.http_header.specs.HeaderMap.{pairs}
use Rattle.dav_headers.proofs.FirstLemmas.{first_of-pairs}
use Rattle.dav_headers.proofs.values.first_value.Goals as goal

pub loop-own-init : goal.loop-own-init
loop-own-init c =
    let all : c.into_iter-own-iterator.result ≡ pairs c.args.headers.now = cc in
    (rw all (first_of-pairs (lowercase c.args.name.now) c.args.headers.now c.keys_len.ensures.valid), tt, tt)
