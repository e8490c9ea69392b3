use Rattle.std.proofs.Common.{refl}
use Rattle.dav_headers.proofs.TextLemmas.{visible}
use Rattle.dav_headers.proofs.values.readable_text.Goals as goal

pub returns-in-Ok : goal.returns-in-Ok
returns-in-Ok c =
    rw (c.trim_blanks.ensures, visible c.args.value.now.bytes (c.in-Ok.ensures.succeeds.0 refl), c.in-Ok.ensures.ok) refl
