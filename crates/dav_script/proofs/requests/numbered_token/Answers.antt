use Rattle.std.proofs.Common.{refl}
use Rattle.dav_script.proofs.Tokens.{is_lock_token-numbered}
use Rattle.dav_script.proofs.requests.numbered_token.Goals as goal

pub unwrap-requires : goal.unwrap-requires
unwrap-requires c = rw (c.from_string.ensures, c.in_ok-text.ensures, is_lock_token-numbered c.args.number c.ranges.number.fits) refl
