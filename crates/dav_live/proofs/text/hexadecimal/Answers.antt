use Rattle.std.proofs.Common.{◌∙◌, false}
use Rattle.std.specs.Fmt.{digits}
use Rattle.dav_live.proofs.Padding.{zeros_before}
use Rattle.dav_live.proofs.text.hexadecimal.Goals as goal

pub returns : goal.returns
returns c = c.from_string.ensures ∙ (rw (c.in_radix.ensures, c.laid_out.ensures) at c.in_ok-format.ensures.ok) ∙ zeros_before 8 (digits 16 false c.args.number)
