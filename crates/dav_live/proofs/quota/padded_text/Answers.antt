use Rattle.std.proofs.Common.{◌∙◌}
use Rattle.std.specs.Fmt.{decimal}
use Rattle.dav_live.proofs.Padding.{zeros_before}
use Rattle.dav_live.proofs.quota.padded_text.Goals as goal

pub returns : goal.returns
returns c = c.from_string.ensures ∙ (rw c.laid_out.ensures at c.in_ok-format.ensures.ok) ∙ zeros_before 14 (decimal c.args.number)
