use Rattle.std.proofs.Common.{arith}
use Rattle.dav_headers.specs.ValueLaws.{cut_at_split}
use Rattle.dav_script.proofs.outline_line.cut_at_brace.Goals as goal

pub returns : goal.returns
returns c = cut_at_split 125 c.args.text.now c.split_once.result (c.split_once.ensures.byte (omega arith) (λ _ _ f. f))
