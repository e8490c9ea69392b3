use Rattle.dav_headers.specs.ValueLaws.{cut_at_split}
use Rattle.dav_headers.proofs.text.cut_at.Goals as goal

pub returns : goal.returns
returns c = cut_at_split c.args.end c.args.text.now c.split_once.result (c.split_once.ensures.byte c.requires (λ _ _ f. f))
