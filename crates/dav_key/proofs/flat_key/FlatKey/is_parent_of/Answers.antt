use Rattle.std.proofs.Common.{◌∙◌}
use Rattle.dav_key.specs.Key.{parent}
use Rattle.dav_key.proofs.FlatLemmas.{IsFlatKey-parent, same_texts}
use Rattle.dav_key.proofs.flat_key.FlatKey.is_parent_of.Goals as goal

pub returns : goal.returns
returns c =
    same_texts c.eq.result c.as_bytes.result.now c.as_bytes-2.result.now (c.args.self.now) (parent c.args.other.now)
    c.as_str.ensures.key (IsFlatKey-parent c.args.other.now c.parent_str.ensures.key)
    (c.as_bytes.ensures.value ∙ c.as_str.ensures.text) (c.as_bytes-2.ensures.value ∙ c.parent_str.ensures.text) c.eq.ensures
