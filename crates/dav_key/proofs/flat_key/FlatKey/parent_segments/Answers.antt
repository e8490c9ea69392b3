use Rattle.dav_key.specs.Key.{parent}
use Rattle.dav_key.proofs.FlatLemmas.{IsFlatKey-parent, IsTextOf-flat}
use Rattle.dav_key.proofs.flat_key.FlatKey.parent_segments.Goals as goal

pub of-requires : goal.of-requires
of-requires c =
    (IsTextOf-flat c.parent_str.result.now (parent c.args.self.now) (IsFlatKey-parent c.args.self.now c.parent_str.ensures.key) c.parent_str.ensures.text).is_flat

pub returns : goal.returns
returns c =
    let e = (IsTextOf-flat c.parent_str.result.now (parent c.args.self.now) (IsFlatKey-parent c.args.self.now c.parent_str.ensures.key) c.parent_str.ensures.text).key_is in
    rw (← e) c.of.ensures.segments
