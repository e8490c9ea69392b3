use Rattle.std.specs.Rc.{rc_str_bytes}
use Rattle.dav_key.proofs.FlatLemmas.{IsCharBoundary-above, take-above}
use Rattle.dav_key.proofs.flat_key.FlatKey.parent_str.Goals as goal

pub split_at-requires : goal.split_at-requires
split_at-requires c =
    rw (c.as_str.ensures.value, c.self.invariant.above) (IsCharBoundary-above (rc_str_bytes c.self.inside.text) c.self.invariant.text)

pub returns-clause-text : goal.returns-clause-text
returns-clause-text c =
    rw (c.split_at.ensures.front, c.as_str.ensures.value, c.self.invariant.above, ← c.self.view_is) (take-above (rc_str_bytes c.self.inside.text) c.self.invariant.text)
