use Rattle.dav_key.specs.FlatLaws.{flat_below}
use Rattle.dav_key.proofs.flat_key.FlatKey.is_at_or_below.Goals as goal

pub returns : goal.returns
returns c =
    rw (c.is_at_or_below.ensures, c.as_str.ensures.text, c.as_str-2.ensures.text) (flat_below c.args.self.now c.args.other.now c.as_str.ensures.key c.as_str-2.ensures.key)
