use Rattle.dav_key.specs.FlatLaws.{flat_cmp}
use Rattle.dav_key.proofs.flat_key.FlatKeyOrd.cmp.Goals as goal

pub returns : goal.returns
returns c =
    rw (c.cmp.ensures, c.as_str.ensures.text, c.as_str-2.ensures.text) (flat_cmp c.args.self.now c.args.other.now c.as_str.ensures.key c.as_str-2.ensures.key)
