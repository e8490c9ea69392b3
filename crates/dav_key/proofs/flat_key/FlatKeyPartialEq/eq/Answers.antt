use Rattle.std.specs.Ordering.{eq_by_cmp}
use Rattle.std.proofs.lemmas.Bool.Decides.{same_from_decides}
use Rattle.dav_key.specs.Key.{key_cmp, tied_decides}
use Rattle.dav_key.proofs.flat_key.FlatKeyPartialEq.eq.Goals as goal

pub returns : goal.returns
returns c =
    let a = c.args.self.now in
    let b = c.args.other.now in
    same_from_decides c.same.result (eq_by_cmp key_cmp a b) (c.same.ensures.0, c.same.ensures.1) (tied_decides a b)
