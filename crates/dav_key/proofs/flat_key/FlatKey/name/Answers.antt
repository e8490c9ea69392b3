use Rattle.std.proofs.Common.{subst, arith}
use Rattle.std.specs.Rc.{rc_str_bytes}
use Rattle.std.proofs.lemmas.Str.Pattern.{strip_prefix_char}
use Rattle.dav_key.specs.Flat.{IsFlatKey}
use Rattle.dav_key.proofs.FlatLemmas.{IsCharBoundary-above, name_after_above, name_is_segment}
use Rattle.dav_key.proofs.flat_key.FlatKey.name.Goals as goal

pub split_at-requires : goal.split_at-requires
split_at-requires c =
    rw (c.as_str.ensures.value, c.self.invariant.above) (IsCharBoundary-above (rc_str_bytes c.self.inside.text) c.self.invariant.text)

pub returns-clause-last : goal.returns-clause-last
returns-clause-last c =
    let text = rc_str_bytes c.self.inside.text in
    let rest = c.split_at.result.1.now in
    let stripped = strip_prefix_char 0 rest c.strip_prefix.result c.strip_prefix.ensures.cases (omega arith) in
    rw (← c.self.view_is) (name_after_above text rest c.strip_prefix.result c.self.invariant.text (cc (c.split_at.ensures.back)) stripped)

pub returns-clause-segment : goal.returns-clause-segment
returns-clause-segment c =
    let plain = subst IsFlatKey c.self.view_is c.self.invariant.text.plain in
    name_is_segment c.args.self.now c.strip_prefix.result plain (returns-clause-last c)
