use Rattle.std.proofs.Common.{◌≡◌, Some, refl, arith}
use Rattle.std.proofs.lemmas.Grind.{common_steps}
use Rattle.dav_script.specs.Refusals.{cut_at_space, refusal_of, refusal_of_words}
use Rattle.dav_script.proofs.refuse.read_refusal.Goals as goal

pub returns : goal.returns
returns c =
    let first : cut_at_space c.args.text.now ≡ Some (c.in-Some.op.now, c.in-Some.rest.now) = grind (arith, common_steps) in
    let second : cut_at_space c.in-Some.rest.now ≡ Some (c.in-Some-split_once.path.now, c.in-Some-split_once.error.now) = grind (arith, common_steps) in
    let whole : refusal_of c.args.text.now ≡ refusal_of_words c.in-Some.op.now c.in-Some-split_once.path.now c.in-Some-split_once.error.now = rw (first, second) refl in
    rw whole c.read_words.ensures
