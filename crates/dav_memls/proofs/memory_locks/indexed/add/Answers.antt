use Rattle.std.proofs.Common.{◌∙◌, ap, subst, sym, refl, None, nat_cmp}
use Rattle.std.proofs.lemmas.Iterator.Consumers.{YieldsList-from_rest, YieldsList-end}
use Rattle.std.proofs.lemmas.Result.{MatchResult-at_ok}
use Rattle.std.specs.BTreeSet.{InsertsAll}
use Rattle.std.specs.Option.{option_copied}
use Rattle.dav_memls.specs.KeyEntries.{listed}
use Rattle.dav_memls.proofs.CoveringNumbers.{adds_all}
use Rattle.dav_memls.proofs.memory_locks.indexed.add.Goals as goal

pub returns-in_ok-extend : goal.returns-in_ok-extend
returns-in_ok-extend c =
    let (it, xs, becomes, extends, ends) = c.extend.ensures.ran in
    let drained = MatchResult-at_ok _ _ c.in_ok-extend.field-0 c.in_ok-extend.was ends in
    let given = (YieldsList-end (YieldsList-from_rest c.in-Some.numbers.now.set.keys (becomes ∙ c.iter.ensures)) xs drained.1.0 drained.1.1 None drained.0 refl drained.1.2).0 in
    adds_all c.args.found.now c.extend.new.self (listed (option_copied c.args.numbers))
    (subst (λ ys. InsertsAll nat_cmp c.args.found.now ys c.extend.new.self) (given ∙ sym (ap (λ o. listed (option_copied o)) c.in-Some.is)) extends)
