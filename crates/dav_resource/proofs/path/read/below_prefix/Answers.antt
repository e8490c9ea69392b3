use Rattle.std.proofs.Common.{◌∙◌, sym, subst}
use Rattle.dav_resource.proofs.KeyLemmas.{BelowPrefix, BelowPrefix-stripped, IsKey-stripped}
use Rattle.dav_resource.proofs.path.read.below_prefix.Goals as goal

pub returns : goal.returns
returns c =
    let slash = c.args.slash in
    let key = c.args.key.now in
    let prefix = c.args.prefix in
    let below = subst (BelowPrefix slash key prefix) (sym c.in_ok-key.ensures ∙ c.in-Some.is) (BelowPrefix-stripped slash key prefix) in
    below ∙ rw c.is_collection.ensures

pub invariant_of-result : goal.invariant_of-result
invariant_of-result c =
    let key = IsKey-stripped c.args.key.now c.args.prefix c.in-Some.key (sym c.in-Some.is ∙ c.in_ok-key.ensures) c.requires.key in
    record { prefix = c.requires.prefix; key = key; star = λ e. cc }
