use Rattle.std.proofs.Common.{rules, option_copied}
use Rattle.std.proofs.lemmas.Iterator.{YieldsList-from_slice}
use Rattle.std.proofs.lemmas.Iterator.Search.{any_from_yields_List}
use Rattle.dav_messages.specs.Conditions.{is_tagged}
use Rattle.dav_messages.proofs.conditional.etaglist_match.Goals as goal

pub returns-in-Tags : goal.returns-in-Tags
returns-in-Tags c =
    let current = option_copied c.args.tag in
    let found = any_from_yields_List (λ tag. is_tagged tag current) _ _ _ c.any.ensures.ran (YieldsList-from_slice c.as_slice.result.now cc) (λ x b q. search rules) in
    rw (c.in-Tags.is, ← c.as_slice.ensures) found
