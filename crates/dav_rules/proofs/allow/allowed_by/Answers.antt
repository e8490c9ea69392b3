use Rattle.std.proofs.Common.{rules, codes}
use Rattle.dav_rules.proofs.Lists.{all-view, any-view}
use Rattle.dav_rules.specs.Rules.{is_right, is_text}
use Rattle.dav_rules.proofs.allow.allowed_by.Goals as goal

pub returns-then-not-are_rights : goal.returns-then-not-are_rights
returns-then-not-are_rights c = rw (← all-view is_right c.args.rights.now) (search rules)

pub returns : goal.returns
returns c =
    let values = c.args.rights.now in
    rw (← all-view is_right values, ← any-view (is_text (codes "list")) values, ← any-view (is_text (codes "read")) values, ← any-view (is_text (codes "write")) values) (search rules)
