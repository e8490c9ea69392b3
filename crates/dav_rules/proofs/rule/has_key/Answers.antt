use Rattle.std.proofs.Common.{◌∙◌, ap}
use Rattle.std.specs.Prelude.{is_some}
use Rattle.dav_rules.proofs.Lists.{some-mapped}
use Rattle.dav_rules.proofs.rule.has_key.Goals as goal

pub returns : goal.returns
returns c = c.is_some.ensures ∙ some-mapped _ c.member.result ∙ ap is_some c.member.ensures
