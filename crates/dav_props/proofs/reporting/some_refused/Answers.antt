use Rattle.std.proofs.Common.{rules, ◌∙◌}
use Rattle.std.proofs.lemmas.Iterator.{YieldsList-from_slice}
use Rattle.std.proofs.lemmas.Iterator.Search.{any_from_yields_List}
use Rattle.dav_props.specs.Update.{change_of, is_refused}
use Rattle.dav_props.specs.declared.update.PropertyChange.{PropertyChange}
use Rattle.dav_props.proofs.ChangeLists.{any-map}
use Rattle.dav_props.proofs.reporting.some_refused.Goals as goal

pub returns : goal.returns
returns c =
    any_from_yields_List (λ (change : PropertyChange). is_refused (change_of change)) _ _ _ c.any.ensures.ran (YieldsList-from_slice c.args.changes.now cc) (λ x b q. search rules)
    ∙ any-map is_refused change_of c.args.changes.now
