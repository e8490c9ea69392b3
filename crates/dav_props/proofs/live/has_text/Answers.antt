use Rattle.std.proofs.Common.{rules, ◌∙◌}
use Rattle.std.proofs.lemmas.Iterator.{YieldsList-from_slice}
use Rattle.std.proofs.lemmas.Iterator.Search.{any_from_yields_List}
use Rattle.dav_props.specs.Live.{node_is_text}
use Rattle.dav_props.proofs.Texts.{any-text}
use Rattle.dav_props.proofs.live.has_text.Goals as goal

pub returns : goal.returns
returns c = any_from_yields_List node_is_text _ _ _ c.any.ensures.ran (YieldsList-from_slice c.args.nodes.now cc) (λ x b q. search rules) ∙ any-text c.args.nodes.now
