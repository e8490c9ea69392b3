use Rattle.std.proofs.Common.{◌∙◌}
use Rattle.dav_find.proofs.NameSets.{is_among_them}
use Rattle.dav_find.proofs.names.PropertyNames.has.Goals as goal

pub returns : goal.returns
returns c elements are = c.contains.ensures ∙ are c.of.result ∙ is_among_them c.of.result c.args.element.now c.of.ensures.namespace c.of.ensures.name elements
