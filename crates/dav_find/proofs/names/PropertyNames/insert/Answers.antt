use Rattle.std.proofs.Common.{ap, not, ◌∙◌}
use Rattle.dav_find.proofs.NameSets.{is_among_them, one_more}
use Rattle.dav_find.proofs.names.PropertyNames.insert.Goals as goal

pub returns-clause-added : goal.returns-clause-added
returns-clause-added c elements are =
    c.in_ok-insert.ensures.added ∙ ap not (are c.of.result ∙ is_among_them c.of.result c.args.element.now c.of.ensures.namespace c.of.ensures.name elements)

pub returns-clause-names : goal.returns-clause-names
returns-clause-names c elements are =
    one_more c.args.self.now.names c.insert.new.self elements c.of.result c.args.element.now c.of.ensures.namespace c.of.ensures.name are c.in_ok-insert.ensures.updates
