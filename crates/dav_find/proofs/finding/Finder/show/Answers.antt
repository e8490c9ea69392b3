use Rattle.std.proofs.Common.{◌∙◌, ◌∷◌, [], sym, ap}
use Rattle.dav_messages.specs.DavElement.{with_elements}
use Rattle.dav_props.specs.Propstat.{grouped, property_response}
use Rattle.dav_find.proofs.Visits.{shown_none, shown_one}
use Rattle.dav_find.proofs.finding.Finder.show.Goals as goal

pub returns-then-not-is_shown-clause-ok : goal.returns-then-not-is_shown-clause-ok
returns-then-not-is_shown-clause-ok g c = shown_none _ _ c.args.depth c.args.here.now c.args.quota _ c.args.writer (sym c.if-not-is_shown.ensures)

pub returns-clause-ok : goal.returns-clause-ok
returns-clause-ok g c =
    let groups = c.in_ok-groups.ensures.groups ∙ ap grouped c.into_vec.ensures in
    shown_one _ _ c.args.depth c.args.here.now c.args.quota c.args.writer.tree _ _ _ (c.in_ok-reported.reported, c.in_ok-reported.quota) (sym c.if-not-is_shown.ensures) c.in_ok-reported.ensures.response
    (c.in_ok-write_propresponse.ensures.written ∙ ap (λ gs. with_elements c.args.writer.tree (property_response c.args.self.now.profile c.args.here.now.path gs ∷ [])) groups)
