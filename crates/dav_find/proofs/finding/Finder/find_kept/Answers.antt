use Rattle.std.proofs.Common.{◌≡◌, ◌∙◌, Some, ap, sym}
use Rattle.std.specs.Option.{option_copied}
use Rattle.dav_store.specs.PropertyCalls.{IsPropertyAt, get_prop_call}
use Rattle.dav_find.specs.Finder.{view_of}
use Rattle.dav_find.specs.Finding.{looked_up, name_in}
use Rattle.dav_find.proofs.Answering.{judges_answer}
use Rattle.dav_find.proofs.AskedFields.{is_asked}
use Rattle.dav_find.proofs.finding.Finder.find_kept.Goals as goal

pub returns-clause-rules : goal.returns-clause-rules
returns-clause-rules g c =
    let store = g.F.GuardedFileSystem.seen c.args.fs.now in
    let key = c.args.here.now.path.key in
    let element = c.args.asked.now.element in
    let view = view_of g.L.DavLockSystem.seen c.args.self.now store.facts in
    let found : looked_up view element ≡ Some c.in-Some.name.now = sym (c.looked_up.ensures store.facts (sym c.have_props.ensures)) ∙ ap option_copied c.in-Some.is in
    let asked = is_asked view element c.in-Some.name.now found in
    rw asked.0
    (judges_answer (get_prop_call store.contents key (name_in element)) (IsPropertyAt key (name_in element)) _ _ _ _ _ (λ a effect. (effect.answer, effect.same)) (rw asked.1 at c.get_prop-answer.ensures) c.returned_by.ensures.returned)
