use Rattle.std.proofs.Common.{◌++◌, ◌∷◌, List, [], ap, sym, subst, true, false, ◌∙◌}
use Rattle.dav_resource.specs.Tree.{Tree}
use Rattle.dav_find.specs.Names.{AreNamesOf, elements_in}
use Rattle.dav_find.specs.Asked.{AskedProperty}
use Rattle.dav_find.proofs.NameSets.{as_before, asks, is_there, with_one_more}
use Rattle.dav_find.proofs.asked_list.AskedList.ask_once.Goals as goal
use Rattle.dav_find.proofs.asked_list.AskedList.ask_once.Goals.{then-branch+in_ok-clone+in_ok-new+in_ok-push, else-branch}

-- where the name is a new one the property is kept, and else the properties are as before
pub invariant_of-result : goal.invariant_of-result
invariant_of-result c =
    let asked = c.args.self.asked.items in
    let names = c.insert.new.self.names in
    let more : Tree → AskedProperty = λ element. record { element = element; by_server = c.args.by_server } in
    let reported = c.in_ok-insert.ensures.added (elements_in asked) c.args.self.named in
    let are = c.in_ok-insert.ensures.names (elements_in asked) c.args.self.named in
    elim c.if-branch.branch [
      | then-branch+in_ok-clone+in_ok-new+in_ok-push w ↦ record {
        named = subst (λ (items : List AskedProperty). AreNamesOf names (elements_in items))
            (sym (ap (λ v. v.items) w.asked-is ∙ w.in_ok-push.ensures.items ∙ ap (λ (a : AskedProperty). asked ++ a ∷ []) (w.in_ok-new.ensures ∙ ap more w.in_ok-clone.ensures)))
            (with_one_more names asked (more c.args.element.now) are);
      }
      | else-branch w ↦ record {
        named = subst (λ (items : List AskedProperty). AreNamesOf names (elements_in items)) (sym (ap (λ v. v.items) w.asked-is))
            (as_before names (elements_in asked) c.args.element.now (is_there _ _ reported w.if-branch.false) are);
      }
    ]

pub returns : goal.returns
returns c =
    let asked = c.args.self.asked.items in
    let more : Tree → AskedProperty = λ element. record { element = element; by_server = c.args.by_server } in
    let reported = c.in_ok-insert.ensures.added (elements_in asked) c.args.self.named in
    elim c.if-branch.branch [
      | then-branch+in_ok-clone+in_ok-new+in_ok-push w ↦
          ap (λ v. v.items) w.asked-is ∙ w.in_ok-push.ensures.items ∙ ap (λ (a : AskedProperty). asked ++ a ∷ []) (w.in_ok-new.ensures ∙ ap more w.in_ok-clone.ensures)
          ∙ sym (asks asked (more c.args.element.now) true (sym w.if-branch.true ∙ reported))
      | else-branch w ↦ ap (λ v. v.items) w.asked-is ∙ sym (asks asked (more c.args.element.now) false (sym w.if-branch.false ∙ reported))
    ]
