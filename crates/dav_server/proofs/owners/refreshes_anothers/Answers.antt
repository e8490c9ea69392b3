use Rattle.std.proofs.Common.{◌≡◌, ◌∙◌, sym, ap, List, Some, rules, tests}
use Rattle.std.proofs.lemmas.Iterator.{YieldsList-from_slice}
use Rattle.std.proofs.lemmas.Iterator.Search.{any_from_yields_List}
use Rattle.std.specs.List.{list_any}
use Rattle.dav_headers.specs.IfHeader.{if_of}
use Rattle.dav_headers.specs.declared.if_header.IfList.{IfList}
use Rattle.dav_messages.specs.Conditions.{all_tokens, tokens_in}
use Rattle.dav_server.specs.Owners.{is_of_another}
use Rattle.dav_server.proofs.AnyLemmas.{list_any-flat_map}
use Rattle.dav_server.proofs.owners.refreshes_anothers.Goals as goal

pub returns-clause-ok : goal.returns-clause-ok
returns-clause-ok g c =
    let another = is_of_another (g.L.DavLockSystem.seen c.args.locks.now).list c.args.request.now.principal in
    let tokens = λ (list : IfList). tokens_in list.conditions in
    let lists : List IfList = c.in-Some.lists in
    let read : if_of c.args.request.now.headers ≡ Some lists = cc (c.in_ok-lists.ensures.value, c.in-Some.is) in
    any_from_yields_List (λ list. list_any another (tokens list)) _ _ c.any.result c.any.ensures.ran (YieldsList-from_slice lists cc) (λ x b q k. search (rules, tests))
    ∙ sym (list_any-flat_map another tokens lists)
    ∙ sym (ap (λ o. list_any another (all_tokens o)) read)
