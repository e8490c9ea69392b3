use Rattle.std.proofs.Common.{◌∙◌, sym, rules, tests, false}
use Rattle.std.proofs.lemmas.Iterator.{YieldsList-from_slice}
use Rattle.std.proofs.lemmas.Iterator.Search.{any_from_yields_List}
use Rattle.std.specs.Option.{option_map_or}
use Rattle.dav_headers.specs.declared.if_header.IfCondition.{IfCondition}
use Rattle.dav_messages.specs.Conditions.{token_of}
use Rattle.dav_server.specs.Owners.{is_of_another}
use Rattle.dav_server.proofs.AnyLemmas.{list_any-filter_map}
use Rattle.dav_server.proofs.owners.submits_anothers.Goals as goal

pub returns : goal.returns
returns g c =
    let another = is_of_another (g.L.DavLockSystem.seen c.args.locks.now).list c.args.request.now.principal in
    let token = λ (condition : IfCondition). token_of condition.item in
    let conditions = c.args.list.now.conditions in
    any_from_yields_List (λ condition. option_map_or another (token condition) false) _ _ c.any.result c.any.ensures.ran (YieldsList-from_slice conditions cc) (λ x b q k. search (rules, tests))
    ∙ sym (list_any-filter_map another token conditions)
