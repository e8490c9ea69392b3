use Rattle.std.proofs.Common.{◌∙◌, ◌&&◌, rules, tests}
use Rattle.std.proofs.lemmas.Iterator.{YieldsList-from_slice}
use Rattle.std.proofs.lemmas.Iterator.Search.{any_from_yields_List}
use Rattle.std.specs.List.{filter, list_any}
use Rattle.dav_store.specs.Locks.{covers, has_token}
use Rattle.dav_memls.specs.IndexedLocks.{locks_in}
use Rattle.dav_memls.specs.Submitted.{is_from}
use Rattle.dav_memls.proofs.TokenLocks.{one_submitted}
use Rattle.dav_memls.proofs.memory_locks.list.one_is_submitted.Goals as goal

pub returns : goal.returns
returns c =
    let ls = locks_in c.args.locks.now in
    let key = c.args.path.now.key in
    let from = is_from c.args.submitted.now in
    let tokens = c.args.submitted.now.tokens.now in
    any_from_yields_List (λ t. list_any (λ l. covers l key && from l) (filter (has_token t) ls)) _ _ c.any.result c.any.ensures.ran (YieldsList-from_slice tokens cc) (λ x b q k. search (rules, tests))
    ∙ one_submitted from tokens key ls
