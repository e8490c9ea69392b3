use Rattle.std.proofs.Common.{◌≢◌, [], map, subst, sym, rules, All}
use Rattle.std.proofs.lemmas.Result.{err_from_is_err_and}
use Rattle.dav_store.specs.PropertyCalls.{IsWhole}
use Rattle.dav_props.specs.Update.{change_of}
use Rattle.dav_engine.proofs.Patching.{all_whole, unmade}
use Rattle.dav_engine.proofs.inner.DavInner.make_changes.Goals as goal

pub patch_props-requires-clause-whole : goal.patch_props-requires-clause-whole
patch_props-requires-clause-whole g c = subst (All IsWhole) (sym c.as_slice.ensures.value) (subst (All IsWhole) (sym c.in_ok-patches.ensures) (all_whole (map change_of c.args.changes.now)))

pub returns-in_err-statuses-clause-stored : goal.returns-in_err-statuses-clause-stored
returns-in_err-statuses-clause-stored g c =
    let p = err_from_is_err_and c.from_residual-in_err-statuses.result c.from_residual-in_err-statuses.ensures.1 in
    let some : c.in_ok-patches.patches.items ≢ [] = search rules in
    rw (p.1, p.2) (unmade c.args.path.now.key _ _ _ _ (rw c.in_ok-patches.ensures at some) c.in_err-statuses.ensures.declined)
