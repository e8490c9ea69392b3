use Rattle.std.proofs.Common.{◌∙◌, sym, subst}
use Rattle.std.specs.List.{IsDistinct}
use Rattle.std.specs.Prelude.{bytes_eq}
use Rattle.dav_store.specs.LockCalls.{HasDistinctTokens}
use Rattle.dav_store.specs.Locks.{AreCompatible}
use Rattle.dav_store_rows.proofs.Decoding.{stops-err}
use Rattle.dav_keep.proofs.Granting.{kept_tokens, kept_compatible}
use Rattle.dav_keep.proofs.loading.locks_of.Goals as goal

pub returns-in_err-load_locks-clause-err : goal.returns-in_err-load_locks-clause-err
returns-in_err-load_locks-clause-err c = λ locks are distinct compatible.
    stops-err c.from_residual.result c.in_err-load_locks.field-0.0 c.from_residual.ensures.1 (c.in_err-load_locks.ensures.err locks are)

pub returns-in_err-add_all-clause-err : goal.returns-in_err-add_all-clause-err
returns-in_err-add_all-clause-err c = λ locks are distinct compatible.
    let kept = c.in_ok-load_locks.ensures.ok locks are in
    stops-err c.from_residual-in_err-add_all.result c.in_err-add_all.field-0.0 c.from_residual-in_err-add_all.ensures.1
    (c.in_err-add_all.ensures.err
    (subst HasDistinctTokens (sym kept) (subst (IsDistinct bytes_eq) (sym (kept_tokens locks)) distinct))
    (subst AreCompatible (sym kept) (kept_compatible locks ∙ compatible)))
