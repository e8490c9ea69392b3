use Rattle.std.proofs.Common.{◌∙◌, Some, None, refl, sym}
use Rattle.dav_engine.proofs.Serving.{serves_none, serves_as, unserved, unserved_unknown}
use Rattle.dav_engine.proofs.inner.DavInner.serve.Goals as goal

pub returns-in_default-clause-step : goal.returns-in_default-clause-step
returns-in_default-clause-step g c = serves_as None _ _ _ c.args.request.now _ _ (sym c.in_default.is ∙ c.from_method.ensures) (serves_none None _ c.args.request.now _ (unserved_unknown _ c.args.request.now))

pub returns-in_default-method : goal.returns-in_default-method
returns-in_default-method g c =
    let method = c.in-Some.method in
    record {
      same_engine = refl;
      step =
          serves_as (Some method) _ _ _ c.args.request.now _ _ (sym c.in-Some.is ∙ c.from_method.ensures)
          (serves_none (Some method) _ c.args.request.now _ (unserved _ c.args.request.now method c.in_default-method.not-MkCol c.in_default-method.not-Put c.in_default-method.not-Patch c.in_default-method.not-Delete c.in_default-method.not-Copy c.in_default-method.not-Move c.in_default-method.not-Lock c.in_default-method.not-Unlock c.in_default-method.not-PropPatch c.in_default-method.not-Options c.in_default-method.not-PropFind));
    }
