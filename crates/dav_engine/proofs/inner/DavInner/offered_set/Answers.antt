use Rattle.std.proofs.Common.{◌∙◌, ◌||◌, not}
use Rattle.std.specs.Prelude.{is_some}
use Rattle.dav_resource.specs.Methods.{method_of}
use Rattle.dav_engine.specs.DavInner.{lent_locks}
use Rattle.dav_engine.specs.Options.{is_own, is_let, needs_locks}
use Rattle.dav_engine.proofs.AllowList.{and_first}
use Rattle.dav_engine.proofs.inner.DavInner.offered_set.Goals as goal

pub returns : goal.returns
returns g c = λ method.
    c.without_own.ensures method
    ∙ rw (c.let_set.ensures method, c.from_method.ensures)
    (and_first (not (is_own (method_of c.args.request.now.method) method)) (is_let c.args.self.now.allow method) (is_some (lent_locks c.args.self.now) || not (needs_locks method)))
