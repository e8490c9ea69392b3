use Rattle.dav_engine.proofs.Making.{works_declined}
use Rattle.dav_engine.proofs.inner.DavInner.make_collection.Goals as goal

pub returns-in-Err-clause-work : goal.returns-in-Err-clause-work
returns-in-Err-clause-work g c = rw c.mkcol_error.ensures (works_declined c.args.request.now c.in-Err.error _ _ c.in-Err.ensures.declined)
