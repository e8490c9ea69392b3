-- The statements that users cite: an engine has served a request, or a list of requests.
use Rattle.std.specs.Prelude.{List, Option}
use Rattle.dav_resource.specs.declared.method.DavMethod.{DavMethod}
use Rattle.dav_resource.specs.declared.request.DavRequest.{DavRequest}
use Rattle.dav_store.specs.Store.{Store}
use Rattle.dav_store.specs.Locks.{Locks}
use Rattle.dav_messages.specs.Reply.{Answer}
use Rattle.dav_engine.specs.DavInner.{seen_by, settings_by}
use Rattle.dav_engine.specs.Settings.{plain_settings}
use Rattle.dav_engine.specs.State.{seen_with}
use Rattle.dav_engine.specs.Step.{Serves, Runs}
use Rattle.dav_engine.specs.declared.inner.DavInner.{DavInner}

module _ {C F L : Type 0} (see_store : F → Store) (see_locks : L → Locks) where
  -- the engine has served this request as this method, with this result (`Serves`)
  abbrev pub IsServed : Option DavMethod → DavInner C F L → DavRequest → Answer → DavInner C F L → Type 0
  IsServed method old request answer new = Serves method (settings_by see_store old) (seen_by see_store see_locks old) request answer (seen_by see_store see_locks new)

  -- the engine has served these requests in order, each as its own method, with these results (`Runs`)
  abbrev pub AreServed : DavInner C F L → List DavRequest → List Answer → DavInner C F L → Type 0
  AreServed old requests answers new = Runs (settings_by see_store old) (seen_by see_store see_locks old) requests answers (seen_by see_store see_locks new)

module _ {F L : Type 0} (see_store : F → Store) (see_locks : L → Locks) where
  -- an engine has served these requests over this store and this lock system, with no prefix and all methods enabled (`Runs`)
  abbrev pub AreServedOver : F × L → List DavRequest → List Answer → F × L → Type 0
  AreServedOver old requests answers new =
      Runs (plain_settings (see_store old.0).facts) (seen_with (see_store old.0) (see_locks old.1)) requests answers (seen_with (see_store new.0) (see_locks new.1))
