-- The laws of a request, by its method: what a caller can say of it without the definition of the method.
use Rattle.std.specs.Prelude.{◌≡◌, true, false, List, Option, Some, Err}
use Rattle.dav_resource.specs.declared.error.DavError.{DavError}
use Rattle.dav_resource.specs.declared.method.DavMethod.{DavMethod}
use Rattle.dav_resource.specs.declared.method.DavMethod.TheVariants.{Put, Patch, PropFind, PropPatch, MkCol, Copy, Move, Delete, Lock, Unlock}
use Rattle.dav_resource.specs.declared.request.DavRequest.{DavRequest}
use Rattle.dav_store.specs.Logged.{Logged}
use Rattle.dav_messages.specs.Reply.{Answer}
use Rattle.dav_engine.specs.Bounds.{IsBounded}
use Rattle.dav_engine.specs.Causes.{HasCause}
use Rattle.dav_engine.specs.Laws.{ChangesNothing, MkcolLaw, PutLaw, DeleteLaw, CopyLaw, MoveLaw, LockLaw, UnlockLaw, ProppatchLaw, PropfindLaw}
use Rattle.dav_engine.specs.Settings.{Settings}
use Rattle.dav_engine.specs.State.{State}

-- the law of the method; OPTIONS and a method that is not served change nothing
abbrev pub MethodLaw : Option DavMethod → Settings → DavRequest → State → List Logged → Answer → State → Type 0
MethodLaw (Some MkCol) settings request old records answer new = MkcolLaw request old answer new
MethodLaw (Some Put) settings request old records answer new = PutLaw settings.facts.bodies false request old answer new
MethodLaw (Some Patch) settings request old records answer new = PutLaw settings.facts.bodies true request old answer new
MethodLaw (Some Delete) settings request old records answer new = DeleteLaw settings request old records answer new
MethodLaw (Some Copy) settings request old records answer new = CopyLaw settings request old records answer new
MethodLaw (Some Move) settings request old records answer new = MoveLaw settings request old records answer new
MethodLaw (Some Lock) settings request old records answer new = LockLaw settings request old answer new
MethodLaw (Some Unlock) settings request old records answer new = UnlockLaw request old answer new
MethodLaw (Some PropPatch) settings request old records answer new = ProppatchLaw settings request old records answer new
MethodLaw (Some PropFind) settings request old records answer new = PropfindLaw settings request old records answer new
MethodLaw _ settings request old records answer new = ChangesNothing old new

-- the laws of the request: what it changes at most (`IsBounded`), why it failed if it did (`HasCause`), and the law of its own method (`MethodLaw`)
pub record Law (method : Option DavMethod) (settings : Settings) (request : DavRequest) (old : State) (records : List Logged) (answer : Answer)
    (new : State) : Type 0 where
  pub bounded : IsBounded method settings request old records new
  pub cause : (e : DavError) → answer ≡ Err e → HasCause method request old records e new
  pub own : MethodLaw method settings request old records answer new
