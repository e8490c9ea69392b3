-- An OPTIONS changes nothing.
use Rattle.std.proofs.Common.{◌≡◌, List, ap}
use Rattle.dav_resource.specs.declared.request.DavRequest.{DavRequest}
use Rattle.dav_store.specs.Logged.{Logged}
use Rattle.dav_messages.specs.Reply.{Answer}
use Rattle.dav_engine.specs.Laws.{ChangesNothing}
use Rattle.dav_engine.specs.Method.{StepBy, Refused, Done, CutShort, CutInWork}
use Rattle.dav_engine.specs.Methods.{options_method}
use Rattle.dav_engine.specs.Settings.{Settings}
use Rattle.dav_engine.specs.State.{State, IsLawfulState}

pub same_state : (old new : State) → new ≡ old → ChangesNothing old new
same_state old new same = record { contents = ap (λ (s : State). s.contents) same; locks = ap (λ (s : State). s.locks) same }

pub options_law : {settings : Settings} {request : DavRequest} {old new : State} {records : List Logged} {answer : Answer} → IsLawfulState old → StepBy options_method settings request old records answer new → ChangesNothing old new
options_law {settings} {request} {old} {new} {records} {answer} lawful (Refused h) = same_state old new h.same
options_law {settings} {request} {old} {new} {records} {answer} lawful (Done h) = same_state old new h.work.same
options_law {settings} {request} {old} {new} {records} {answer} lawful (CutShort h) = same_state old new h.same
options_law {settings} {request} {old} {new} {records} {answer} lawful (CutInWork h) = same_state old new h.work.same
