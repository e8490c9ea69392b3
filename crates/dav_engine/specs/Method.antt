-- What a method consists of, and when a request is served as this method.
use Rattle.std.specs.Prelude.{◌≡◌, List, ◌++◌, Err}
use Rattle.dav_resource.specs.declared.error.DavError.TheVariants.{Memory}
use Rattle.dav_resource.specs.declared.request.DavRequest.{DavRequest}
use Rattle.dav_store.specs.Logged.{Logged}
use Rattle.dav_store.specs.Store.{Contents}
use Rattle.dav_messages.specs.Reply.{Answer}
use Rattle.dav_messages.specs.Dialogue.{Dialogue, Refuses, Passed, LeadsTo}
use Rattle.dav_engine.specs.Settings.{Settings}
use Rattle.dav_engine.specs.State.{State, LocksStay}

-- A method: its rules, which pass on what they found (`Found`), its work on that, and `Cut`, which says what the work may leave when memory runs out
-- in it.
pub record Method : Type 1 where
  pub Found : Type 0
  pub rules : Settings → DavRequest → State → Dialogue Found
  pub Work : Settings → DavRequest → Found → State → List Logged → Answer → State → Type 0
  pub Cut : Settings → DavRequest → Found → State → List Logged → State → Type 0

-- a request served as this method, from the state `old` to `new`: `records` are the records of its calls in the log, `answer` is the result
module _ (method : Method) (settings : Settings) (request : DavRequest) (old : State) (records : List Logged) (answer : Answer) (new : State) where
  -- a rule rejects the request with this result: the records are the calls of the rules up to that, and nothing changes
  pub record IsRefused : Type 0 where
    pub head : LeadsTo (method.rules settings request old) records (Refuses answer)
    pub same : new ≡ old

  -- all rules pass over the first records (`head`), and the work is done over the others (`rest`)
  pub record IsDone : Type 0 where
    pub head : List Logged
    pub rest : List Logged
    pub cut : records ≡ head ++ rest
    pub found : method.Found
    pub passed : LeadsTo (method.rules settings request old) head (Passed found)
    pub work : method.Work settings request found old rest answer new

  -- memory ran out in the rules: the records are the first of their calls, the result is `Memory`, and nothing changes
  pub record IsCutShort : Type 0 where
    pub left : Dialogue method.Found
    pub head : LeadsTo (method.rules settings request old) records left
    pub answered : answer ≡ Err Memory
    pub same : new ≡ old

  -- all rules pass over the first records (`head`), memory ran out in the work over the others (`rest`), and the result is `Memory`
  pub record IsCutInWork : Type 0 where
    pub head : List Logged
    pub rest : List Logged
    pub cut : records ≡ head ++ rest
    pub found : method.Found
    pub passed : LeadsTo (method.rules settings request old) head (Passed found)
    pub answered : answer ≡ Err Memory
    pub work : method.Cut settings request found old rest new

  -- one of these four: a rule rejected the request, the work was done, or memory ran out, in the rules or in the work
  pub data StepBy : Type 0 where
    Refused : IsRefused → StepBy
    Done : IsDone → StepBy
    CutShort : IsCutShort → StepBy
    CutInWork : IsCutInWork → StepBy

-- ---- work that uses only the store: the locks are unchanged

abbrev pub OnStore : (Contents → List Logged → Answer → Contents → Type 0) → State → List Logged → Answer → State → Type 0
OnStore Work old records answer new = Work old.contents records answer new.contents × LocksStay old new

abbrev pub CutOnStore : (Contents → List Logged → Contents → Type 0) → State → List Logged → State → Type 0
CutOnStore Cut old records new = Cut old.contents records new.contents × LocksStay old new
