-- Why a request ends with an error.
use Rattle.std.specs.Prelude.{◌≡◌, ◌⊎◌, false, List, [], ◌∷◌, ◌++◌, Option, Some, None}
use Rattle.dav_resource.specs.Errors.{from_fs}
use Rattle.dav_resource.specs.declared.error.DavError.{DavError}
use Rattle.dav_resource.specs.declared.error.DavError.TheVariants.{Memory, Status, StatusClose}
use Rattle.dav_resource.specs.declared.error.FsError.{FsError}
use Rattle.dav_resource.specs.declared.method.DavMethod.{DavMethod}
use Rattle.dav_resource.specs.declared.method.DavMethod.TheVariants.{Put, Patch, PropPatch, MkCol, Lock}
use Rattle.dav_resource.specs.declared.record.Op.{Op}
use Rattle.dav_resource.specs.declared.record.Op.TheVariants as ops
use Rattle.dav_resource.specs.declared.record.Outcome.{Outcome}
use Rattle.dav_resource.specs.declared.record.Outcome.TheVariants.{Granted}
use Rattle.dav_resource.specs.declared.request.DavRequest.{DavRequest}
use Rattle.dav_store.specs.Calls.{error_of}
use Rattle.dav_store.specs.Logged.{Logged, logged}
use Rattle.dav_store.specs.Members.{IsIn}
use Rattle.dav_messages.specs.Dialogue.{WasGranted}
use Rattle.dav_engine.specs.Mkcol.{mkcol_error}
use Rattle.dav_engine.specs.Opening.{making_options, open_error}
use Rattle.dav_engine.specs.Put.{put_seek_error}
use Rattle.dav_engine.specs.State.{State, LocksStay}

-- the error by which a PUT or PATCH answers a call that fails
abbrev pub write_error : DavRequest → Op → FsError → Option DavError
write_error request ops.OpenFile e = Some (open_error StatusClose (making_options request) e)
write_error request ops.Seek e = Some (put_seek_error e)
write_error request ops.WriteBytes e = Some (from_fs e)
write_error request ops.Flush e = Some (from_fs e)
write_error request _ e = None

-- The error by which a method answers a call of its work that fails; `None`: it does not end with an error then. DELETE, COPY and MOVE report such a
-- call in a response, and PROPFIND beside the property.
abbrev pub call_error : Option DavMethod → DavRequest → Op → FsError → Option DavError
call_error (Some MkCol) request ops.CreateDir e = Some (mkcol_error e)
call_error (Some Put) request op e = write_error request op e
call_error (Some Patch) request op e = write_error request op e
call_error (Some Lock) request ops.OpenFile e = Some (open_error Status (making_options request) e)
call_error (Some PropPatch) request ops.PatchProps e = Some (from_fs e)
call_error method request op e = None

-- The last call of the request, on its path, failed because it was barred or the store refused it, and the method answers that with this error. Every
-- call before it was a lookup or was granted. Unless the file was opened, the contents are unchanged. The locks are unchanged, except that a lock
-- system whose `unlock` is not reliable may have kept the lock of the LOCK.
pub record AnswersFailure (method : Option DavMethod) (request : DavRequest) (old : State) (records : List Logged) (e : DavError) (new : State)
    : Type 0 where
  pub before : List Logged
  pub op : Op
  pub outcome : Outcome
  pub last : records ≡ before ++ logged op (request.path.key ∷ []) outcome ∷ []
  pub cause : FsError
  pub failed : error_of outcome ≡ Some cause
  pub error : call_error method request op cause ≡ Some e
  pub others : (other : Logged) → IsIn other before → (other.op ≡ ops.Metadata) ⊎ (other.outcome ≡ Granted)
  pub contents : ¬ (WasGranted ops.OpenFile request.path.key records) → new.contents ≡ old.contents
  pub locks : LocksStay old new ⊎ ((method ≡ Some Lock) × (old.reliable.unlock ≡ false))

-- a rule or the locks rejected the request: each of its calls was a lookup, and nothing has changed
pub record IsRejected (old : State) (records : List Logged) (new : State) : Type 0 where
  pub calls : (call : Logged) → IsIn call records → call.op ≡ ops.Metadata
  pub contents : new.contents ≡ old.contents
  pub locks : LocksStay old new

-- the request was rejected, memory ran out, or its last call failed
abbrev pub HasCause : Option DavMethod → DavRequest → State → List Logged → DavError → State → Type 0
HasCause method request old records e new = IsRejected old records new ⊎ (e ≡ Memory) ⊎ AnswersFailure method request old records e new
