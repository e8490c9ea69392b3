-- MKCOL (RFC 4918, section 9.3): creates a collection.
use Rattle.std.specs.Prelude.{◌≡◌, if◌then◌else◌, List, codes, Option, Some, None}
use Rattle.http_header.specs.FieldValue.{FieldValue, plain_value}
use Rattle.dav_resource.specs.PathText.{PathValue, url_text}
use Rattle.dav_resource.specs.PathForms.{is_collection, prefixed}
use Rattle.dav_resource.specs.Errors.{from_fs}
use Rattle.dav_resource.specs.declared.record.Op.TheVariants.{CreateDir}
use Rattle.dav_resource.specs.declared.error.FsError.{FsError}
use Rattle.dav_resource.specs.declared.error.FsError.TheVariants.{Exists, NotFound}
use Rattle.dav_resource.specs.declared.error.DavError.{DavError}
use Rattle.dav_resource.specs.declared.error.DavError.TheVariants.{Status}
use Rattle.dav_resource.specs.declared.request.DavRequest.{DavRequest}
use Rattle.dav_store.specs.Logged.{Logged}
use Rattle.dav_store.specs.Store.{Contents}
use Rattle.dav_store.specs.Calls.{create_dir_call, IsMadeAt}
use Rattle.dav_messages.specs.Reply.{Reply, Answer, bare_reply}
use Rattle.dav_messages.specs.ReplyHeader.{optional_field}
use Rattle.dav_messages.specs.Dialogue.{Dialogue, Passed, needs, WasGranted}
use Rattle.dav_engine.specs.Answered.{IsAnswered}

-- the error of a call that fails: 405 for `Exists`, 409 for `NotFound` (the parent is not a collection), else the store's error
abbrev pub mkcol_error : FsError → DavError
mkcol_error Exists = Status 405
mkcol_error NotFound = Status 409
mkcol_error e = from_fs e

abbrev pub mkcol_steps : DavRequest → Contents → Dialogue (Unit {0})
mkcol_steps request old = needs (create_dir_call old request.path.key) mkcol_error (Passed tt)

-- the collection's path with the prefix, if the request's path ends in a slash or is the root
abbrev pub mkcol_location : PathValue → Option FieldValue
mkcol_location path = if is_collection path then Some (plain_value (url_text (prefixed path))) else None

-- 201, with that path in `content-location`
abbrev pub mkcol_reply : PathValue → Reply
mkcol_reply path = bare_reply 201 (optional_field (codes "content-location") (mkcol_location path))

-- if the `create_dir` call was granted, the collection is created, and no other file or directory and no property changes; otherwise nothing changes
pub record MkcolLeaves (request : DavRequest) (records : List Logged) (old new : Contents) : Type 0 where
  pub made : WasGranted CreateDir request.path.key records → IsMadeAt request.path.key old new
  pub untouched : ¬ (WasGranted CreateDir request.path.key records) → new ≡ old

pub record MkcolWork (request : DavRequest) (old : Contents) (records : List Logged) (answer : Answer) (new : Contents) : Type 0 where
  pub answered : IsAnswered (mkcol_steps request old) (λ _ reply. reply ≡ mkcol_reply request.path) records answer
  pub leaves : MkcolLeaves request records old new
