-- The status of the response for each error (RFC 9110, section 15; RFC 4918, section 11; RFC 5842, section 7), and how other errors become errors of
-- the engine. Which status and which error is this project's own choice.
use Rattle.std.specs.Prelude.{ℕ}
use Rattle.dav_resource.specs.declared.error.FsError.{FsError}
use Rattle.dav_resource.specs.declared.error.FsError.TheVariants as fs
use Rattle.http_header.specs.declared.map.HeaderMapError.{HeaderMapError}
use Rattle.http_header.specs.declared.map.HeaderMapError.TheVariants as map
use Rattle.http_header.specs.declared.value.HeaderValueError.{HeaderValueError}
use Rattle.http_header.specs.declared.value.HeaderValueError.TheVariants as value
use Rattle.dav_resource.specs.declared.error.DavError.{DavError}
use Rattle.dav_resource.specs.declared.error.DavError.TheVariants as dav

-- the status for an error of a store call
abbrev pub fs_status : FsError → ℕ
fs_status fs.NotImplemented = 501
fs_status fs.GeneralFailure = 500
fs_status fs.Exists = 405
fs_status fs.NotFound = 404
fs_status fs.Forbidden = 403
fs_status fs.InsufficientStorage = 507
fs_status fs.LoopDetected = 508
fs_status fs.PathTooLong = 414
fs_status fs.TooLarge = 413
fs_status fs.IsRemote = 502
fs_status fs.Memory = 507

-- the status for an error of the engine
abbrev pub dav_status : DavError → ℕ
dav_status (dav.Status status) = status
dav_status (dav.StatusClose status) = status
dav_status (dav.FsError error) = fs_status error
dav_status dav.XmlParseError = 400
dav_status dav.InvalidPath = 400
dav_status dav.ForbiddenPath = 403
dav_status dav.IllegalPath = 502
dav_status dav.ChanError = 500
dav_status dav.Memory = 507

-- an error of a store call as an error of the engine
abbrev pub from_fs : FsError → DavError
from_fs fs.Memory = dav.Memory
from_fs fs.NotImplemented = dav.FsError fs.NotImplemented
from_fs fs.GeneralFailure = dav.FsError fs.GeneralFailure
from_fs fs.Exists = dav.FsError fs.Exists
from_fs fs.NotFound = dav.FsError fs.NotFound
from_fs fs.Forbidden = dav.FsError fs.Forbidden
from_fs fs.InsufficientStorage = dav.FsError fs.InsufficientStorage
from_fs fs.LoopDetected = dav.FsError fs.LoopDetected
from_fs fs.PathTooLong = dav.FsError fs.PathTooLong
from_fs fs.TooLarge = dav.FsError fs.TooLarge
from_fs fs.IsRemote = dav.FsError fs.IsRemote

-- the HTTP server must close the connection after the response
abbrev pub closes : DavError → Type 0
closes (dav.StatusClose status) = Unit {0}
closes _ = ⊥

-- a header field that cannot be added to a response: there are too many (status 500), or memory ran out
abbrev pub from_map : HeaderMapError → DavError
from_map map.MaxSizeReached = dav.Status 500
from_map map.OutOfMemory = dav.Memory

-- a string that is not a valid header value (status 500), or memory ran out
abbrev pub from_value : HeaderValueError → DavError
from_value value.Invalid = dav.Status 500
from_value value.OutOfMemory = dav.Memory
