-- The errors of a data file.
use Rattle.std.specs.Prelude.{◌≡◌, ◌⊎◌, Bool, true, false, if◌then◌else◌}
use Rattle.std.specs.declared.io.Error.{Error}
use Rattle.sqlite_disk.specs.Refusal.{is_no_room}
use Rattle.dav_resource.specs.declared.error.FsError.{FsError}
use Rattle.dav_resource.specs.declared.error.FsError.TheVariants as errors

-- the errors that a data file returns for its own reasons
abbrev pub is_own_error : FsError → Bool
is_own_error errors.GeneralFailure = true
is_own_error errors.InsufficientStorage = true
is_own_error _ = false

-- an error that comes where memory runs out, or one of these
abbrev pub IsFailure : FsError → Type 0
IsFailure e = (e ≡ errors.Memory) ⊎ (is_own_error e ≡ true)

-- the error of a store for an error of the disk
abbrev pub failure_of : Error → FsError
failure_of e = if is_no_room e then errors.InsufficientStorage else errors.GeneralFailure
