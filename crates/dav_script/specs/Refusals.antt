-- How a script says that the store is to refuse a call: `OP PATH ERROR`; this project's own choice.
use Rattle.std.specs.Prelude.{◌==◌, ℕ, Bool, nat_lt, List, [], length, codes, bytes_eq, if◌then◌else◌, Option, Some, None, option_map, option_and_then}
use Rattle.std.specs.List.{position_or_len, before_first, after_first}
use Rattle.std.specs.Result.{result_ok}
use Rattle.dav_resource.specs.PathText.{PathValue, read_path}
use Rattle.dav_resource.specs.declared.error.FsError.{FsError}
use Rattle.dav_resource.specs.declared.error.FsError.TheVariants.{NotImplemented, GeneralFailure, Forbidden, InsufficientStorage, LoopDetected, PathTooLong, TooLarge, IsRemote}
use Rattle.dav_resource.specs.declared.record.Op.{Op}
use Rattle.dav_resource.specs.declared.record.Op.TheVariants.{Metadata, ReadDir, CreateDir, OpenFile, RemoveFile, RemoveDir, Copy, Rename, Seek, WriteBytes, Flush, FileMetadata, GetProp, GetProps, PatchProps, GetQuota, Entry}
use Rattle.dav_script.specs.declared.refusal.PlannedRefusal.{PlannedRefusal}

-- the call with this name; `entry` is the listing of one member, and no name stands for `ReadBytes`, which no method calls
abbrev pub op_named : List ℕ → Option Op
op_named name =
    if bytes_eq name (codes "metadata") then Some Metadata
    else (if bytes_eq name (codes "read_dir") then Some ReadDir
    else (if bytes_eq name (codes "create_dir") then Some CreateDir
    else (if bytes_eq name (codes "open") then Some OpenFile
    else (if bytes_eq name (codes "remove_file") then Some RemoveFile
    else (if bytes_eq name (codes "remove_dir") then Some RemoveDir
    else (if bytes_eq name (codes "copy") then Some Copy
    else (if bytes_eq name (codes "rename") then Some Rename
    else (if bytes_eq name (codes "seek") then Some Seek
    else (if bytes_eq name (codes "write_bytes") then Some WriteBytes
    else (if bytes_eq name (codes "flush") then Some Flush
    else (if bytes_eq name (codes "file_metadata") then Some FileMetadata
    else (if bytes_eq name (codes "get_prop") then Some GetProp
    else (if bytes_eq name (codes "get_props") then Some GetProps
    else (if bytes_eq name (codes "patch_props") then Some PatchProps
    else (if bytes_eq name (codes "get_quota") then Some GetQuota
    else (if bytes_eq name (codes "entry") then Some Entry else None))))))))))))))))

-- the error with this name that a store may return for its own reasons
abbrev pub refusal_error : List ℕ → Option FsError
refusal_error name =
    if bytes_eq name (codes "NotImplemented") then Some NotImplemented
    else (if bytes_eq name (codes "GeneralFailure") then Some GeneralFailure
    else (if bytes_eq name (codes "Forbidden") then Some Forbidden
    else (if bytes_eq name (codes "InsufficientStorage") then Some InsufficientStorage
    else (if bytes_eq name (codes "LoopDetected") then Some LoopDetected
    else (if bytes_eq name (codes "PathTooLong") then Some PathTooLong
    else (if bytes_eq name (codes "TooLarge") then Some TooLarge
    else (if bytes_eq name (codes "IsRemote") then Some IsRemote else None)))))))

-- a word parsed as a path without a prefix
abbrev pub refused_path : List ℕ → Option PathValue
refused_path word = result_ok (read_path word [])

-- a call, its path, and the error that the store returns
abbrev pub Refusal : Type 0
Refusal = Op × PathValue × FsError

abbrev pub refusal_in : PlannedRefusal → Refusal
refusal_in planned = (planned.op, planned.path, planned.error)

-- the refusal that three words describe
abbrev pub refusal_of_words : List ℕ → List ℕ → List ℕ → Option Refusal
refusal_of_words op path error =
    option_and_then (λ op. option_and_then (λ path. option_map (λ error. (op, path, error)) (refusal_error error)) (refused_path path)) (op_named op)

abbrev pub is_space : ℕ → Bool
is_space byte = byte == 32

-- the text before its first space and the text after it, if it has a space
abbrev pub cut_at_space : List ℕ → Option (List ℕ × List ℕ)
cut_at_space text =
    if nat_lt (position_or_len is_space text) (length text)
    then Some (before_first is_space text, after_first is_space text)
    else None

-- the refusal that a text describes: three words separated by single spaces
abbrev pub refusal_of : List ℕ → Option Refusal
refusal_of text =
    option_and_then (λ words. option_and_then (λ more. refusal_of_words words.0 more.0 more.1) (cut_at_space words.1)) (cut_at_space text)
