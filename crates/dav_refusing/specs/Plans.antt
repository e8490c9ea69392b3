-- Plans of refusals, and how a plan changes a listing of members: this project's own choice.
use Rattle.std.specs.Prelude.{◌≡◌, ℕ, nat_eq, Bool, ◌&&◌, if◌then◌else◌, List, [], ◌∷◌, ◌++◌, map, drop, slice_get, Option, Some, None, Ok, Err, Result}
use Rattle.std.specs.Ordering.{eq_by_cmp}
use Rattle.dav_key.specs.Key.{Key, key_cmp}
use Rattle.dav_resource.specs.declared.meta.DirEntry.{DirEntry}
use Rattle.dav_resource.specs.declared.record.Op.{Op}
use Rattle.dav_resource.specs.declared.record.Op.TheVariants.{Metadata, ReadDir, ReadBytes, CreateDir, OpenFile, RemoveFile, RemoveDir, Copy, Rename, Seek, WriteBytes, Flush, FileMetadata, GetProp, GetProps, PatchProps, GetQuota, Entry}
use Rattle.dav_resource.specs.declared.record.Record.{Record}
use Rattle.dav_resource.specs.declared.error.FsError.{FsError}
use Rattle.dav_resource.specs.PathText.{PathValue}
use Rattle.dav_store.specs.Members.{Child, member}
use Rattle.dav_wrapping.specs.Hiding.{Why, shown_by, hidden_by, IsListingOf}

-- the number of a kind of call
abbrev pub place_of_op : Op → ℕ
place_of_op Metadata = 0
place_of_op ReadDir = 1
place_of_op ReadBytes = 2
place_of_op CreateDir = 3
place_of_op OpenFile = 4
place_of_op RemoveFile = 5
place_of_op RemoveDir = 6
place_of_op Copy = 7
place_of_op Rename = 8
place_of_op Seek = 9
place_of_op WriteBytes = 10
place_of_op Flush = 11
place_of_op FileMetadata = 12
place_of_op GetProp = 13
place_of_op GetProps = 14
place_of_op PatchProps = 15
place_of_op GetQuota = 16
place_of_op Entry = 17

-- two calls are of the same kind
abbrev pub same_op : Op → Op → Bool
same_op a b = nat_eq (place_of_op a) (place_of_op b)

-- the key of a call's first path; for a call without a path, that of the root
abbrev pub first_key : List PathValue → Key
first_key [] = []
first_key (path ∷ paths) = path.key

-- the errors with which the calls of each kind on each key are to be refused, in order
abbrev pub Plan : Type 0
Plan = Op → Key → List FsError

-- nothing is to be refused
abbrev pub no_refusals : Plan
no_refusals op key = []

-- two calls, each given by its kind and its key, have the same kind and the same key
abbrev pub is_for : Op → Key → Op → Key → Bool
is_for op key other other_key = same_op op other && eq_by_cmp key_cmp key other_key

-- the plan with these errors for the calls of one kind on one key
abbrev pub with_errors : Op → Key → List FsError → Plan → Plan
with_errors op key errors plan other other_key = if is_for op key other other_key then errors else plan other other_key

-- the key that a refusal is for; `get_quota` has no path
abbrev pub planned_key : Op → Key → Key
planned_key GetQuota key = []
planned_key op key = key

-- the plan with one more refusal, after those for the same calls
abbrev pub with_last : Op → Key → FsError → Plan → Plan
with_last op key error plan = with_errors op key (plan op key ++ error ∷ []) plan

-- the first error for the call, if there is one
abbrev pub refusal_for : Op → Key → Plan → Option FsError
refusal_for op key plan = slice_get (plan op key) 0

-- the plan without that error; unchanged if there is none
abbrev pub without_first : Op → Key → Plan → Plan
without_first op key plan = with_errors op key (drop 1 (plan op key)) plan

-- ---- listings

-- why a member is hidden: the error with which the plan refuses to list it
abbrev pub why_by : Plan → Why
why_by plan key = refusal_for Entry key plan

-- a call, given by its kind and its key
abbrev pub Call : Type 0
Call = Op × Key

-- the call that stands for listing a member, if it is refused
abbrev pub refused_call : Key → List ℕ → Option FsError → List Call
refused_call directory name None = []
refused_call directory name (Some e) = (Entry, member directory name) ∷ []

-- the calls that stand for listing the members which the plan refuses
abbrev pub refused_calls : Plan → Key → List Child → List Call
refused_calls plan directory [] = []
refused_calls plan directory ((name, Ok entry) ∷ children) = refused_call directory name (refusal_for Entry (member directory name) plan) ++ refused_calls plan directory children
refused_calls plan directory ((name, Err e) ∷ children) = refused_calls plan directory children

-- the plan without the first refusal of each of these calls
abbrev pub without_firsts : List Call → Plan → Plan
without_firsts [] plan = plan
without_firsts (call ∷ calls) plan = without_firsts calls (without_first call.0 call.1 plan)

-- the plan after a listing
abbrev pub left_by : Plan → Key → List Child → Plan
left_by plan directory children = without_firsts (refused_calls plan directory children) plan

-- the listing is as the plan leaves it; these are the records of the members that are not listed now, and the calls that the plan refuses
pub record IsLetBy (plan : Plan) (directory : PathValue) (children : List Child) (hidden : List Record) (listing : List (Result DirEntry FsError)) (unseen : List Record) (refused : List Call) : Type 0 where
  pub shown : listing ≡ map (λ c. c.1) (shown_by (why_by plan) directory.key children)
  pub recorded : unseen ≡ hidden_by (why_by plan) directory children hidden
  pub refused_are : refused ≡ refused_calls plan directory.key children

-- the plan is followed for the members of the listing, whichever they are
abbrev pub LetsThrough : Plan → PathValue → List (Result DirEntry FsError) → List Record → List (Result DirEntry FsError) → List Record → List Call → Type 0
LetsThrough plan directory listing hidden shown unseen refused = (children : List Child) → IsListingOf directory.key children listing hidden → IsLetBy plan directory children hidden shown unseen refused
