-- A listing in which a wrapper hides members: this project's own choice.
use Rattle.std.specs.Prelude.{◌≡◌, ℕ, List, [], ◌∷◌, ◌++◌, map, filter_map, All, IfOk, Option, Some, None, Ok, Err, Result}
use Rattle.dav_key.specs.Key.{Key}
use Rattle.dav_resource.specs.declared.meta.DirEntry.{DirEntry}
use Rattle.dav_resource.specs.declared.record.Op.TheVariants.{Entry}
use Rattle.dav_resource.specs.declared.record.Outcome.TheVariants.{Refused}
use Rattle.dav_resource.specs.declared.record.Record.{Record}
use Rattle.dav_resource.specs.declared.error.FsError.{FsError}
use Rattle.dav_resource.specs.PathText.{IsSegment, PathValue}
use Rattle.dav_resource.specs.PathForms.{member_path}
use Rattle.dav_store.specs.Logged.{logged_of, record_on}
use Rattle.dav_store.specs.Members.{Child, member, IsIn, unseen_record}

-- why a resource is hidden: the error in its place, or nothing if it is not
abbrev pub Why : Type 0
Why = Key → Option FsError

-- an entry, or the error in its place
abbrev pub shown_as : Option FsError → DirEntry → Result DirEntry FsError
shown_as None entry = Ok entry
shown_as (Some e) entry = Err e

-- the members as the wrapper lists them; a member that was not listed before stays as it is
abbrev pub shown_by : Why → Key → List Child → List Child
shown_by why directory [] = []
shown_by why directory ((name, Ok entry) ∷ children) = (name, shown_as (why (member directory name)) entry) ∷ shown_by why directory children
shown_by why directory ((name, Err e) ∷ children) = (name, Err e) ∷ shown_by why directory children

-- the record of a member that the wrapper hides; its path is that of the directory with the member's name
abbrev pub hidden_record : PathValue → List ℕ → Option FsError → List Record
hidden_record directory name None = []
hidden_record directory name (Some e) = record_on Entry (member_path directory name ∷ []) (Refused e) ∷ []

-- the records of the members that are not listed, in the order of the listing; a member that was not listed before keeps its record
abbrev pub hidden_by : Why → PathValue → List Child → List Record → List Record
hidden_by why directory [] hidden = []
hidden_by why directory ((name, Ok entry) ∷ children) hidden = hidden_record directory name (why (member directory.key name)) ++ hidden_by why directory children hidden
hidden_by why directory ((name, Err e) ∷ children) [] = []
hidden_by why directory ((name, Err e) ∷ children) (r ∷ hidden) = r ∷ hidden_by why directory children hidden

-- the name of each entry may be a segment of a key
abbrev pub HaveSegmentNames : List (Result DirEntry FsError) → Type 0
HaveSegmentNames listing = All (λ shown. IfOk shown (λ entry. IsSegment entry.name)) listing

-- an entry has the member's name
abbrev pub IsNamed : Child → Type 0
IsNamed (name, Ok entry) = entry.name ≡ name
IsNamed (name, Err e) = Unit {0}

abbrev pub AreNamed : List Child → Type 0
AreNamed children = (c : Child) → IsIn c children → IsNamed c

-- the listing has these members, and these are the records of those that it does not list
pub record IsListingOf (directory : Key) (children : List Child) (listing : List (Result DirEntry FsError)) (hidden : List Record) : Type 0 where
  pub named : AreNamed children
  pub listed : listing ≡ map (λ c. c.1) children
  pub recorded : map logged_of hidden ≡ filter_map (unseen_record directory) children
