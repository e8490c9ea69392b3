-- A work list, by which the members of directories are visited one after the other (RFC 4918, section 9.1): this project's own choice.
use Rattle.std.specs.Prelude.{◌≡◌, ◌≢◌, ◌⊎◌, ◌+◌, ◌<◌, ℕ, Bool, List, [], ◌∷◌, ◌++◌, map, filter_map, reverse, Option, Some, None, Result, Ok, Err}
use Rattle.std.specs.FinMap.{keys}
use Rattle.dav_key.specs.Key.{Key}
use Rattle.dav_resource.specs.PathText.{PathValue}
use Rattle.dav_resource.specs.declared.meta.DirEntry.{DirEntry}
use Rattle.dav_resource.specs.declared.error.FsError.{FsError}
use Rattle.dav_resource.specs.declared.record.Outcome.{Outcome}
use Rattle.dav_resource.specs.declared.record.Outcome.TheVariants.{Granted}
use Rattle.dav_store.specs.Logged.{Logged}
use Rattle.dav_store.specs.Store.{Store, Contents}
use Rattle.dav_store.specs.Calls.{record_of, IsLawful}
use Rattle.dav_store.specs.Members.{Child, AreChildren, IsIn, read_dir_call, unseen_record}
use Rattle.dav_walks.specs.Counting.{total, count_below}
use Rattle.dav_walks.specs.Frames.{path_of_entry}
use Rattle.dav_walks.specs.declared.listing.Resource.{Resource}

-- an item of a listing: a member's entry, or an error for a member that the store does not list
abbrev pub Shown : Type 0
Shown = Result DirEntry FsError

-- With these records the directory is listed: the listing has one item for each member, an entry or an error, and an entry only for a member that
-- `shows` lets it show. Or the call is not granted, and the listing is empty.
pub data ListsAt (shows : Key → Bool) (contents : Contents) (directory : Key) (records : List Logged) (listing : List Shown) : Type 0 where
  listed : (children : List Child) → (read_dir_call contents directory).bar ≡ None → AreChildren shows contents directory children
      → listing ≡ map (λ c. c.1) children
      → records ≡ record_of (read_dir_call contents directory) Granted ∷ filter_map (unseen_record directory) children
      → ListsAt shows contents directory records listing
  unlisted : (outcome : Outcome) → outcome ≢ Granted → IsLawful (read_dir_call contents directory).bar outcome → listing ≡ []
      → records ≡ record_of (read_dir_call contents directory) outcome ∷ [] → ListsAt shows contents directory records listing

-- the member at its path, none if the store does not list it
abbrev pub resource_of : PathValue → Shown → Option Resource
resource_of directory (Ok entry) = Some (record { path = path_of_entry directory entry; meta = entry.meta })
resource_of directory (Err e) = None

-- the members that the store lists, in the order of the listing
abbrev pub shown_in : PathValue → List Shown → List Resource
shown_in directory listing = filter_map (resource_of directory) listing

-- the pending resources in the order in which they are visited, the last of the list first
abbrev pub in_turn : List Resource → List Resource
in_turn waiting = reverse waiting

-- the directory was listed, or the call was not granted, and nothing changed except the log
pub record Listed (directory : PathValue) (old : Store) (listing : List Shown) (new : Store) : Type 0 where
  pub records : List Logged
  pub lists : ListsAt old.facts.shows old.contents directory.key records listing
  pub recorded : new.log ≡ old.log ++ records
  pub same : new.contents ≡ old.contents
  pub fixed : new.facts ≡ old.facts

-- the listed members come next, in the order of the listing, and then the resources that were pending before
pub record AddsMembers (directory : PathValue) (old : Store) (before : List Resource) (new : Store) (after : List Resource) : Type 0 where
  pub listing : List Shown
  pub read : Listed directory old listing new
  pub added : in_turn after ≡ shown_in directory listing ++ in_turn before

-- memory ran out: the store is unchanged, or the directory was listed or the call was not granted, as `Listed` says
abbrev pub StopsAdding : PathValue → Store → Store → Type 0
StopsAdding directory old new = (new ≡ old) ⊎ ((listing : List Shown) × Listed directory old listing new)

-- each pending resource exists, with this metadata
abbrev pub AreThere : Contents → List Resource → Type 0
AreThere contents waiting = (r : Resource) → IsIn r waiting → contents.metas r.path.key ≡ Some r.meta

-- the number of keys at or below each pending resource, summed
abbrev pub waiting_count : Contents → List Resource → ℕ
waiting_count contents waiting = total (λ r. count_below r.path.key (keys contents.tree)) waiting

-- the sum after is smaller than the sum before plus the keys at or below this key, which is no longer pending
abbrev pub AreFewer : Contents → Key → List Resource → List Resource → Type 0
AreFewer contents key before after = waiting_count contents after < waiting_count contents before + count_below key (keys contents.tree)
