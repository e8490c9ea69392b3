-- The resources that a check has still to visit: this project's own choice.
use Rattle.std.specs.Prelude.{◌≡◌, ◌≢◌, ℕ, List, [], ◌∷◌, ◌++◌, map, reverse, Some, Result, Ok}
use Rattle.dav_key.specs.Key.{Key}
use Rattle.dav_resource.specs.PathText.{PathValue}
use Rattle.dav_resource.specs.PathForms.{member_path}
use Rattle.dav_resource.specs.declared.meta.DirEntry.{DirEntry}
use Rattle.dav_resource.specs.declared.error.FsError.{FsError}
use Rattle.dav_store.specs.Store.{Contents}
use Rattle.dav_store.specs.Members.{IsIn, member, members}
use Rattle.dav_check.specs.declared.pending.Pending.{Pending}

-- the path of a member, with a trailing slash for a directory
abbrev pub path_at : PathValue → DirEntry → PathValue
path_at directory entry = record (member_path directory entry.name) { slash = entry.meta.dir }

-- the member as one that is to be visited
abbrev pub pending_at : PathValue → DirEntry → Pending
pending_at directory entry = record { path = path_at directory entry; meta = entry.meta }

abbrev pub key_of : Pending → Key
key_of pending = pending.path.key

-- each of them exists, with this metadata
abbrev pub AreThere : Contents → List Pending → Type 0
AreThere contents waiting = (p : Pending) → IsIn p waiting → contents.metas (key_of p) ≡ Some p.meta

-- no key is at or below both
abbrev pub AreApart : Pending → Pending → Type 0
AreApart p q = (x y : Key) → key_of p ++ x ≢ key_of q ++ y

-- any two of them are apart
abbrev pub AreAllApart : List Pending → Type 0
AreAllApart [] = Unit {0}
AreAllApart (p ∷ ps) = ((q : Pending) → IsIn q ps → AreApart p q) × AreAllApart ps

-- some entries at the end of a listing, the last one first, were added behind those that waited before; the others are left
pub record Takes (directory : PathValue) (listing left : List (Result DirEntry FsError)) (before after : List Pending) : Type 0 where
  pub taken : List DirEntry
  pub split : listing ≡ left ++ map Ok (reverse taken)
  pub added : after ≡ before ++ map (pending_at directory) taken

-- the members of a directory, each once, come behind those that waited before
pub record AddsMembers (contents : Contents) (directory : Key) (before after : List Pending) : Type 0 where
  pub added : List Pending
  pub behind : after ≡ before ++ added
  pub each : (name : List ℕ) → IsIn name (members contents.tree directory) → (p : Pending) × IsIn p added × (key_of p ≡ member directory name)
  pub there : AreThere contents added
  pub below : (p : Pending) → IsIn p added → (name : List ℕ) × (key_of p ≡ member directory name)
  pub apart : AreAllApart added
