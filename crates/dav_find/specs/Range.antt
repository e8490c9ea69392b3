-- Which resources a PROPFIND reports, and which directories it lists for that, whatever the store refuses (RFC 4918, sections 9.1 and 10.2). A key at
-- or below the target `top` is given by the path x that leads from `top` down to it.
use Rattle.std.specs.Prelude.{◌≡◌, ◌≢◌, ◌⊎◌, Bool, true, false, List, [], ◌∷◌, ◌++◌, filter_map, Option, None, Some}
use Rattle.std.specs.FinMap.{get}
use Rattle.dav_key.specs.Key.{Key}
use Rattle.dav_resource.specs.declared.record.Op.{Op}
use Rattle.dav_resource.specs.declared.record.Op.TheVariants.{ReadDir, Entry}
use Rattle.dav_resource.specs.declared.record.Outcome.{Outcome}
use Rattle.dav_resource.specs.declared.record.Outcome.TheVariants.{Granted}
use Rattle.dav_resource.specs.declared.request.Depth.{Depth}
use Rattle.dav_store.specs.Logged.{Logged, logged}
use Rattle.dav_store.specs.Members.{IsIn, AreDistinct, member}
use Rattle.dav_store.specs.Store.{Contents, Directory}
use Rattle.dav_find.specs.Visiting.{is_shown, is_listed, is_infinite}

-- ---- what the Depth reaches

-- the target itself, its members, and everything further below
abbrev pub reaches : Depth → Key → Bool
reaches depth [] = is_shown depth
reaches depth (name ∷ []) = is_listed depth
reaches depth (name ∷ next ∷ x) = is_infinite depth

-- whether the members of the resource at this path are reached
abbrev pub reaches_members : Depth → Key → Bool
reaches_members depth [] = is_listed depth
reaches_members depth (name ∷ x) = is_infinite depth

-- ---- members that are not listed

-- a record of this kind for the key has an outcome other than granted
pub record WasDeclined (records : List Logged) (op : Op) (key : Key) : Type 0 where
  pub outcome : Outcome
  pub called : IsIn (logged op (key ∷ []) outcome) records
  pub declined : outcome ≢ Granted

-- the record is of a listing, or of a member that a listing did not show
abbrev pub is_listing : Op → Bool
is_listing ReadDir = true
is_listing Entry = true
is_listing _ = false

-- every listing was granted and showed every member; calls of other kinds may have failed
abbrev pub AllShown : List Logged → Type 0
AllShown records = (r : Logged) → IsIn r records → is_listing r.op ≡ true → r.outcome ≡ Granted

-- on the way from `top` down to the key, some listing was not granted, or did not show the next member
abbrev pub IsHidden : List Logged → Key → Key → Type 0
IsHidden records top [] = ⊥
IsHidden records top (name ∷ x) = WasDeclined records ReadDir top ⊎ WasDeclined records Entry (member top name) ⊎ IsHidden records (member top name) x

-- ---- the listed directories

-- the directory that a call lists, whatever its outcome
abbrev pub listed_by : Op → List Key → Option Key
listed_by ReadDir (key ∷ []) = Some key
listed_by _ _ = None

abbrev pub listed_key : Logged → Option Key
listed_key record_of = listed_by record_of.op record_of.keys

-- the directories that are listed, in order
abbrev pub listed_in : List Logged → List Key
listed_in records = filter_map listed_key records

-- ---- the range

-- no key comes twice, and none comes after a key that is below it
abbrev pub AreDownwards : List Key → Type 0
AreDownwards [] = Unit {0}
AreDownwards (key ∷ keys) = ((later : Key) → IsIn later keys → (x : Key) → key ≢ later ++ x) × AreDownwards keys

abbrev pub Stands : Contents → Key → Type 0
Stands contents key = get contents.tree key ≢ None

abbrev pub IsDirectory : Contents → Key → Type 0
IsDirectory contents key = get contents.tree key ≡ Some Directory

-- of the keys at and below `top`, these are exactly the ones that are reached, of this kind and not hidden
pub record AreReached (Reached : Key → Bool) (Kind : Key → Type 0) (records : List Logged) (top : Key) (keys : List Key) : Type 0 where
  pub reached : (x : Key) → IsIn (top ++ x) keys → Reached x ≡ true
  pub kind : (x : Key) → IsIn (top ++ x) keys → Kind (top ++ x)
  pub unhidden : (x : Key) → IsIn (top ++ x) keys → IsHidden records top x → ⊥
  pub each : (x : Key) → Reached x ≡ true → Kind (top ++ x) → (IsHidden records top x → ⊥) → IsIn (top ++ x) keys

-- every key is at or below `top`
abbrev pub AreWithin : Key → List Key → Type 0
AreWithin top keys = (key : Key) → IsIn key keys → (x : Key) × (key ≡ top ++ x)

-- Exactly the resources in the Depth's range that are not hidden are reported: each once, and a directory before everything below it. So if every
-- listing is granted and shows every member, every resource in the range is reported, whatever other calls fail. Exactly the directories whose
-- members are in the range, and that are not hidden, are listed: each once.
pub record ReportsRange (contents : Contents) (depth : Depth) (top : Key) (records : List Logged) (reported : List Key) : Type 0 where
  pub once : AreDistinct reported
  pub downwards : AreDownwards reported
  pub within : AreWithin top reported
  pub reports : AreReached (reaches depth) (Stands contents) records top reported
  pub whole : AllShown records → (x : Key) → reaches depth x ≡ true → Stands contents (top ++ x) → IsIn (top ++ x) reported
  pub listed_once : AreDistinct (listed_in records)
  pub listed_within : AreWithin top (listed_in records)
  pub lists : AreReached (reaches_members depth) (IsDirectory contents) records top (listed_in records)
