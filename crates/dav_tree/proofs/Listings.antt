-- The members of a directory, from a tree of entries.
use Rattle.std.proofs.Common.{◌≡◌, ◌∙◌, ℕ, List, [], ◌∷◌, ◌++◌, map, filter_map, Option, Some, Result, Ok, Err, sym, ap, subst, All, append_assoc, append-nil}
use Rattle.std.proofs.lemmas.Slice.Zip.{all_zipped_more}
use Rattle.std.proofs.lemmas.List.Elements.{All-head, All-tail}
use Rattle.std.specs.List.{AllZip}
use Rattle.std.specs.Option.{option_map}
use Rattle.std.specs.FinMap.{FinMap, get, keys}
use Rattle.dav_key.specs.Key.{Key, key_cmp}
use Rattle.dav_key.specs.Members as keyed
use Rattle.dav_nodes.specs.Tree.{Tree}
use Rattle.dav_resource.specs.declared.meta.DirEntry.{DirEntry}
use Rattle.dav_resource.specs.declared.error.FsError.{FsError}
use Rattle.dav_store.specs.Members.{name_in, members, member}
use Rattle.dav_key.specs.EachLaws.{keys-each-some}
use Rattle.dav_tree.specs.Memory.{tree_of, meta_of}
use Rattle.dav_tree.specs.MemoryCalls.{IsShown, IsListing}
use Rattle.dav_tree.specs.Entry.{stored_by}
use Rattle.dav_tree.specs.Kept.{resources_by}
use Rattle.dav_tree.specs.declared.entry.Entry.{Entry}
use Rattle.dav_tree.proofs.Keeping.{get-resources}

-- a member is listed as this
abbrev pub IsEntryOf : {B : Type 0} → Option ℕ → (B → List ℕ) → List ℕ × Entry B → Result DirEntry FsError → Type 0
IsEntryOf part bytes m (Ok entry) = (entry.name ≡ m.0) × (entry.meta ≡ meta_of part (stored_by bytes m.1))
IsEntryOf part bytes m (Err e) = ⊥

module _ {B : Type 0} (bytes : B → List ℕ) (tree : Tree (Entry B)) (d : Key) where
  -- the names of the members
  pub names-members : keyed.names_among (keys tree.values) d ≡ members (tree_of (resources_by bytes tree)) d
  names-members = ap (filter_map (name_in d)) (sym (keys-each-some (λ s. s.node) (resources_by bytes tree) ∙ keys-each-some (stored_by bytes) tree.values))

  shown_one : (part : Option ℕ) (m : List ℕ × Entry B) (shown : Result DirEntry FsError) → get tree.values (member d m.0) ≡ Some m.1 → IsEntryOf part bytes m shown → IsShown part d (resources_by bytes tree) m.0 shown
  shown_one part m (Ok entry) here is = (is.0, ap (option_map (meta_of part)) (get-resources bytes tree (member d m.0) ∙ ap (option_map (stored_by bytes)) here) ∙ ap Some (sym is.1))
  shown_one part m (Err e) here is = is

  pub shown-all : (part : Option ℕ) (ms : List (List ℕ × Entry B)) (listing : List (Result DirEntry FsError)) → All (λ m. get tree.values (member d m.0) ≡ Some m.1) ms → AllZip (IsEntryOf part bytes) ms listing
      → AllZip (IsShown part d (resources_by bytes tree)) (map (λ m. m.0) ms) listing
  shown-all part [] [] here is = is
  shown-all part [] (x ∷ listing) here is = is
  shown-all part (m ∷ ms) [] here is = is
  shown-all part (m ∷ ms) (x ∷ listing) here is = (shown_one part m x (All-head (λ m. get tree.values (member d m.0) ≡ Some m.1) m ms here) is.0, shown-all part ms listing (All-tail (λ m. get tree.values (member d m.0) ≡ Some m.1) m ms here) is.1)

  -- all members are listed
  pub listed : (part : Option ℕ) (ms : List (List ℕ × Entry B)) (listing : List (Result DirEntry FsError)) → map (λ m. m.0) ms ≡ keyed.names_among (keys tree.values) d → All (λ m. get tree.values (member d m.0) ≡ Some m.1) ms
      → AllZip (IsEntryOf part bytes) ms listing → IsListing part d (resources_by bytes tree) listing
  listed part ms listing names here is = subst (λ ns. AllZip (IsShown part d (resources_by bytes tree)) ns listing) (names ∙ names-members) (shown-all part ms listing here is)

-- one more member is listed
pub listed-more : {B : Type 0} (part : Option ℕ) (bytes : B → List ℕ) (done : List (List ℕ × Entry B)) (listing new : List (Result DirEntry FsError)) (m : List ℕ × Entry B) (entry : DirEntry)
    → AllZip (IsEntryOf part bytes) done listing → entry.name ≡ m.0 → entry.meta ≡ meta_of part (stored_by bytes m.1) → new ≡ listing ++ Ok entry ∷ [] → AllZip (IsEntryOf part bytes) (done ++ m ∷ []) new
listed-more part bytes done listing new m entry shown named recorded is =
    subst (AllZip (IsEntryOf part bytes) (done ++ m ∷ [])) (sym is) (all_zipped_more (IsEntryOf part bytes) done listing m (Ok entry) shown (named, recorded))

pub left-more : {A : Type 0} (done rest all : List A) (a : A) → done ++ a ∷ rest ≡ all → (done ++ a ∷ []) ++ rest ≡ all
left-more done rest all a is = append_assoc done (a ∷ []) rest ∙ is

pub none-left : {A : Type 0} (done all : List A) → done ++ [] ≡ all → done ≡ all
none-left done all is = sym (append-nil done) ∙ is

pub all-at : {A : Type 0} (P : A → Type 0) (done rest all : List A) (a : A) → done ++ a ∷ rest ≡ all → All P all → P a
all-at {A} P done rest all a is h = found done (subst (λ xs. All P xs) (sym is) h)
  where
    found : (done : List A) → All P (done ++ a ∷ rest) → P a
    found [] h = All-head P a rest h
    found (x ∷ done) h = found done (All-tail P x (done ++ a ∷ rest) h)

-- a member of a directory has this value
abbrev pub IsMemberAt : {B : Type 0} → FinMap key_cmp (Entry B) → Key → List ℕ × Entry B → Type 0
IsMemberAt values d m = get values (member d m.0) ≡ Some m.1
