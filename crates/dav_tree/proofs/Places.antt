-- What lookups say of what is kept.
use Rattle.std.proofs.Common.{◌≡◌, ◌≢◌, ◌∙◌, ℕ, Bool, true, false, List, [], ◌∷◌, ◌++◌, not, Option, Some, None, refl, sym, ap, subst, is_some}
use Rattle.std.specs.Prelude.{IsSome}
use Rattle.std.specs.FinMap.{get}
use Rattle.dav_key.specs.Key.{Key, parent}
use Rattle.dav_store.specs.Store.{File, Directory}
use Rattle.dav_store.specs.Calls.{bytes_at}
use Rattle.dav_store.specs.Members.{members}
use Rattle.dav_tree.specs.Memory.{Stored, Resources, tree_of, is_directory, IsSound}
use Rattle.dav_tree.specs.Lawful.{get-tree}
use Rattle.dav_tree.specs.Found.{Finds, IsDirectoryAt, directory_in}
use Rattle.dav_tree.specs.Kept.{Kept, IsAt, IsNumber, IsFileNumber, IsAbsent, IsFound}
use Rattle.dav_tree.specs.declared.entries.Place.{Place}
use Rattle.dav_tree.proofs.Answering.{nothing_kept}
use Rattle.dav_tree.proofs.Rows.{file_at, directory_at, missing_no_directory}
use Rattle.dav_tree.proofs.Sound.{file_alone, alone_from}

-- ---- after a lookup everything is as it was

module _ (key : Key) (e0 e1 : Kept) (same : e1 ≡ e0) where
  module _ (number : ℕ) (directory : Bool) (found : IsFound e0 key number directory) where
    pub at-again : IsAt e1 key number found.stored
    at-again = subst (λ (k : Kept). IsAt k key number found.stored) (sym same) found.at

    pub number-again : IsNumber e1 number
    number-again = (key, found.stored, at-again)

    pub file-again : directory ≡ false → IsFileNumber e1 number
    file-again file = (key, found.stored, at-again, sym found.kind ∙ file)

  pub absent-again : IsAbsent e0 key → IsAbsent e1 key
  absent-again absent = subst (λ (k : Kept). IsAbsent k key) (sym same) absent

  pub finds-again : (found : Option Place) → Finds e0 key found → Finds e1 key found
  finds-again found is = subst (λ (k : Kept). Finds k key found) (sym same) is

-- ---- what is known of a key that was looked up by another name

module _ (e0 e1 : Kept) (same : e1 ≡ e0) (key at : Key) (is : at ≡ key) where
  pub missing-key : IsAbsent e0 at → get e0.resources key ≡ None
  missing-key absent = ap (get e0.resources) (sym is) ∙ absent.missing

  pub found-key : (number : ℕ) (directory : Bool) (found : IsFound e0 at number directory) → get e0.resources key ≡ Some found.stored
  found-key number directory found = ap (get e0.resources) (sym is) ∙ found.at.there

  pub at-key : (number : ℕ) (s : Stored) → IsAt e0 at number s → IsAt e1 key number s
  at-key number s there = record {
    there = (λ i. get (same i).resources (sym is i)) ∙ there.there;
    numbered = (λ i. get (same i).numbers (sym is i)) ∙ there.numbered;
  }

  pub directory-above : (number : ℕ) → IsDirectoryAt e1 (parent at) number → get (tree_of e0.resources) (parent key) ≡ Some Directory
  directory-above number found = sym (λ i. get (tree_of (same i).resources) (parent (is i))) ∙ found.directory

  pub number-above : (number : ℕ) → IsDirectoryAt e1 (parent at) number → get e1.numbers (parent key) ≡ Some number
  number-above number found = ap (λ k. get e1.numbers (parent k)) (sym is) ∙ found.numbered

  pub no-directory-above : get (tree_of e1.resources) (parent at) ≢ Some Directory → get (tree_of e0.resources) (parent key) ≢ Some Directory
  no-directory-above none there = none ((λ i. get (tree_of (same i).resources) (parent (is i))) ∙ there)

  pub finds-some : (found : Option Place) → Finds e1 at found → is_some (get e0.resources key) ≡ is_some found
  finds-some None f = ap is_some (sym (λ i. get (same i).resources (is i)) ∙ f.missing)
  finds-some (Some place) f = ap is_some (sym (λ i. get (same i).resources (is i)) ∙ f.at.there)

  pub directory-key : (found : Option Place) → Finds e1 at found → directory_in found ≡ true → get (tree_of e0.resources) key ≡ Some Directory
  directory-key None f d = absurd cc
  directory-key (Some place) f d = sym (λ i. get (tree_of (same i).resources) (is i)) ∙ directory_at e1.resources at f.stored f.at.there (sym f.kind ∙ d)

  pub no-directory-key : (found : Option Place) → Finds e1 at found → directory_in found ≡ false → get (tree_of e0.resources) key ≢ Some Directory
  no-directory-key None f d there = missing_no_directory e1.resources at f.missing ((λ i. get (tree_of (same i).resources) (is i)) ∙ there)
  no-directory-key (Some place) f d there =
      let clash : Some (File (bytes_at (Some f.stored.node))) ≡ Some Directory = sym (file_at e1.resources at f.stored f.at.there (sym f.kind ∙ d)) ∙ (λ i. get (tree_of (same i).resources) (is i)) ∙ there in cc

-- ---- what is found

module _ (e : Kept) (key : Key) where
  pub absent-of : (found : Option Place) → Finds e key found → is_some found ≡ false → IsAbsent e key
  absent-of None is none = is
  absent-of (Some place) is none = absurd cc

  pub found-of : (found : Option Place) → Finds e key found → is_some found ≡ true → (place : Place) × IsFound e key place.number place.directory
  found-of None is some = absurd cc
  found-of (Some place) is some = (place, is)

  pub some-number : (number : ℕ) → get e.numbers key ≡ Some number → IsSome (get e.numbers key)
  some-number number is = subst (λ (o : Option ℕ). IsSome o) (sym is) refl

  -- the place of a directory, or of nothing else
  pub directory-at : (number : ℕ) (directory : Bool) → IsFound e key number directory → directory ≡ true → IsDirectoryAt e key number
  directory-at number directory found is =
      record { directory = directory_at e.resources key found.stored found.at.there (sym found.kind ∙ is); numbered = found.at.numbered }

  pub no-directory-at : (number : ℕ) (directory : Bool) → IsFound e key number directory → directory ≡ false → get (tree_of e.resources) key ≢ Some Directory
  no-directory-at number directory found is there =
      let clash : Some (File (bytes_at (Some found.stored.node))) ≡ Some Directory = sym (file_at e.resources key found.stored found.at.there (sym found.kind ∙ is)) ∙ there in cc

  pub nothing-at : IsAbsent e key → get (tree_of e.resources) key ≢ Some Directory
  nothing-at absent = missing_no_directory e.resources key absent.missing

-- ---- files and their members

module _ (resources : Resources) (key : Key) (sound : IsSound resources) where
  -- a file is not the root
  pub file-below : (s : Stored) → get resources key ≡ Some s → is_directory s.node ≡ false → key ≢ []
  file-below s here file root =
      let clash : Some (File (bytes_at (Some s.node))) ≡ Some Directory = sym (file_at resources key s here file) ∙ ap (get (tree_of resources)) root ∙ sound.root in cc

  -- a file has no members
  pub file-childless : (s : Stored) → get resources key ≡ Some s → is_directory s.node ≡ false → (name : List ℕ) → get resources (key ++ name ∷ []) ≡ None
  file-childless s here file name =
      nothing_kept (get resources (key ++ name ∷ [])) (sym (get-tree resources (key ++ name ∷ [])) ∙ file_alone resources key (bytes_at (Some s.node)) sound (file_at resources key s here file) name)

-- a directory without members has none
pub directory-childless : (resources : Resources) (key : Key) → members (tree_of resources) key ≡ [] → (name : List ℕ) → get resources (key ++ name ∷ []) ≡ None
directory-childless resources key none name =
    nothing_kept (get resources (key ++ name ∷ [])) (sym (get-tree resources (key ++ name ∷ [])) ∙ alone_from (tree_of resources) key none name)

-- ---- tests

pub not-true : (b : Bool) → not b ≡ true → b ≡ false
not-true true e = absurd cc
not-true false e = refl

pub not-false : (b : Bool) → not b ≡ false → b ≡ true
not-false true e = refl
not-false false e = absurd cc
