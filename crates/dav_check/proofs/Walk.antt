-- The course of a check: what is known of the files so far.
use Rattle.std.proofs.Common.{◌≡◌, ◌≢◌, ◌∙◌, ◌⊎◌, ℕ, Bool, true, false, List, [], ◌∷◌, ◌++◌, Option, None, Some, length, refl, sym, ap, subst, inl, inr, append_assoc, append-nil, Vec, Global}
use Rattle.std.specs.FinMap.{get}
use Rattle.dav_key.specs.Key.{Key}
use Rattle.dav_resource.specs.PathText.{PathValue}
use Rattle.dav_resource.specs.declared.meta.Meta.{Meta}
use Rattle.dav_store.specs.Store.{Store, Contents, Node, File, Directory, IsWellFormed, MetaFits}
use Rattle.dav_store.specs.Calls.{Reads, bytes_at}
use Rattle.dav_store.specs.Members.{IsIn, member}
use Rattle.dav_store.specs.MemberLaws.{parent-member, there_members}
use Rattle.dav_check.specs.Reading.{IsRead, IsReadBelow, WasRefused}
use Rattle.dav_check.specs.Pending.{AddsMembers, AreThere, key_of}
use Rattle.dav_check.specs.Checking.{IsFile, IsNamed, CountsFile, NamesFile, ChecksFile}
use Rattle.dav_check.specs.declared.checking.Checked.{Checked}
use Rattle.dav_check.specs.declared.pending.Pending.{Pending}
use Rattle.dav_check.proofs.Lists.{in_left, in_right, in_either}

-- the key is at or below one that waits
abbrev pub IsAwaited : List Pending → Key → Type 0
IsAwaited waiting key = (p : Pending) × IsIn p waiting × (below : Key) × (key ≡ key_of p ++ below)

-- each file is named, was read, or is at or below a resource that waits
pub record IsUnderway {F : Type 0} (seen : F → Store) (reads : F → Reads) (contents : Contents) (waiting : List Pending) (checked : Checked) : Type 0 where
  pub there : AreThere contents waiting
  pub files : (path : PathValue) → IsIn path checked.damaged.items → IsFile contents path.key
  pub refused : (path : PathValue) → IsIn path checked.damaged.items → WasRefused seen reads contents path.key
  pub read : (key : Key) → IsFile contents key → (IsNamed checked key ⊎ IsRead seen reads contents key) ⊎ IsAwaited waiting key

-- ---- what exists

pub member_below : (key : Key) (name : List ℕ) (below : Key) → member key name ++ below ≡ key ++ name ∷ below
member_below key name below = append_assoc key (name ∷ []) below

module _ (contents : Contents) (formed : IsWellFormed contents) where
  pub stands_above : (key below : Key) → get contents.tree (key ++ below) ≢ None → get contents.tree key ≢ None
  stands_above key [] stands = subst (λ k. get contents.tree k ≢ None) (append-nil key) stands
  stands_above key (name ∷ below) stands = λ none.
      let there = stands_above (member key name) below (subst (λ k. get contents.tree k ≢ None) (sym (member_below key name below)) stands) in
      let no : None ≡ Some Directory = sym none ∙ subst (λ k. get contents.tree k ≡ Some Directory) (parent-member key name) (formed.parents (member key name) there) in
      cc

  pub directory_above : (key below : Key) (name : List ℕ) → get contents.tree (key ++ name ∷ below) ≢ None → get contents.tree key ≡ Some Directory
  directory_above key below name stands =
      subst (λ k. get contents.tree k ≡ Some Directory) (parent-member key name)
      (formed.parents (member key name) (stands_above (member key name) below (subst (λ k. get contents.tree k ≢ None) (sym (member_below key name below)) stands)))

pub file_stands : (contents : Contents) (key : Key) → IsFile contents key → get contents.tree key ≢ None
file_stands contents key (bytes, is) none = let no : Some (File bytes) ≡ None = sym is ∙ none in cc

-- the metadata says whether it is a directory
pub directory_by : (node : Option Node) (known : Option Meta) (meta : Meta) → MetaFits node known → known ≡ Some meta → meta.dir ≡ true → node ≡ Some Directory
directory_by None known meta fits is dir = let no : None ≡ Some meta = sym fits ∙ is in absurd cc
directory_by (Some node) None meta fits is dir = absurd fits
directory_by (Some Directory) (Some m) meta fits is dir = refl
directory_by (Some (File bytes)) (Some m) meta fits is dir = let same : m ≡ meta = cc in let no : false ≡ true = sym fits.0 ∙ ap (λ (d : Meta). d.dir) same ∙ dir in absurd cc

pub file_by : (node : Option Node) (known : Option Meta) (meta : Meta) → MetaFits node known → known ≡ Some meta → meta.dir ≡ false → (bytes : List ℕ) × (node ≡ Some (File bytes)) × (meta.len ≡ length bytes)
file_by None known meta fits is dir = let no : None ≡ Some meta = sym fits ∙ is in absurd cc
file_by (Some node) None meta fits is dir = absurd fits
file_by (Some Directory) (Some m) meta fits is dir = let same : m ≡ meta = cc in let no : true ≡ false = sym fits.0 ∙ ap (λ (d : Meta). d.dir) same ∙ dir in absurd cc
file_by (Some (File bytes)) (Some m) meta fits is dir = let same : m ≡ meta = cc in (bytes, refl, ap (λ (d : Meta). d.len) (sym same) ∙ fits.1)

-- ---- the begin and the end

module _ {F : Type 0} (seen : F → Store) (reads : F → Reads) (contents : Contents) where
  -- at first the root waits
  pub begins : (waiting : List Pending) (checked : Checked) (path : PathValue) (meta : Meta) → waiting ≡ (record { path = path; meta = meta }) ∷ [] → path.key ≡ [] → contents.metas path.key ≡ Some meta → checked.damaged.items ≡ [] → IsUnderway seen reads contents waiting checked
  begins waiting checked path meta is root at none = record {
    there = λ p i. only p (subst (λ ps. IsIn p ps) is i);
    files = λ p i. absurd (subst (λ ps. IsIn p ps) none i);
    refused = λ p i. absurd (subst (λ ps. IsIn p ps) none i);
    read = λ key file. inr (first, subst (λ ps. IsIn first ps) (sym is) (inl refl), key, ap (λ k. k ++ key) (sym root));
  }
    where
      first : Pending
      first = record { path = path; meta = meta }

      only : (p : Pending) → IsIn p ((record { path = path; meta = meta }) ∷ []) → contents.metas (key_of p) ≡ Some p.meta
      only p (inl e) = subst (λ (q : Pending). contents.metas (key_of q) ≡ Some q.meta) e at
      only p (inr i) = absurd i

  -- at last nothing waits
  pub ends : (waiting : List Pending) (checked : Checked) → waiting ≡ [] → IsUnderway seen reads contents waiting checked → (key : Key) → IsFile contents key → IsNamed checked key ⊎ IsRead seen reads contents key
  ends waiting checked none underway key file = which (underway.read key file)
    where
      which : (IsNamed checked key ⊎ IsRead seen reads contents key) ⊎ IsAwaited waiting key → IsNamed checked key ⊎ IsRead seen reads contents key
      which (inl done) = done
      which (inr (p, inside, below, is)) = absurd (subst (λ ps. IsIn p ps) none inside)

  -- ---- one resource more

  module _ (formed : IsWellFormed contents) (waiting rest : List Pending) (next : Pending) (checked : Checked) (last : waiting ≡ rest ++ next ∷ []) (underway : IsUnderway seen reads contents waiting checked) where
    pub next_there : contents.metas (key_of next) ≡ Some next.meta
    next_there = underway.there next (subst (λ ps. IsIn next ps) (sym last) (in_right next rest (next ∷ []) (inl refl)))

    rest_there : AreThere contents rest
    rest_there p i = underway.there p (subst (λ ps. IsIn p ps) (sym last) (in_left p rest (next ∷ []) i))

    -- it is at or below one of the others, or at or below the next one
    pub awaited : (key : Key) → IsAwaited waiting key → IsAwaited rest key ⊎ ((below : Key) × (key ≡ key_of next ++ below))
    awaited key (p, inside, below, is) = which (in_either p rest (next ∷ []) (subst (λ ps. IsIn p ps) last inside))
      where
        which : IsIn p rest ⊎ IsIn p (next ∷ []) → IsAwaited rest key ⊎ ((below : Key) × (key ≡ key_of next ++ below))
        which (inl i) = inl (p, i, below, is)
        which (inr (inl e)) = inr (below, is ∙ ap (λ (q : Pending). key_of q ++ below) (sym e))
        which (inr (inr i)) = absurd i

    -- a directory's members wait after it
    module _ (after : List Pending) (dir : next.meta.dir ≡ true) (adds : AddsMembers contents (key_of next) rest after) where
      is_directory : get contents.tree (key_of next) ≡ Some Directory
      is_directory = directory_by (get contents.tree (key_of next)) (contents.metas (key_of next)) next.meta (formed.metas (key_of next)) next_there dir

      by_member : (key below : Key) (name : List ℕ) → key ≡ key_of next ++ name ∷ below → (p : Pending) × IsIn p adds.added × (key_of p ≡ member (key_of next) name) → IsAwaited after key
      by_member key below name is (p, inside, at) =
          (p, subst (λ ps. IsIn p ps) (sym adds.behind) (in_right p rest adds.added inside), below, is ∙ sym (member_below (key_of next) name below) ∙ ap (λ k. k ++ below) (sym at))

      at_below : (key below : Key) → IsFile contents key → key ≡ key_of next ++ below → IsAwaited after key
      at_below key [] (bytes, file) is =
          let same : key ≡ key_of next = is ∙ append-nil (key_of next) in
          let no : Some (File bytes) ≡ Some Directory = sym file ∙ ap (λ k. get contents.tree k) same ∙ is_directory in
          absurd cc
      at_below key (name ∷ below) file is =
          let stands : get contents.tree (member (key_of next) name ++ below) ≢ None = subst (λ k. get contents.tree k ≢ None) (is ∙ sym (member_below (key_of next) name below)) (file_stands contents key file) in
          by_member key below name is (adds.each name (there_members contents.tree (key_of next) name (stands_above contents formed (member (key_of next) name) below stands)))

      still : (key : Key) → IsFile contents key → IsAwaited rest key ⊎ ((below : Key) × (key ≡ key_of next ++ below)) → IsAwaited after key
      still key file (inl (p, inside, below, is)) = (p, subst (λ ps. IsIn p ps) (sym adds.behind) (in_left p rest adds.added inside), below, is)
      still key file (inr (below, is)) = at_below key below file is

      pub awaits_on : (key : Key) → IsFile contents key → IsAwaited waiting key → IsAwaited after key
      awaits_on key file waits = still key file (awaited key waits)

      pub lists : IsUnderway seen reads contents after checked
      lists = record {
        there = λ p i. which_there p (in_either p rest adds.added (subst (λ ps. IsIn p ps) adds.behind i));
        files = underway.files;
        refused = underway.refused;
        read = λ key file. which_read key file (underway.read key file);
      }
        where
          which_there : (p : Pending) → IsIn p rest ⊎ IsIn p adds.added → contents.metas (key_of p) ≡ Some p.meta
          which_there p (inl i) = rest_there p i
          which_there p (inr i) = adds.there p i

          which_read : (key : Key) → IsFile contents key → (IsNamed checked key ⊎ IsRead seen reads contents key) ⊎ IsAwaited waiting key → (IsNamed checked key ⊎ IsRead seen reads contents key) ⊎ IsAwaited after key
          which_read key file (inl done) = inl done
          which_read key file (inr waits) = inr (awaits_on key file waits)

    -- a file was read or is named after it
    module _ (later : Checked) (dir : next.meta.dir ≡ false) where
      file : (bytes : List ℕ) × (get contents.tree (key_of next) ≡ Some (File bytes)) × (next.meta.len ≡ length bytes)
      file = file_by (get contents.tree (key_of next)) (contents.metas (key_of next)) next.meta (formed.metas (key_of next)) next_there dir

      nothing_below : (below : Key) (name : List ℕ) → get contents.tree (key_of next ++ name ∷ below) ≢ None → ⊥
      nothing_below below name stands = let no : Some (File file.0) ≡ Some Directory = sym file.1 ∙ directory_above contents formed (key_of next) below name stands in cc

      goes_on : (IsNamed later (key_of next) ⊎ IsRead seen reads contents (key_of next)) → ((key : Key) → IsNamed checked key → IsNamed later key)
          → ((path : PathValue) → IsIn path later.damaged.items → IsFile contents path.key) → ((path : PathValue) → IsIn path later.damaged.items → WasRefused seen reads contents path.key)
          → IsUnderway seen reads contents rest later
      goes_on done kept files refused = record {
        there = rest_there;
        files = files;
        refused = refused;
        read = λ key is_file. which key is_file (underway.read key is_file);
      }
        where
          at_below : (key below : Key) → IsFile contents key → key ≡ key_of next ++ below → IsNamed later key ⊎ IsRead seen reads contents key
          at_below key [] is_file is = subst (λ k. IsNamed later k ⊎ IsRead seen reads contents k) (sym (is ∙ append-nil (key_of next))) done
          at_below key (name ∷ below) is_file is = absurd (nothing_below below name (subst (λ k. get contents.tree k ≢ None) is (file_stands contents key is_file)))

          still : (key : Key) → IsFile contents key → IsAwaited rest key ⊎ ((below : Key) × (key ≡ key_of next ++ below)) → (IsNamed later key ⊎ IsRead seen reads contents key) ⊎ IsAwaited rest key
          still key is_file (inl waits) = inr waits
          still key is_file (inr (below, is)) = inl (at_below key below is_file is)

          which : (key : Key) → IsFile contents key → (IsNamed checked key ⊎ IsRead seen reads contents key) ⊎ IsAwaited waiting key → (IsNamed later key ⊎ IsRead seen reads contents key) ⊎ IsAwaited rest key
          which key is_file (inl (inl named)) = inl (inl (kept key named))
          which key is_file (inl (inr was_read)) = inl (inr was_read)
          which key is_file (inr waits) = still key is_file (awaited key waits)

      pub checks : ChecksFile seen reads contents next checked later → IsUnderway seen reads contents rest later
      checks one = which one.outcome
        where
          which : (IsReadBelow seen reads contents next.path.key next.meta.len × CountsFile next checked later) ⊎ (WasRefused seen reads contents next.path.key × NamesFile next checked later) → IsUnderway seen reads contents rest later
          which (inl (was_read, counts)) =
              goes_on (inr (subst (IsReadBelow seen reads contents (key_of next)) (file.2 ∙ ap (λ n. length (bytes_at n)) (sym file.1)) was_read))
              (λ key named. (named.0, subst (λ ds. IsIn named.0 ds) (sym (ap (λ (v : Vec PathValue Global). v.items) counts.damaged)) named.1, named.2))
              (λ path i. underway.files path (subst (λ ds. IsIn path ds) (ap (λ (v : Vec PathValue Global). v.items) counts.damaged) i))
              (λ path i. underway.refused path (subst (λ ds. IsIn path ds) (ap (λ (v : Vec PathValue Global). v.items) counts.damaged) i))
          which (inr (was_refused, names)) =
              goes_on (inl (next.path, subst (λ ds. IsIn next.path ds) (sym names.damaged) (in_right next.path checked.damaged.items (next.path ∷ []) (inl refl)), refl))
              (λ key named. (named.0, subst (λ ds. IsIn named.0 ds) (sym names.damaged) (in_left named.0 checked.damaged.items (next.path ∷ []) named.1), named.2))
              (λ path i. which_file path (in_either path checked.damaged.items (next.path ∷ []) (subst (λ ds. IsIn path ds) names.damaged i)))
              (λ path i. which_refused path (in_either path checked.damaged.items (next.path ∷ []) (subst (λ ds. IsIn path ds) names.damaged i)))
            where
              which_file : (path : PathValue) → IsIn path checked.damaged.items ⊎ IsIn path (next.path ∷ []) → IsFile contents path.key
              which_file path (inl i) = underway.files path i
              which_file path (inr (inl e)) = subst (λ (p : PathValue). IsFile contents p.key) e (file.0, file.1)
              which_file path (inr (inr i)) = absurd i

              which_refused : (path : PathValue) → IsIn path checked.damaged.items ⊎ IsIn path (next.path ∷ []) → WasRefused seen reads contents path.key
              which_refused path (inl i) = underway.refused path i
              which_refused path (inr (inl e)) = subst (λ (p : PathValue). WasRefused seen reads contents p.key) e was_refused
              which_refused path (inr (inr i)) = absurd i
