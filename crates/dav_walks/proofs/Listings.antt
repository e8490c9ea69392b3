-- What a listing shows, and the calls that stand for what it doesn't.
use Rattle.std.proofs.Common.{◌≡◌, ◌≢◌, ◌⊎◌, ℕ, Bool, true, false, cond, List, [], ◌∷◌, ◌++◌, Option, None, Some, Result, Ok, Err, map, refl, sym, ap, ◌∙◌, subst, inl, inr, append_assoc, bytes_eq}
use Rattle.std.specs.Prelude.{filter_map}
use Rattle.std.specs.FinMap.{get}
use Rattle.std.proofs.lemmas.List.{map-append}
use Rattle.std.proofs.lemmas.Slice.Eq.{bytes_eq-Decides}
use mathlib.Core.Path.{fun_ext}
use Rattle.dav_key.specs.Key.{Key}
use Rattle.dav_resource.specs.PathText.{PathValue, IsKey, IsSegment}
use Rattle.dav_resource.specs.Errors.{fs_status}
use Rattle.dav_resource.specs.declared.meta.DirEntry.{DirEntry}
use Rattle.dav_resource.specs.declared.meta.Meta.{Meta}
use Rattle.dav_resource.specs.declared.record.Op.TheVariants.{ReadDir, Entry}
use Rattle.dav_resource.specs.declared.record.Outcome.TheVariants.{Granted, Barred, Refused}
use Rattle.dav_resource.specs.declared.error.FsError.{FsError}
use Rattle.dav_resource.specs.declared.error.FsError.TheVariants.{Forbidden}
use Rattle.dav_store.specs.Logged.{Logged}
use Rattle.dav_store.specs.Store.{Contents, Node, File, Directory, IsWellFormed, MetaFits}
use Rattle.dav_store.specs.Members.{IsIn, AreDistinct, member, Child, names_of, AreChildren, unseen_record, remove_dir_bar}
use Rattle.dav_store.specs.MemberLaws.{AreDistinct-permuted, IsIn-permuted, IsIn-unpermuted, members_distinct, members_there, there_members}
use Rattle.dav_messages.specs.Multistatus.{Item}
use Rattle.dav_walks.specs.KeyCall.{KeyCall, logged_call, same_key, calls_at}
use Rattle.dav_walks.specs.Deletion.{Calls, Subtree, path_at, named_in}
use Rattle.dav_walks.specs.Trace.{HasKind, Walked, IsKept}
use Rattle.dav_walks.proofs.Keys.{same_key_itself, other_key, parent-child, IsIn-right, calls_at-none}
use Rattle.dav_walks.proofs.Single.{call_on, same_head, node_of}

-- what a listing shows
abbrev pub Shown : Type 0
Shown = Result DirEntry FsError

-- the name of a member that wasn't shown
abbrev pub unseen_name : PathValue → Key → Child → Option Item
unseen_name path k (n, Ok entry) = None
unseen_name path k (n, Err error) = Some (path_at path true k, fs_status error)

-- and the call that stands for it
abbrev pub unseen_call : Key → Child → Option KeyCall
unseen_call k (n, Ok entry) = None
unseen_call k (n, Err error) = Some (call_on (member k n) Entry (Refused error))

abbrev pub AllShown : List Child → Type 0
AllShown seen = (n : List ℕ) (error : FsError) → IsIn {X = Child} (n, Err error) seen → ⊥

abbrev pub SomeUnseen : List Child → Type 0
SomeUnseen seen = (n : List ℕ) × (error : FsError) × IsIn {X = Child} (n, Err error) seen

-- what holds of a tree's part and its calls holds of parts and calls that answer alike
pub same_look : {o n o' n' : Subtree} {c c' : Calls} (P : Subtree → Subtree → Calls → Type 0) → P o n c → ((x : Key) → o' x ≡ o x) → ((x : Key) → n' x ≡ n x) → ((x : Key) → c' x ≡ c x) → P o' n' c'
same_look {o} {n} {o'} {n'} {c} {c'} P w old new calls =
    subst (λ (f : Subtree). P f n' c') (sym (fun_ext old)) (subst (λ (f : Subtree). P o f c') (sym (fun_ext new)) (subst (λ (f : Calls). P o n f) (sym (fun_ext calls)) w))

pub same_walk : {o n o' n' : Subtree} {c c' : Calls} → Walked o n c → ((x : Key) → o' x ≡ o x) → ((x : Key) → n' x ≡ n x) → ((x : Key) → c' x ≡ c x) → Walked o' n' c'
same_walk = same_look Walked

-- what stands afterwards stood before
pub shrinks : {old new : Contents} → IsKept old new → (q : Key) → get new.tree q ≢ None → get old.tree q ≢ None
shrinks is_kept q there none = there (node_of (is_kept.there q there) ∙ none)

-- ---- a listing's members

pub IsIn-name : (c : Child) (cs : List Child) → IsIn c cs → IsIn c.0 (names_of cs)
IsIn-name c [] i = i
IsIn-name c (d ∷ cs) (inl p) = inl (ap (λ (e : Child). e.0) p)
IsIn-name c (d ∷ cs) (inr i) = inr (IsIn-name c cs i)

name_or : (a b : List ℕ) → (a ≡ b) ⊎ (a ≢ b)
name_or a b = go (bytes_eq a b) refl
  where
    go : (t : Bool) → bytes_eq a b ≡ t → (a ≡ b) ⊎ (a ≢ b)
    go true e = inl ((bytes_eq-Decides a b).0 e)
    go false e = inr (λ p. let q : true ≡ false = sym ((bytes_eq-Decides a b).1 p) ∙ e in cc)

-- a member of that name, or none
pub find_child : (cs : List Child) (n : List ℕ) → ((s : Shown) × IsIn {X = Child} (n, s) cs) ⊎ (IsIn n (names_of cs) → ⊥)
find_child [] n = inr (λ i. i)
find_child (c ∷ cs) n = go (name_or c.0 n) (find_child cs n)
  where
    go : (c.0 ≡ n) ⊎ (c.0 ≢ n) → ((s : Shown) × IsIn {X = Child} (n, s) cs) ⊎ (IsIn n (names_of cs) → ⊥)
        → ((s : Shown) × IsIn {X = Child} (n, s) (c ∷ cs)) ⊎ (IsIn n (names_of (c ∷ cs)) → ⊥)
    go (inl p) rest = inl (c.1, inl (ap (λ (m : List ℕ). (m, c.1)) p))
    go (inr apart) (inl found) = inl (found.0, inr found.1)
    go (inr apart) (inr unnamed) = inr (elim [ inl p ↦ apart p | inr i ↦ unnamed i ])

-- a name stands for one member
pub one_child : (cs : List Child) → AreDistinct (names_of cs) → (n : List ℕ) (s t : Shown) → IsIn {X = Child} (n, s) cs → IsIn {X = Child} (n, t) cs → s ≡ t
one_child [] once n s t i j = absurd i
one_child (c ∷ cs) once n s t (inl p) (inl q) = ap (λ (e : Child). e.1) (sym p ∙ q)
one_child (c ∷ cs) once n s t (inl p) (inr j) = absurd (once.0 (subst (λ m. IsIn m (names_of cs)) (sym (ap (λ (e : Child). e.0) p)) (IsIn-name (n, t) cs j)))
one_child (c ∷ cs) once n s t (inr i) (inl q) = absurd (once.0 (subst (λ m. IsIn m (names_of cs)) (sym (ap (λ (e : Child). e.0) q)) (IsIn-name (n, s) cs i)))
one_child (c ∷ cs) once n s t (inr i) (inr j) = one_child cs once.1 n s t i j

pub new_name : (seen rest : List Child) (c : Child) → AreDistinct (names_of (seen ++ c ∷ rest)) → IsIn c.0 (names_of seen) → ⊥
new_name [] rest c once i = i
new_name (d ∷ seen) rest c once (inl p) = once.0 (subst (λ m. IsIn m (names_of (seen ++ c ∷ rest))) (sym p) (IsIn-name c (seen ++ c ∷ rest) (IsIn-right c seen (c ∷ rest) (inl refl))))
new_name (d ∷ seen) rest c once (inr i) = new_name seen rest c once.1 i

-- the metadata says of what kind it is
pub kind_of_meta : (it : Option Node) (known : Option Meta) (meta : Meta) → MetaFits it known → known ≡ Some meta → HasKind meta.dir it
kind_of_meta None known meta fits is = let p : None ≡ Some meta = sym fits ∙ is in absurd (cc)
kind_of_meta (Some it) None meta fits is = absurd fits
kind_of_meta (Some Directory) (Some m) meta fits is = let same : m ≡ meta = cc in subst (λ b. HasKind b (Some Directory)) (sym fits.0 ∙ ap (λ (d : Meta). d.dir) same) refl
kind_of_meta (Some (File bytes)) (Some m) meta fits is = let same : m ≡ meta = cc in subst (λ b. HasKind b (Some (File bytes))) (sym fits.0 ∙ ap (λ (d : Meta). d.dir) same) (bytes, refl)

last_segment : (k : Key) (n : List ℕ) → IsKey (member k n) → IsSegment n
last_segment [] n is = is.0
last_segment (s ∷ k) n is = last_segment k n is.1

module _ {shows : Key → Bool} (old : Contents) (k : Key) (cs : List Child) (are : AreChildren shows old k cs) where
  pub children_once : AreDistinct (names_of cs)
  children_once = AreDistinct-permuted _ _ are.each_once (members_distinct old.tree k)

  pub children_all : (n : List ℕ) → get old.tree (member k n) ≢ None → IsIn n (names_of cs)
  children_all n there = IsIn-permuted _ _ n are.each_once (there_members old.tree k n there)

  pub children_there : (n : List ℕ) → IsIn n (names_of cs) → get old.tree (member k n) ≢ None
  children_there n i = members_there old.tree k n (IsIn-unpermuted _ _ n are.each_once i)

  module _ (formed : IsWellFormed old) where
    pub child_kind : (n : List ℕ) (entry : DirEntry) → IsIn {X = Child} (n, Ok entry) cs → HasKind entry.meta.dir (get old.tree (member k n))
    child_kind n entry i = kind_of_meta _ (old.metas (member k n)) entry.meta (formed.metas (member k n)) (are.shown (n, Ok entry) i).1

    pub child_segment : (n : List ℕ) (s : Shown) → IsIn {X = Child} (n, s) cs → IsSegment n
    child_segment n s i = last_segment k n (formed.keys (member k n) (children_there n (IsIn-name (n, s) cs i)))

-- the calls of the members that weren't shown
module _ (k : Key) where
  pub unseen_is : (cs : List Child) (r : KeyCall) → IsIn r (filter_map (unseen_call k) cs) → (n : List ℕ) × (error : FsError) × IsIn {X = Child} (n, Err error) cs × (call_on (member k n) Entry (Refused error) ≡ r)
  unseen_is [] r i = absurd i
  unseen_is ((n, Ok entry) ∷ cs) r i = let f = unseen_is cs r i in (f.0, f.1, inr f.2, f.3)
  unseen_is ((n, Err error) ∷ cs) r (inl p) = (n, error, inl refl, p)
  unseen_is ((n, Err error) ∷ cs) r (inr i) = let f = unseen_is cs r i in (f.0, f.1, inr f.2, f.3)

  pub unseen_in : (cs : List Child) (n : List ℕ) (error : FsError) → IsIn {X = Child} (n, Err error) cs → IsIn (call_on (member k n) Entry (Refused error)) (filter_map (unseen_call k) cs)
  unseen_in [] n error i = absurd i
  unseen_in ((m, Ok entry) ∷ cs) n error (inl p) = let q : Ok entry ≡ Err error = ap (λ (e : Child). e.1) p in absurd (cc)
  unseen_in ((m, Ok entry) ∷ cs) n error (inr i) = unseen_in cs n error i
  unseen_in ((m, Err e) ∷ cs) n error (inl p) = let q : Err e ≡ Err error = ap (λ (e : Child). e.1) p in let a : e ≡ error = cc in
      inl (λ i. call_on (member k (p i).0) Entry (Refused (a i)))
  unseen_in ((m, Err e) ∷ cs) n error (inr i) = inr (unseen_in cs n error i)

  -- a member that wasn't shown has that one call
  pub unseen_one : (cs : List Child) → AreDistinct (names_of cs) → (n : List ℕ) (error : FsError) → IsIn {X = Child} (n, Err error) cs → calls_at (filter_map (unseen_call k) cs) (k ++ n ∷ []) ≡ (Entry, Refused error) ∷ []
  unseen_one [] once n error i = absurd i
  unseen_one ((m, Ok entry) ∷ cs) once n error (inl p) = let q : Ok entry ≡ Err error = ap (λ (e : Child). e.1) p in absurd (cc)
  unseen_one ((m, Ok entry) ∷ cs) once n error (inr i) = unseen_one cs once.1 n error i
  unseen_one ((m, Err e) ∷ cs) once n error (inl p) =
      let same : m ≡ n = ap (λ (e : Child). e.0) p in let q : Err e ≡ Err error = ap (λ (e : Child). e.1) p in let alike : e ≡ error = cc in
      let none : calls_at (filter_map (unseen_call k) cs) (k ++ n ∷ []) ≡ [] = calls_at-none _ _ (λ r i a. let f = unseen_is cs r i in once.0 (subst (λ j. IsIn j (names_of cs))
      (same_head k _ _ _ _ (ap (λ (s : KeyCall). s.key) f.3 ∙ a) ∙ sym same) (IsIn-name (f.0, Err f.1) cs f.2))) in
      ap (λ b. cond b ((Entry, Refused e) ∷ calls_at (filter_map (unseen_call k) cs) (k ++ n ∷ [])) (calls_at (filter_map (unseen_call k) cs) (k ++ n ∷ []))) (ap (λ j. same_key (member k j) (member k n)) same ∙ same_key_itself (member k n))
      ∙ (λ i. (Entry, Refused (alike i)) ∷ none i)
  unseen_one ((m, Err e) ∷ cs) once n error (inr i) =
      ap (λ b. cond b ((Entry, Refused e) ∷ calls_at (filter_map (unseen_call k) cs) (k ++ n ∷ [])) (calls_at (filter_map (unseen_call k) cs) (k ++ n ∷ [])))
      (other_key (member k m) (member k n) (λ p. once.0 (subst (λ j. IsIn j (names_of cs)) (sym (same_head k m n [] [] p)) (IsIn-name (n, Err error) cs i))))
      ∙ unseen_one cs once.1 n error i

  pub no_unseen : (cs : List Child) (q : Key) → ((n : List ℕ) (error : FsError) → IsIn {X = Child} (n, Err error) cs → member k n ≢ q) → calls_at (filter_map (unseen_call k) cs) q ≡ []
  no_unseen cs q other = calls_at-none _ q (λ r i p. let f = unseen_is cs r i in other f.0 f.1 f.2 (ap (λ (s : KeyCall). s.key) f.3 ∙ p))

  -- their names are those of the calls
  pub named_unseen : (path : PathValue) (cs : List Child) → named_in path (filter_map (unseen_call k) cs) ≡ filter_map (unseen_name path k) cs
  named_unseen path [] = refl
  named_unseen path ((n, Ok entry) ∷ cs) = named_unseen path cs
  named_unseen path ((n, Err error) ∷ cs) = λ i. (path_at path true (parent-child k n i), fs_status error) ∷ named_unseen path cs i

  -- and their records those of the listing
  pub logged_unseen : (cs : List Child) → map logged_call (filter_map (unseen_call k) cs) ≡ filter_map (unseen_record k) cs
  logged_unseen [] = refl
  logged_unseen ((n, Ok entry) ∷ cs) = logged_unseen cs
  logged_unseen ((n, Err error) ∷ cs) = λ i. logged_call (call_on (member k n) Entry (Refused error)) ∷ logged_unseen cs i

pub refused_granted : {error : FsError} → Refused error ≡ Granted → ⊥
refused_granted p = cc

pub granted_barred : {A : Type 0} {error : FsError} → Granted ≡ Barred error → A
granted_barred p = cc

pub granted_refused : {A : Type 0} {error : FsError} → Granted ≡ Refused error → A
granted_refused p = cc

pub refused_barred : {A : Type 0} {error f : FsError} → Refused error ≡ Barred f → A
refused_barred p = cc

pub same_refusal : {e f : FsError} → Refused e ≡ Refused f → e ≡ f
same_refusal p = cc

pub different : {C : Type 0} {entry : DirEntry} {error : FsError} → ◌≡◌ {A = Shown} (Ok entry) (Err error) → C
different p = cc

-- all the calls of a directory's walk: its listing, the members that weren't shown, and the rest
abbrev pub listed : Key → List Child → List KeyCall
listed k cs = call_on k ReadDir Granted ∷ filter_map (unseen_call k) cs

-- the log of two parts
pub logs : (before : List Logged) (xs ys : List KeyCall) → (before ++ map logged_call xs) ++ map logged_call ys ≡ before ++ map logged_call (xs ++ ys)
logs before xs ys = append_assoc before _ _ ∙ ap (λ l. before ++ l) (sym (map-append logged_call xs ys))

-- only the root's removal is barred, by its row
abbrev pub IsRootBar : Key → FsError → Type 0
IsRootBar k error = (k ≡ []) × (error ≡ Forbidden)

pub root_bar : (k : Key) (error : FsError) → remove_dir_bar k (Some Directory) [] ≡ Some error → IsRootBar k error
root_bar [] error p = let e : Forbidden ≡ error = cc in (refl, sym e)
root_bar (s ∷ k) error p = absurd (cc)
