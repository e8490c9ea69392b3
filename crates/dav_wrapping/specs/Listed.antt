-- That the members that a store lists have names that may stand in a key.
use Rattle.std.proofs.Common.{◌≡◌, ◌≢◌, ◌∙◌, ℕ, Bool, true, false, cond, Option, Some, None, Result, Ok, Err, refl, sym, ap, subst, inl, inr, List, [], ◌∷◌, ◌<◌, ◌||◌, All, map, filter_map, length, get_or, suc, zero, arith, bytes_eq}
use Rattle.std.specs.Prelude.{IfOk, is_some}
use Rattle.std.specs.List.{list_any, cons_option}
use Rattle.std.specs.Ordering.{eq_by_cmp}
use Rattle.std.specs.FinMap.{get, keys, contains_key, contains_key-keys}
use Rattle.std.proofs.lemmas.List.Elements.{All-cons}
use Rattle.std.proofs.lemmas.List.Sorted.{All-permutation}
use Rattle.dav_key.specs.Key.{Key, key_cmp, tied_decides}
use Rattle.dav_resource.specs.PathText.{IsKey, IsSegment}
use Rattle.dav_resource.specs.declared.meta.DirEntry.{DirEntry}
use Rattle.dav_resource.specs.declared.error.FsError.{FsError}
use Rattle.dav_store.specs.Store.{Store, Tree, IsWellFormed}
use Rattle.dav_store.specs.Members.{Child, IsIn, name_in, members, names_of, IsShownAs, Lists}
use Rattle.dav_wrapping.specs.Hiding.{HaveSegmentNames}

any_at : (test : Key → Bool) (xs : List Key) (k : ℕ) (d : Key) → k < length xs → test (get_or xs k d) ≡ true → list_any test xs ≡ true
any_at test [] k d less e = absurd (omega arith)
any_at test (x ∷ xs) zero d less e = ap (λ b. b || list_any test xs) e
any_at test (x ∷ xs) (suc k) d less e = either (test x) (any_at test xs k d (omega arith) e)
  where
    either : (b : Bool) → list_any test xs ≡ true → (b || list_any test xs) ≡ true
    either true e = refl
    either false e = e

-- something stands at each key of a tree
there : (tree : Tree) → All (λ key. get tree key ≢ None) (keys tree)
there tree k d less none =
    let key = get_or (keys tree) k d in
    let tied : eq_by_cmp key_cmp key key ≡ true = (tied_decides key key).1 refl in
    let some : contains_key tree key ≡ true = contains_key-keys tree key ∙ any_at (eq_by_cmp key_cmp key) (keys tree) k d less tied in
    let no : false ≡ true = sym (ap is_some none) ∙ some in
    cc

segment_in : (directory key : Key) (name : List ℕ) → name_in directory key ≡ Some name → IsKey key → IsSegment name
segment_in [] [] name e is = absurd cc
segment_in [] (n ∷ []) name e is = let same : n ≡ name = cc in subst IsSegment same is.0
segment_in [] (n ∷ next ∷ key) name e is = absurd cc
segment_in (s ∷ directory) [] name e is = absurd cc
segment_in (s ∷ directory) (n ∷ key) name e is =
    elim (bytes_eq s n) as (λ b. cond b (name_in directory key) None ≡ Some name → IsSegment name) [ true ↦ λ h. segment_in directory key name h is.1 | false ↦ λ h. absurd cc ] e

segments_of : (directory : Key) (ks : List Key) → All IsKey ks → All IsSegment (filter_map (name_in directory) ks)
segments_of directory [] are = λ k d less. absurd (omega arith)
segments_of directory (key ∷ ks) are = by_name (name_in directory key) refl (segments_of directory ks (λ k d less. are (suc k) d (omega arith)))
  where
    by_name : (o : Option (List ℕ)) → name_in directory key ≡ o → All IsSegment (filter_map (name_in directory) ks) → All IsSegment (cons_option o (filter_map (name_in directory) ks))
    by_name None e others = others
    by_name (Some name) e others = All-cons IsSegment name (filter_map (name_in directory) ks) (segment_in directory key name e (are zero key (omega arith))) others

all_shown : (P : Result DirEntry FsError → Type 0) (children : List Child) → ((c : Child) → IsIn c children → P c.1) → All P (map (λ c. c.1) children)
all_shown P [] h k d less = absurd (omega arith)
all_shown P (c ∷ children) h zero d less = h c (inl refl)
all_shown P (c ∷ children) h (suc k) d less = all_shown P children (λ c' within. h c' (inr within)) k d (omega arith)

at_name : (P : List ℕ → Type 0) (children : List Child) → All P (names_of children) → (c : Child) → IsIn c children → P c.0
at_name P [] h c within = absurd within
at_name P (x ∷ children) h c (inl e) = subst (λ y. P y.0) e (h zero x.0 (omega arith))
at_name P (x ∷ children) h c (inr within) = at_name P children (λ k d less. h (suc k) d (omega arith)) c within

pub listed_names : (directory : Key) (old new : Store) (listing : List (Result DirEntry FsError)) → IsWellFormed old.contents → Lists directory old listing new → HaveSegmentNames listing
listed_names directory old new listing well lists =
    let P : Result DirEntry FsError → Type 0 = λ shown. IfOk shown (λ entry. IsSegment entry.name) in
    let names = All-permutation IsSegment (members old.contents.tree directory) (names_of lists.children) lists.are.each_once (segments_of directory (keys old.contents.tree) (λ k d less. well.keys _ (there old.contents.tree k d less))) in
    subst (All P) (sym lists.listed) (all_shown P lists.children (λ c within. of_child c (at_name IsSegment lists.children names c within) (lists.are.shown c within)))
  where
    of_child : (c : Child) → IsSegment c.0 → IsShownAs old.facts.shows old.contents directory c → IfOk c.1 (λ entry. IsSegment entry.name)
    of_child (name, Ok entry) is shown = subst IsSegment (sym shown.0) is
    of_child (name, Err e) is shown = tt
