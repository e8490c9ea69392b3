-- The steps of a directory's walk: its listing, its members one by one, and its end.
use Rattle.std.proofs.Common.{◌≡◌, ◌≢◌, ◌⊎◌, ℕ, Bool, true, false, List, [], ◌∷◌, ◌++◌, Some, Ok, Err, map, take, drop, length, get_or, ◌+◌, ◌<◌, ◌≤◌, refl, sym, ap, ◌∙◌, subst, inl, inr, append_assoc}
use Rattle.std.specs.Prelude.{IsPermutation, filter_map}
use Rattle.std.specs.FinMap.{get}
use Rattle.std.proofs.lemmas.List.{append-nil, length-map, get_or-map, take-append-drop, drop_more, take_more, take_all}
use Rattle.std.proofs.lemmas.List.Elements.{filter_map-append}
use Rattle.std.proofs.lemmas.List.Sorted.{IsPermutation-refl, IsPermutation-append, IsPermutation-append_right, IsPermutation-append_comm, IsPermutation-trans}
use mathlib.Core.Path.{subst₂}
use Rattle.dav_key.specs.Key.{Key}
use Rattle.dav_resource.specs.PathText.{PathValue, IsSegment}
use Rattle.dav_resource.specs.Errors.{fs_status}
use Rattle.dav_resource.specs.declared.meta.DirEntry.{DirEntry}
use Rattle.dav_resource.specs.declared.record.Op.TheVariants.{ReadDir}
use Rattle.dav_resource.specs.declared.record.Outcome.TheVariants.{Granted}
use Rattle.dav_resource.specs.declared.error.FsError.{FsError}
use Rattle.dav_store.specs.Logged.{Logged}
use Rattle.dav_store.specs.Store.{Store, Contents, Directory, IsWellFormed}
use Rattle.dav_store.specs.Calls.{Grants, Declines}
use Rattle.dav_store.specs.Members.{IsIn, AreDistinct, member, Child, names_of, AreChildren, Lists, remove_dir_call, IsRemovedAt}
use Rattle.dav_walks.specs.KeyCall.{KeyCall, logged_call, calls_at}
use Rattle.dav_walks.specs.Deletion.{subtree, calls_below, path_at, named_by, named_in}
use Rattle.dav_walks.specs.Trace.{HasKind, Walked, Walks}
use Rattle.dav_walks.proofs.Keys.{child_below, IsIn-left, IsIn-right, IsIn-append, calls_at-append, calls_at-none}
use Rattle.dav_walks.proofs.Kept.{kept_itself, kept_further}
use Rattle.dav_walks.proofs.Single.{Names, call_on, same_head, node_of, not_clean, not_refused}
use Rattle.dav_walks.proofs.Listings.{Shown, unseen_name, same_walk, IsIn-name, new_name, children_once, child_kind, child_segment, logged_unseen, different, listed, logs}
use Rattle.dav_walks.proofs.Progress.{Progress, walk_kept, walk_emptied, walk_stuck}

-- before the first member
pub progress_none : (path : PathValue) (contents : Contents) (names : Names) (k : Key) → IsWellFormed contents → Progress path contents contents names names k [] [] true
progress_none path contents names k formed = record {
  within = λ r i. absurd i;
  unbarred = λ r error i b. i;
  own = λ r error i b. absurd i;
  names = [];
  named = sym (append-nil names);
  bag = IsPermutation-refl [];
  others = λ q apart. refl;
  walked = λ n entry i. absurd i;
  is_kept = kept_itself contents formed;
  well_formed = formed;
  granted = λ p. ((λ r i. absurd i), (λ n error i. i));
  refused = λ p. not_refused p;
  untouched = λ none. refl;
}

pub IsIn-push : {X : Type 0} (x y : X) (xs : List X) → IsIn x (xs ++ y ∷ []) → IsIn x xs ⊎ (y ≡ x)
IsIn-push x y xs i = go (IsIn-append x xs (y ∷ []) i)
  where
    go : IsIn x xs ⊎ IsIn x (y ∷ []) → IsIn x xs ⊎ (y ≡ x)
    go (inl j) = inl j
    go (inr (inl p)) = inr p
    go (inr (inr j)) = absurd j

-- one member more, which the listing didn't show
pub progress_unseen : (path : PathValue) (old new : Contents) (had has finally : Names) (k : Key) (seen : List Child) (calls : List KeyCall) (clean : Bool) (n : List ℕ) (error : FsError)
    → Progress path old new had has k seen calls clean → finally ≡ has ++ (path_at path true k, fs_status error) ∷ [] → Progress path old new had finally k (seen ++ (n, Err error) ∷ []) calls false
progress_unseen path old new had has finally k seen calls clean n error came named = record {
  within = λ r i. let w = came.within r i in (w.0, w.1, w.2, IsIn-left _ seen _ w.3, w.4);
  unbarred = came.unbarred;
  own = came.own;
  names = came.names ++ (path_at path true k, fs_status error) ∷ [];
  named = named ∙ ap (λ l. l ++ (path_at path true k, fs_status error) ∷ []) came.named ∙ append_assoc had came.names _;
  bag = IsPermutation-trans _ _ _ moved (IsPermutation-append _ _ _ _ came.bag (IsPermutation-refl _));
  others = λ q apart. came.others q (λ m entry x i. apart m entry x (IsIn-left _ seen _ i));
  walked = λ m entry i. elim (IsIn-push _ _ seen i) [ inl j ↦ came.walked m entry j | inr p ↦ different (sym (ap (λ (c : Child). c.1) p)) ];
  is_kept = came.is_kept;
  well_formed = came.well_formed;
  granted = λ p. not_clean p;
  refused = λ p. inr (n, error, IsIn-right _ seen _ (inl refl));
  untouched = came.untouched;
}
  where
    moved : IsPermutation (filter_map (unseen_name path k) (seen ++ (n, Err error) ∷ []) ++ named_in path calls) ((filter_map (unseen_name path k) seen ++ named_in path calls) ++ (path_at path true k, fs_status error) ∷ [])
    moved = subst₂ IsPermutation
        (sym (ap (λ l. l ++ named_in path calls) (filter_map-append (unseen_name path k) seen ((n, Err error) ∷ [])) ∙ append_assoc (filter_map (unseen_name path k) seen) ((path_at path true k, fs_status error) ∷ []) (named_in path calls)))
        (sym (append_assoc (filter_map (unseen_name path k) seen) (named_in path calls) ((path_at path true k, fs_status error) ∷ [])))
        (IsPermutation-append_right (filter_map (unseen_name path k) seen) _ _ (IsPermutation-append_comm ((path_at path true k, fs_status error) ∷ []) (named_in path calls)))

-- a member isn't the root
pub rootless : (k : Key) (n : List ℕ) (x : Key) → member k n ++ x ≡ [] → ⊥
rootless k n x p = nonempty k (sym (child_below k n x) ∙ p)
  where
    nonempty : (j : Key) → j ++ n ∷ x ≡ [] → ⊥
    nonempty [] q = cc
    nonempty (a ∷ j) q = cc

-- the names after one member more
pub names_after : (path : PathValue) (k : Key) (seen : List Child) (n : List ℕ) (entry : DirEntry) (calls more : List KeyCall)
    → filter_map (unseen_name path k) (seen ++ (n, Ok entry) ∷ []) ++ named_in path (calls ++ more) ≡ (filter_map (unseen_name path k) seen ++ named_in path calls) ++ named_in path more
names_after path k seen n entry calls more =
    (λ i. (filter_map-append (unseen_name path k) seen ((n, Ok entry) ∷ []) ∙ append-nil _) i ++ filter_map-append (named_by path) calls more i) ∙ sym (append_assoc _ (named_in path calls) (named_in path more))

-- one member more, which was walked
pub progress_child : (path : PathValue) (old mid new : Contents) (before after : List Logged) (had has finally : Names) (k : Key) (seen : List Child) (calls : List KeyCall) (clean : Bool) (n : List ℕ) (entry : DirEntry) (ok now : Bool)
    → Progress path old mid had has k seen calls clean → (w : Walks path mid new before after has finally (member k n) ok) → (IsIn n (names_of seen) → ⊥)
    → (now ≡ true → (clean ≡ true) × (ok ≡ true)) → (now ≡ false → (clean ≡ false) ⊎ (ok ≡ false))
    → Progress path old new had finally k (seen ++ (n, Ok entry) ∷ []) (calls ++ w.calls) now
progress_child path old mid new before after had has finally k seen calls clean n entry ok now came w fresh both either = record {
  within = λ r i. elim (IsIn-append r calls w.calls i) [
    | inl j ↦ let v = came.within r j in (v.0, v.1, v.2, IsIn-left _ seen _ v.3, v.4)
    | inr j ↦ let v = w.within r j in (n, entry, v.0, IsIn-right _ seen _ (inl refl), v.1 ∙ child_below k n v.0)
  ];
  unbarred = λ r error i b. elim (IsIn-append r calls w.calls i) [
    | inl j ↦ came.unbarred r error j b
    | inr j ↦ let v = w.within r j in rootless k n v.0 (sym v.1 ∙ (w.barred r error j b).root)
  ];
  own = λ r error i b. elim (IsIn-append r calls w.calls i) [ inl j ↦ came.own r error j b | inr j ↦ w.own r error j b ];
  names = came.names ++ w.names;
  named = w.named ∙ ap (λ l. l ++ w.names) came.named ∙ append_assoc had came.names w.names;
  bag = subst (λ l. IsPermutation l (came.names ++ w.names)) (sym (names_after path k seen n entry calls w.calls)) (IsPermutation-append _ _ _ _ came.bag w.bag);
  others = λ q apart. w.outside q (λ x p. apart n entry x (IsIn-right _ seen _ (inl refl)) (p ∙ child_below k n x)) ∙ came.others q (λ m e x i. apart m e x (IsIn-left _ seen _ i));
  walked = λ m e i. elim (IsIn-push _ _ seen i) [ inl j ↦ earlier m e j | inr p ↦ latest m (ap (λ (c : Child). c.0) p) ];
  is_kept = kept_further old mid new came.is_kept w.is_kept;
  well_formed = w.well_formed;
  granted = λ p. let b = both p in (
    (λ r i. elim (IsIn-append r calls w.calls i) [ inl j ↦ (came.granted b.0).0 r j | inr j ↦ w.granted b.1 r j ]),
    (λ m error i. elim (IsIn-push _ _ seen i) [ inl j ↦ (came.granted b.0).1 m error j | inr q ↦ different (ap (λ (c : Child). c.1) q) ]),
  );
  refused = λ p. elim (either p) [
    | inl unclean ↦ elim (came.refused unclean) [
      | inl s ↦ inl (s.0, IsIn-left _ calls w.calls s.1, s.2)
      | inr u ↦ inr (u.0, u.1, IsIn-left _ seen _ u.2)
    ]
    | inr failed ↦ let s = w.refused failed in inl (s.0, IsIn-right _ calls w.calls s.1, s.2)
  ];
  untouched = λ none. w.untouched (λ r i. none r (IsIn-right r calls w.calls i)) ∙ came.untouched (λ r i. none r (IsIn-left r calls w.calls i));
}
  where
    earlier : (m : List ℕ) (e : DirEntry) → IsIn {X = Child} (m, Ok e) seen → Walked (subtree old.tree (member k m)) (subtree new.tree (member k m)) (calls_below (calls ++ w.calls) (member k m))
    earlier m e j =
        let apart : (x y : Key) → member k m ++ x ≢ member k n ++ y = λ x y p. fresh (subst (λ a. IsIn a (names_of seen)) (same_head k m n x y (sym (child_below k m x) ∙ p ∙ child_below k n y)) (IsIn-name (m, Ok e) seen j)) in
        same_walk (came.walked m e j) (λ x. refl) (λ x. node_of (w.outside (member k m ++ x) (apart x)))
        (λ x. calls_at-append calls w.calls (member k m ++ x) ∙ ap (λ l. calls_at calls (member k m ++ x) ++ l) (calls_at-none w.calls _ (λ r i p. let v = w.within r i in apart x v.0 (sym p ∙ v.1))) ∙ append-nil _)

    latest : (m : List ℕ) → n ≡ m → Walked (subtree old.tree (member k m)) (subtree new.tree (member k m)) (calls_below (calls ++ w.calls) (member k m))
    latest m p = subst (λ a. Walked (subtree old.tree (member k a)) (subtree new.tree (member k a)) (calls_below (calls ++ w.calls) (member k a))) p
        (same_walk w.walked (λ x. sym (node_of (came.others (member k n ++ x) (λ a e y i q. fresh (subst (λ b. IsIn b (names_of seen)) (sym (same_head k n a x y (sym (child_below k n x) ∙ q))) (IsIn-name (a, Ok e) seen i))))))
        (λ x. refl)
        (λ x. calls_at-append calls w.calls (member k n ++ x) ∙ ap (λ l. l ++ calls_at w.calls (member k n ++ x)) (calls_at-none calls _ (λ r i q. let v = came.within r i in
        fresh (subst (λ b. IsIn b (names_of seen)) (same_head k v.0 n v.2 x (sym v.4 ∙ q ∙ child_below k n x)) (IsIn-name (v.0, Ok v.1) seen v.3))))))

-- the state of a directory's walk after i entries of its listing
pub record Listed (path : PathValue) (old new : Store) (had has : Names) (k : Key) (listing : List Shown) (i : ℕ) (clean : Bool) : Type 0 where
  pub formed : IsWellFormed old.contents
  pub is : get old.contents.tree k ≡ Some Directory
  pub children : List Child
  pub are : AreChildren old.facts.shows old.contents k children
  pub shown : listing ≡ map (λ c. c.1) children
  pub calls : List KeyCall
  pub log : new.log ≡ (old.log ++ map logged_call (listed k children)) ++ map logged_call calls
  pub came : Progress path old.contents new.contents had has k (take i children) calls clean

-- where the i-th member stands
pub record Place (children : List Child) (i : ℕ) (s : Shown) : Type 0 where
  pub name : List ℕ
  pub cut : children ≡ take i children ++ (name, s) ∷ drop (i + 1) children
  pub next : take (i + 1) children ≡ take i children ++ (name, s) ∷ []

pub place_of : (children : List Child) (listing : List Shown) (i : ℕ) (d s : Shown) → listing ≡ map (λ c. c.1) children → i < length listing → get_or listing i d ≡ s → Place children i s
place_of children listing i d s shown small is =
    let short : i < length children = subst (λ l. i < l) (ap length shown ∙ length-map children (λ (c : Child). c.1)) small in
    let second : (get_or children i ([], s)).1 ≡ s = sym (get_or-map (λ (c : Child). c.1) children i ([], s) d short) ∙ ap (λ l. get_or l i d) (sym shown) ∙ is in
    let pair : ◌≡◌ {A = Child} (get_or children i ([], s)) ((get_or children i ([], s)).0, s) = λ j. ((get_or children i ([], s)).0, second j) in
    record {
      name = (get_or children i ([], s)).0;
      cut = sym (take-append-drop i children) ∙ ap (λ l. take i children ++ l) (drop_more children i ([], s) short ∙ ap (λ (c : Child). c ∷ drop (i + 1) children) pair);
      next = take_more children i ([], s) short ∙ ap (λ (c : Child). take i children ++ c ∷ []) pair;
    }

module _ {path : PathValue} {old mid : Store} {had has : Names} {k : Key} {listing : List Shown} {i : ℕ} {clean : Bool}
    (so_far : Listed path old mid had has k listing i clean) (small : i < length listing) (d : Shown) where
  -- an entry's member is there, and is as it was
  module _ (entry : DirEntry) (is : get_or listing i d ≡ Ok entry) where
    pub place : Place so_far.children i (Ok entry)
    place = place_of so_far.children listing i d (Ok entry) so_far.shown small is

    pub among : IsIn {X = Child} (place.name, Ok entry) so_far.children
    among = subst (λ (l : List Child). IsIn (place.name, Ok entry) l) (sym place.cut) (IsIn-right _ (take i so_far.children) _ (inl refl))

    pub named_so : entry.name ≡ place.name
    named_so = (so_far.are.shown (place.name, Ok entry) among).0

    pub fresh : IsIn place.name (names_of (take i so_far.children)) → ⊥
    fresh = new_name (take i so_far.children) (drop (i + 1) so_far.children) (place.name, Ok entry) (subst (λ (l : List Child). AreDistinct (names_of l)) place.cut (children_once old.contents k so_far.children so_far.are))

    pub entry_is_there : HasKind entry.meta.dir (get mid.contents.tree (member k entry.name))
    entry_is_there = subst (HasKind entry.meta.dir) (sym same) (child_kind old.contents k so_far.children so_far.are so_far.formed place.name entry among)
      where
        same : get mid.contents.tree (member k entry.name) ≡ get old.contents.tree (member k place.name)
        same = ap (λ n. get mid.contents.tree (member k n)) named_so ∙ node_of (so_far.came.others (member k place.name) (λ n e x j p. fresh (subst (λ m. IsIn m (names_of (take i so_far.children))) (sym (same_head k _ _ _ _ p)) (IsIn-name (n, Ok e) _ j))))

    pub entry_is_segment : IsSegment entry.name
    entry_is_segment = subst IsSegment (sym named_so) (child_segment old.contents k so_far.children so_far.are so_far.formed place.name (Ok entry) among)

    pub listed_child : {new : Store} {finally : Names} {ok now : Bool} → Walks path mid.contents new.contents mid.log new.log has finally (member k entry.name) ok
        → (now ≡ true → (clean ≡ true) × (ok ≡ true)) → (now ≡ false → (clean ≡ false) ⊎ (ok ≡ false)) → Listed path old new had finally k listing (i + 1) now
    listed_child {new} {finally} {ok} {now} walks both either =
        let w : Walks path mid.contents new.contents mid.log new.log has finally (member k place.name) ok = subst (λ (n : List ℕ). Walks path mid.contents new.contents mid.log new.log has finally (member k n) ok) named_so walks in
        record {
          formed = so_far.formed;
          is = so_far.is;
          children = so_far.children;
          are = so_far.are;
          shown = so_far.shown;
          calls = so_far.calls ++ w.calls;
          log = w.log ∙ ap (λ l. l ++ map logged_call w.calls) so_far.log ∙ logs (old.log ++ map logged_call (listed k so_far.children)) so_far.calls w.calls;
          came = subst (λ (l : List Child). Progress path old.contents new.contents had finally k l (so_far.calls ++ w.calls) now) (sym place.next)
              (progress_child path old.contents mid.contents new.contents mid.log new.log had has finally k (take i so_far.children) so_far.calls clean place.name entry ok now so_far.came w fresh both either);
        }

  pub listed_unseen : {finally : Names} (error : FsError) → get_or listing i d ≡ Err error → finally ≡ has ++ (path_at path true k, fs_status error) ∷ [] → Listed path old mid had finally k listing (i + 1) false
  listed_unseen {finally} error is named =
      let p = place_of so_far.children listing i d (Err error) so_far.shown small is in
      record {
        formed = so_far.formed;
        is = so_far.is;
        children = so_far.children;
        are = so_far.are;
        shown = so_far.shown;
        calls = so_far.calls;
        log = so_far.log;
        came = subst (λ (l : List Child). Progress path old.contents mid.contents had finally k l so_far.calls false) (sym p.next)
            (progress_unseen path old.contents mid.contents had has finally k (take i so_far.children) so_far.calls clean p.name error so_far.came named);
      }

-- after the last entry
module _ {path : PathValue} {old mid : Store} {had has : Names} {k : Key} {listing : List Shown} {i : ℕ} {clean : Bool}
    (so_far : Listed path old mid had has k listing i clean) (done : length listing ≤ i) where
  all_children : Progress path old.contents mid.contents had has k so_far.children so_far.calls clean
  all_children =
      subst (λ (l : List Child). Progress path old.contents mid.contents had has k l so_far.calls clean)
      (take_all i so_far.children (subst (λ l. l ≤ i) (ap length so_far.shown ∙ length-map so_far.children (λ (c : Child). c.1)) done)) so_far.came

  pub listed_kept : clean ≡ false → Walks path old.contents mid.contents old.log mid.log had has k false
  listed_kept = walk_kept path old.contents mid.contents had has k so_far.children so_far.calls clean so_far.formed so_far.is so_far.are all_children old.log mid.log so_far.log

  module _ {new : Store} (e : clean ≡ true) where
    pub listed_emptied : Grants (remove_dir_call mid.contents k) (IsRemovedAt k) mid new → IsWellFormed new.contents → Walks path old.contents new.contents old.log new.log had has k true
    listed_emptied g sound = walk_emptied path old.contents mid.contents had has k so_far.children so_far.calls clean so_far.formed so_far.is so_far.are all_children old.log mid.log new.log so_far.log e new.contents g.effect sound g.recorded

    pub listed_stuck : {finally : Names} (error : FsError) → Declines (remove_dir_call mid.contents k) error mid new → finally ≡ has ++ (path_at path true k, fs_status error) ∷ [] → Walks path old.contents new.contents old.log new.log had finally k false
    listed_stuck {finally} error d named = subst (λ t. Walks path old.contents t old.log new.log had finally k false) (sym d.same)
        (walk_stuck path old.contents mid.contents had has k so_far.children so_far.calls clean so_far.formed so_far.is so_far.are all_children old.log mid.log new.log so_far.log e d.outcome error finally d.cause d.lawful d.recorded named)

-- before the first entry
pub listed_none : (path : PathValue) (old new : Store) (names : Names) (k : Key) (listing : List Shown) → IsWellFormed old.contents → get old.contents.tree k ≡ Some Directory → Lists k old listing new → Listed path old new names names k listing 0 true
listed_none path old new names k listing formed is lists = record {
  formed = formed;
  is = is;
  children = lists.children;
  are = lists.are;
  shown = lists.listed;
  calls = [];
  log = lists.recorded ∙ ap (λ l. old.log ++ logged_call (call_on k ReadDir Granted) ∷ l) (sym (logged_unseen k lists.children)) ∙ sym (append-nil _);
  came = subst (λ t. Progress path old.contents t names names k [] [] true) (sym lists.same) (progress_none path old.contents names k formed);
}
