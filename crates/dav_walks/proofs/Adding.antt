-- The members of a listing, as they come to wait.
use Rattle.std.proofs.Common.{◌≡◌, ◌≢◌, ◌⊎◌, OnErr, MatchOption, ◌-◌, take, ◌<◌, ◌≤◌, ◌+◌, ℕ, Bool, List, [], ◌∷◌, ◌++◌, Option, None, Some, Result, Ok, Err, map, reverse, refl, sym, ap, ◌∙◌, subst, inl, inr, arith, append_assoc, append-nil}
use Rattle.std.specs.Option.{option_to_list}
use Rattle.std.specs.FinMap.{get, keys}
use Rattle.std.proofs.lemmas.List.{reverse-append}
use Rattle.std.proofs.lemmas.List.Elements.{filter_map-append}
use Rattle.std.proofs.lemmas.List.Sorted.{IsPermutation-reverse}
use Rattle.dav_key.specs.Key.{Key}
use Rattle.dav_resource.specs.PathText.{PathValue, IsSegment}
use Rattle.dav_resource.specs.declared.meta.DirEntry.{DirEntry}
use Rattle.dav_resource.specs.declared.meta.Meta.{Meta}
use Rattle.dav_resource.specs.declared.error.FsError.{FsError}
use Rattle.dav_store.specs.Store.{Contents, Node, Store, IsWellFormed, MetaFits}
use Rattle.dav_store.specs.Calls.{Declines}
use Rattle.dav_store.specs.Members.{Child, AreChildren, IsIn, names_of, member, Lists, read_dir_call}
use Rattle.dav_store.specs.MemberLaws.{come_from, IsIn-permuted, IsIn-unpermuted}
use Rattle.dav_messages.specs.Dialogues.{unlike}
use Rattle.dav_walks.specs.Counting.{total, count_below}
use Rattle.dav_walks.specs.Frames.{path_of_entry}
use Rattle.dav_walks.specs.Listing.{listed, unlisted, Listed, resource_of, shown_in, in_turn, AreThere, waiting_count}
use Rattle.dav_walks.specs.declared.listing.Resource.{Resource}
use Rattle.dav_walks.proofs.Among.{stands_among}
use Rattle.dav_walks.proofs.Counting.{total-cons, total-nil, total-append, children_count}
use Rattle.dav_walks.proofs.Keys.{IsIn-append}
use Rattle.dav_walks.proofs.Listings.{Shown, children_once, child_segment}

-- what holds at any rate holds of an error
pub on_err : {T E : Type 0} (r : Result T E) (P : Type 0) → P → OnErr r P
on_err (Ok x) P p = tt
on_err (Err e) P p = p

-- ---- one more member

-- the last of a listing comes first of those that wait
pub one_taken : (directory : PathValue) (left : List Shown) (shown : Shown) (before after : List Resource) → after ≡ before ++ shown_in directory (shown ∷ [])
    → shown_in directory (left ++ shown ∷ []) ++ in_turn before ≡ shown_in directory left ++ in_turn after
one_taken directory left shown before after added =
    ap (λ rs. rs ++ reverse before) (filter_map-append (resource_of directory) left (shown ∷ []))
    ∙ append_assoc (shown_in directory left) (shown_in directory (shown ∷ [])) (reverse before)
    ∙ ap (λ rs. shown_in directory left ++ rs) (sym (ap reverse added ∙ reverse-append before (shown_in directory (shown ∷ [])) ∙ ap (λ rs. rs ++ reverse before) (alone shown)))
  where
    alone : (s : Shown) → reverse (shown_in directory (s ∷ [])) ≡ shown_in directory (s ∷ [])
    alone (Ok entry) = refl
    alone (Err e) = refl

pub IsIn-last : {X : Type 0} (x : X) (xs : List X) → IsIn x (xs ++ x ∷ [])
IsIn-last x [] = inl refl
IsIn-last x (y ∷ xs) = inr (IsIn-last x xs)

pub IsIn-before : {X : Type 0} (x : X) (xs ys : List X) → IsIn x xs → IsIn x (xs ++ ys)
IsIn-before x [] ys i = absurd i
IsIn-before x (y ∷ xs) ys (inl e) = inl e
IsIn-before x (y ∷ xs) ys (inr i) = inr (IsIn-before x xs ys i)

-- ---- a listing's members

-- what a listing shows is a member's
pub shown_child : (cs : List Child) (shown : Shown) → IsIn shown (map (λ (c : Child). c.1) cs) → (name : List ℕ) × IsIn {X = Child} (name, shown) cs
shown_child [] shown i = absurd i
shown_child (c ∷ cs) shown (inl e) = (c.0, inl (λ i. (c.0, e i)))
shown_child (c ∷ cs) shown (inr i) = let f = shown_child cs shown i in (f.0, inr f.1)

pub shown_segment : {shows : Key → Bool} (old : Contents) (directory : Key) (cs : List Child) → AreChildren shows old directory cs → IsWellFormed old → (entry : DirEntry) → IsIn (Ok entry) (map (λ (c : Child). c.1) cs) → IsSegment entry.name
shown_segment old directory cs are formed entry i =
    let f = shown_child cs (Ok entry) i in
    subst IsSegment (sym (are.shown (f.0, Ok entry) f.1).0) (child_segment old directory cs are formed f.0 (Ok entry) f.1)

-- a member that is shown is there
pub shown_there : {shows : Key → Bool} (old : Contents) (directory : PathValue) (cs : List Child) → AreChildren shows old directory.key cs → (r : Resource) → IsIn r (shown_in directory (map (λ (c : Child). c.1) cs)) → old.metas r.path.key ≡ Some r.meta
shown_there old directory cs are r i = is_there (come_from (resource_of directory) (map (λ (c : Child). c.1) cs) r i)
  where
    is_there : (s : Shown) × IsIn s (map (λ (c : Child). c.1) cs) × (resource_of directory s ≡ Some r) → old.metas r.path.key ≡ Some r.meta
    is_there (Ok entry, inside, is) =
        let f = shown_child cs (Ok entry) inside in
        let so = are.shown (f.0, Ok entry) f.1 in
        let same : r ≡ record { path = path_of_entry directory entry; meta = entry.meta } = cc in
        ap (λ (v : Resource). old.metas v.path.key) same ∙ ap (λ name. old.metas (member directory.key name)) so.0 ∙ so.1 ∙ ap Some (sym (ap (λ (v : Resource). v.meta) same))
    is_there (Err e, inside, is) = absurd cc

-- and each that waited before
pub all_there : {shows : Key → Bool} (old : Contents) (directory : PathValue) (cs : List Child) (before after : List Resource) → AreChildren shows old directory.key cs → in_turn after ≡ shown_in directory (map (λ (c : Child). c.1) cs) ++ in_turn before
    → AreThere old before → AreThere old after
all_there old directory cs before after are added there r i = either (IsIn-append r (shown_in directory (map (λ (c : Child). c.1) cs)) (reverse before) (subst (λ rs. IsIn r rs) added (IsIn-permuted _ _ r (IsPermutation-reverse after) i)))
  where
    either : IsIn r (shown_in directory (map (λ (c : Child). c.1) cs)) ⊎ IsIn r (reverse before) → old.metas r.path.key ≡ Some r.meta
    either (inl new) = shown_there old directory cs are r new
    either (inr old_one) = there r (IsIn-unpermuted _ _ r (IsPermutation-reverse before) old_one)

-- ---- how many wait

total-reverse : {X : Type 0} (f : X → ℕ) (xs : List X) → total f (reverse xs) ≡ total f xs
total-reverse f [] = refl
total-reverse f (x ∷ xs) =
    let turned : total f (reverse (x ∷ xs)) ≡ total f (reverse xs ++ x ∷ []) = ap (total f) (reverse-append (x ∷ []) xs) in
    omega (arith, turned, total-append f (reverse xs) (x ∷ []), total-reverse f xs, total-cons f x [], total-nil f, total-cons f x xs)

shown_count : (ks : List Key) (directory : PathValue) (cs : List Child) → ((name : List ℕ) (entry : DirEntry) → IsIn {X = Child} (name, Ok entry) cs → entry.name ≡ name)
    → total (λ (r : Resource). count_below r.path.key ks) (shown_in directory (map (λ (c : Child). c.1) cs)) ≤ total (λ n. count_below (member directory.key n) ks) (names_of cs)
shown_count ks directory [] so = omega (arith, total-nil (λ (r : Resource). count_below r.path.key ks))
shown_count ks directory ((n, Ok entry) ∷ cs) so =
    let f : Resource → ℕ = λ r. count_below r.path.key ks in
    let g : List ℕ → ℕ = λ m. count_below (member directory.key m) ks in
    let same : g entry.name ≡ g n = ap g (so n entry (inl refl)) in
    omega (arith, same, shown_count ks directory cs (λ m e i. so m e (inr i)), total-cons f (record { path = path_of_entry directory entry; meta = entry.meta }) (shown_in directory (map (λ (c : Child). c.1) cs)), total-cons g n (names_of cs))
shown_count ks directory ((n, Err e) ∷ cs) so =
    let g : List ℕ → ℕ = λ m. count_below (member directory.key m) ks in
    omega (arith, shown_count ks directory cs (λ m d i. so m d (inr i)), total-cons g n (names_of cs))

there_in_tree : (o : Option Node) (known : Option Meta) (meta : Meta) → MetaFits o known → known ≡ Some meta → o ≢ None
there_in_tree None known meta fits is none = let p : None ≡ Some meta = sym fits ∙ is in cc
there_in_tree (Some node) known meta fits is none = cc

pub less_waits : {shows : Key → Bool} (old : Contents) (directory : PathValue) (cs : List Child) (meta : Meta) (before after : List Resource) → IsWellFormed old → AreChildren shows old directory.key cs
    → in_turn after ≡ shown_in directory (map (λ (c : Child). c.1) cs) ++ in_turn before → old.metas directory.key ≡ Some meta
    → waiting_count old after < waiting_count old before + count_below directory.key (keys old.tree)
less_waits old directory cs meta before after formed are added is =
    let ks : List Key = keys old.tree in
    let f : Resource → ℕ = λ r. count_below r.path.key ks in
    let here : get old.tree directory.key ≢ None = there_in_tree _ _ meta (formed.metas directory.key) is in
    let most = children_count directory.key (names_of cs) ks (children_once old directory.key cs are) (stands_among old.tree directory.key here) in
    let all : total f (reverse after) ≡ total f (shown_in directory (map (λ (c : Child). c.1) cs) ++ reverse before) = ap (total f) added in
    omega (
      arith,
      all,
      total-append f (shown_in directory (map (λ (c : Child). c.1) cs)) (reverse before),
      total-reverse f after,
      total-reverse f before,
      shown_count ks directory cs (λ name entry i. (are.shown (name, Ok entry) i).0),
      most,
    )

-- nothing is shown, and the directory itself doesn't wait
pub none_waits : (old : Contents) (directory : PathValue) (meta : Meta) (waiting : List Resource) → IsWellFormed old → old.metas directory.key ≡ Some meta
    → waiting_count old waiting < waiting_count old waiting + count_below directory.key (keys old.tree)
none_waits old directory meta waiting formed is =
    let here : get old.tree directory.key ≢ None = there_in_tree _ _ meta (formed.metas directory.key) is in
    let most = children_count directory.key [] (keys old.tree) tt (stands_among old.tree directory.key here) in
    omega (arith, most)

-- ---- the call

pub listing_shown : (directory : PathValue) (old : Store) (listing : List Shown) (new : Store) → Lists directory.key old listing new → Listed directory old listing new
listing_shown directory old listing new lists = record {
  records = _;
  lists = listed lists.children lists.allowed lists.are lists.listed refl;
  recorded = lists.recorded;
  same = lists.same;
  fixed = lists.fixed;
}

pub listing_declined : (directory : PathValue) (old : Store) (e : FsError) (new : Store) → Declines (read_dir_call old.contents directory.key) e old new → Listed directory old [] new
listing_declined directory old e new declined = record {
  records = _;
  lists = unlisted declined.outcome (unlike e declined.outcome declined.cause) declined.lawful refl refl;
  recorded = declined.recorded;
  same = declined.same;
  fixed = declined.fixed;
}

-- ---- the next of those that wait

-- the last is taken
pub next_turn : (n : ℕ) (before after : List Resource) (next : Option Resource) → before ≡ after ++ option_to_list next → after ≡ take (n - 1) before → MatchOption next (n ≡ 0) (λ _. ℕ)
    → MatchOption next (in_turn before ≡ []) (λ r. in_turn before ≡ r ∷ in_turn after)
next_turn n before after None is rest empty = ap reverse (is ∙ append-nil after ∙ rest ∙ ap (λ m. take (m - 1) before) empty)
next_turn n before after (Some r) is rest some = ap reverse is ∙ reverse-append after (r ∷ [])

pub next_counted : (contents : Contents) (before after : List Resource) (r : Resource) → before ≡ after ++ r ∷ [] → IsWellFormed contents → AreThere contents before → 0 < count_below r.path.key (keys contents.tree)
next_counted contents before after r is formed there =
    let here = there r (subst (λ rs. IsIn r rs) (sym is) (IsIn-last r after)) in
    let count = children_count r.path.key [] (keys contents.tree) tt (stands_among contents.tree r.path.key (there_in_tree _ _ r.meta (formed.metas r.path.key) here)) in
    omega (arith, count)

pub next_fewer : (contents : Contents) (before after : List Resource) (r : Resource) → before ≡ after ++ r ∷ [] → waiting_count contents before ≡ waiting_count contents after + count_below r.path.key (keys contents.tree)
next_fewer contents before after r is =
    let f : Resource → ℕ = λ v. count_below v.path.key (keys contents.tree) in
    let all : total f before ≡ total f (after ++ r ∷ []) = ap (total f) is in
    omega (arith, all, total-append f after (r ∷ []), total-cons f r [], total-nil f)

pub next_there : (contents : Contents) (before after : List Resource) (r : Resource) → before ≡ after ++ r ∷ [] → AreThere contents before → AreThere contents after × (contents.metas r.path.key ≡ Some r.meta)
next_there contents before after r is there = (
  (λ v i. there v (subst (λ rs. IsIn v rs) (sym is) (IsIn-before v after (r ∷ []) i))),
  there r (subst (λ rs. IsIn r rs) (sym is) (IsIn-last r after)),
)
