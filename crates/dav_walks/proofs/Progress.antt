-- How far the walk of a directory has come: its members that were shown so far were walked, and the others are as they were.
use Rattle.std.proofs.Common.{◌≡◌, ◌≢◌, ◌⊎◌, ℕ, Bool, true, false, cond, List, [], ◌∷◌, ◌++◌, None, Some, Ok, Err, map, refl, sym, ap, ◌∙◌, subst, inl, inr, append_assoc}
use Rattle.std.specs.Prelude.{IsPermutation, filter_map, option_map}
use Rattle.std.specs.FinMap.{get}
use Rattle.std.specs.List.{cons_option}
use Rattle.std.proofs.lemmas.List.{append-nil}
use Rattle.std.proofs.lemmas.List.Elements.{filter_map-append}
use Rattle.std.proofs.lemmas.List.Sorted.{IsPermutation-refl, IsPermutation-append}
use Rattle.dav_key.specs.Key.{Key}
use Rattle.dav_resource.specs.PathText.{PathValue}
use Rattle.dav_resource.specs.Errors.{fs_status}
use Rattle.dav_resource.specs.declared.meta.DirEntry.{DirEntry}
use Rattle.dav_resource.specs.declared.record.Op.{Op}
use Rattle.dav_resource.specs.declared.record.Op.TheVariants.{ReadDir, RemoveDir, Entry}
use Rattle.dav_resource.specs.declared.record.Outcome.{Outcome}
use Rattle.dav_resource.specs.declared.record.Outcome.TheVariants.{Granted, Barred, Refused}
use Rattle.dav_resource.specs.declared.error.FsError.{FsError}
use Rattle.dav_store.specs.Logged.{Logged}
use Rattle.dav_store.specs.Store.{Contents, Directory, IsWellFormed}
use Rattle.dav_store.specs.Calls.{IsLawful, IsOwn, error_of}
use Rattle.dav_store.specs.Members.{IsIn, AreDistinct, members, member, Child, names_of, AreChildren, remove_dir_bar, IsRemovedAt}
use Rattle.dav_store.specs.MemberLaws.{no_members}
use Rattle.dav_walks.specs.KeyCall.{KeyCall, logged_call, same_key, calls_at, standing}
use Rattle.dav_walks.specs.Deletion.{subtree, calls_below, under, WasRefused, path_at, named_by, named_in, IsHidden, NothingRemoved}
use Rattle.dav_walks.specs.Trace.{Leaves, IsGrantedBelow, Walked, absent, unseen, kept, emptied, AllGranted, SomeRefused, IsKept, Walks}
use Rattle.dav_walks.specs.ClearedLaws.{record_of_call}
use Rattle.dav_walks.proofs.Keys.{same_key_itself, other_key, child_below, below_cancel, append-nothing, IsIn-left, IsIn-right, IsIn-append, calls_at-append, calls_at-none, calls_at-IsIn}
use Rattle.dav_walks.proofs.Kept.{none_or, kept_itself, kept_further, removal_others, removal_keeps}
use Rattle.dav_walks.proofs.Facts.{directory_there, HasName, left_only, no_entry_one, no_entry_two, listing_is_no_entry, removal_is_no_entry}
use Rattle.dav_walks.proofs.Listings.{Shown, unseen_name, unseen_call, AllShown, SomeUnseen, same_walk, shrinks, IsIn-name, find_child, one_child, children_once, children_all, children_there, unseen_is, unseen_in, unseen_one, no_unseen, named_unseen, refused_granted, granted_barred, granted_refused, refused_barred, same_refusal, different, listed, logs, IsRootBar, root_bar}
use Rattle.dav_walks.proofs.Single.{Names, call_on, beside, same_head, alone, alone_below, stands_in, removed_here, node_of, not_clean, not_refused, has_error, stays, bar_of, own_of}

pub record Progress (path : PathValue) (old new : Contents) (had has : Names) (k : Key) (seen : List Child) (calls : List KeyCall) (clean : Bool) : Type 0 where
  pub within : (r : KeyCall) → IsIn r calls → (n : List ℕ) × (entry : DirEntry) × (x : Key) × IsIn {X = Child} (n, Ok entry) seen × (r.key ≡ k ++ n ∷ x)
  pub unbarred : (r : KeyCall) (error : FsError) → IsIn r calls → r.outcome ≡ Barred error → ⊥
  pub own : (r : KeyCall) (error : FsError) → IsIn r calls → r.outcome ≡ Refused error → IsOwn error
  pub names : Names
  pub named : has ≡ had ++ names
  pub bag : IsPermutation (filter_map (unseen_name path k) seen ++ named_in path calls) names
  pub others : (q : Key) → ((n : List ℕ) (entry : DirEntry) (x : Key) → IsIn {X = Child} (n, Ok entry) seen → q ≢ k ++ n ∷ x) → standing new q ≡ standing old q
  pub walked : (n : List ℕ) (entry : DirEntry) → IsIn {X = Child} (n, Ok entry) seen → Walked (subtree old.tree (member k n)) (subtree new.tree (member k n)) (calls_below calls (member k n))
  pub is_kept : IsKept old new
  pub well_formed : IsWellFormed new
  pub granted : clean ≡ true → AllGranted calls × AllShown seen
  pub refused : clean ≡ false → SomeRefused calls ⊎ SomeUnseen seen
  pub untouched : NothingRemoved calls → new ≡ old

-- a key below a member that wasn't shown, or isn't there, and the end of a directory's walk
module _ {shows : Key → Bool} (path : PathValue) (old mid : Contents) (had has : Names) (k : Key) (cs : List Child) (calls : List KeyCall) (clean : Bool)
    (formed : IsWellFormed old) (is : get old.tree k ≡ Some Directory) (are : AreChildren shows old k cs) (came : Progress path old mid had has k cs calls clean) where
  once : AreDistinct (names_of cs)
  once = children_once old k cs are

  not_among : (n : List ℕ) (x : Key) → ((entry : DirEntry) → IsIn {X = Child} (n, Ok entry) cs → ⊥) → (calls_at calls (k ++ n ∷ x) ≡ []) × (get mid.tree (k ++ n ∷ x) ≡ get old.tree (k ++ n ∷ x))
  not_among n x unshown = (
    calls_at-none calls _ (λ r i p. let w = came.within r i in unshown w.1 (subst (λ j. IsIn {X = Child} (j, Ok w.1) cs) (same_head k _ _ _ _ (sym w.4 ∙ p)) w.3)),
    node_of (came.others _ (λ m entry y i p. unshown entry (subst (λ j. IsIn {X = Child} (j, Ok entry) cs) (sym (same_head k _ _ _ _ p)) i))),
  )

  module _ (final : Contents) (rest : List KeyCall) (same_rest : (n : List ℕ) (x : Key) → calls_at rest (k ++ n ∷ x) ≡ calls_at calls (k ++ n ∷ x))
      (same_final : (n : List ℕ) (x : Key) → get final.tree (k ++ n ∷ x) ≡ get mid.tree (k ++ n ∷ x)) where
    calls_under : (n : List ℕ) (x : Key) → calls_below (listed k cs ++ rest) k (n ∷ x) ≡ calls_at (filter_map (unseen_call k) cs) (k ++ n ∷ x) ++ calls_at calls (k ++ n ∷ x)
    calls_under n x =
        ap (λ b. cond b ((ReadDir, Granted) ∷ calls_at (filter_map (unseen_call k) cs ++ rest) (k ++ n ∷ x)) (calls_at (filter_map (unseen_call k) cs ++ rest) (k ++ n ∷ x))) (other_key k (k ++ n ∷ x) (beside k n x))
        ∙ calls_at-append (filter_map (unseen_call k) cs) rest (k ++ n ∷ x) ∙ ap (λ l. calls_at (filter_map (unseen_call k) cs) (k ++ n ∷ x) ++ l) (same_rest n x)

    child_walked : (n : List ℕ) → Walked (under (subtree old.tree k) n) (under (subtree final.tree k) n) (under (calls_below (listed k cs ++ rest) k) n)
    child_walked n = go (find_child cs n)
      where
        go : ((s : Shown) × IsIn {X = Child} (n, s) cs) ⊎ (IsIn n (names_of cs) → ⊥) → Walked (under (subtree old.tree k) n) (under (subtree final.tree k) n) (under (calls_below (listed k cs ++ rest) k) n)
        go (inl (Ok entry, i)) = same_walk (came.walked n entry i)
            (λ x. ap (get old.tree) (sym (child_below k n x)))
            (λ x. same_final n x ∙ ap (get mid.tree) (sym (child_below k n x)))
            (λ x. calls_under n x ∙ ap (λ l. l ++ calls_at calls (k ++ n ∷ x)) (no_unseen k cs (k ++ n ∷ x) (λ m error j p.
            different (one_child cs once n _ _ i (subst (λ a. IsIn {X = Child} (a, Err error) cs) (same_head k _ _ _ _ p) j)))) ∙ ap (calls_at calls) (sym (child_below k n x)))
        go (inl (Err error, i)) =
            let unshown : (entry : DirEntry) → IsIn {X = Child} (n, Ok entry) cs → ⊥ = λ entry j. different (one_child cs once n _ _ j i) in
            unseen error (children_there old k cs are n (IsIn-name (n, Err error) cs i))
            (calls_under n [] ∙ ap (λ l. l ++ calls_at calls (k ++ n ∷ [])) (unseen_one k cs once n error i) ∙ ap (λ l. (Entry, Refused error) ∷ l) (not_among n [] unshown).0)
            (same_final n [] ∙ (not_among n [] unshown).1)
            (λ m x. record {
              uncalled = calls_under n (m ∷ x) ∙ ap (λ l. l ++ calls_at calls (k ++ n ∷ m ∷ x)) (no_unseen k cs _ (λ j e a p. longer j m x (below_cancel k _ _ p))) ∙ (not_among n (m ∷ x) unshown).0;
              same = same_final n (m ∷ x) ∙ (not_among n (m ∷ x) unshown).1;
            })
          where
            longer : (j m : List ℕ) (x : Key) → j ∷ [] ≡ n ∷ m ∷ x → ⊥
            longer j m x p = cc
        go (inr unnamed) =
            let unshown : (entry : DirEntry) → IsIn {X = Child} (n, Ok entry) cs → ⊥ = λ entry j. unnamed (IsIn-name (n, Ok entry) cs j) in
            absent (λ x. nothing x (none_or _)) (λ x. record {
              uncalled = calls_under n x ∙ ap (λ l. l ++ calls_at calls (k ++ n ∷ x)) (no_unseen k cs _ (λ j e a p. unnamed (subst (λ b. IsIn b (names_of cs)) (same_head k _ _ _ _ p) (IsIn-name (j, Err e) cs a)))) ∙ (not_among n x unshown).0;
              same = same_final n x ∙ (not_among n x unshown).1;
            })
          where
            there_above : (x : Key) → get old.tree (k ++ n ∷ x) ≢ None → get old.tree (member k n) ≢ None
            there_above [] there = there
            there_above (m ∷ x) there = directory_there _ (stands_in old formed x (member k n) m (λ none. there (ap (get old.tree) (sym (child_below k n (m ∷ x))) ∙ none)))

            nothing : (x : Key) → (get old.tree (k ++ n ∷ x) ≡ None) ⊎ (get old.tree (k ++ n ∷ x) ≢ None) → get old.tree (k ++ n ∷ x) ≡ None
            nothing x (inl none) = none
            nothing x (inr there) = absurd (unnamed (children_all old k cs are n (there_above x there)))

    -- the listing, seen from the calls on the directory itself
    calls_here : calls_below (listed k cs ++ rest) k [] ≡ (ReadDir, Granted) ∷ calls_at rest (k ++ [])
    calls_here =
        ap (λ b. cond b ((ReadDir, Granted) ∷ calls_at (filter_map (unseen_call k) cs ++ rest) (k ++ [])) (calls_at (filter_map (unseen_call k) cs ++ rest) (k ++ []))) (ap (same_key k) (append-nothing k) ∙ same_key_itself k)
        ∙ ap (λ l. (ReadDir, Granted) ∷ l) (calls_at-append (filter_map (unseen_call k) cs) rest (k ++ [])
        ∙ ap (λ l. l ++ calls_at rest (k ++ [])) (no_unseen k cs (k ++ []) (λ n error i p. beside k n [] (sym (p ∙ append-nothing k)))))

  -- no call of the members' is on the directory itself
  none_here : calls_at calls (k ++ []) ≡ []
  none_here = calls_at-none calls (k ++ []) (λ r i p. let w = came.within r i in beside k w.0 w.2 (sym (append-nothing k) ∙ sym p ∙ w.4))

  stays_here : get mid.tree (k ++ []) ≡ get old.tree (k ++ [])
  stays_here = node_of (came.others (k ++ []) (λ n entry x i p. beside k n x (sym (append-nothing k) ∙ p)))

  directory_here : get old.tree (k ++ []) ≡ Some Directory
  directory_here = ap (get old.tree) (append-nothing k) ∙ is

  directory_still : get mid.tree k ≡ Some Directory
  directory_still = ap (get mid.tree) (sym (append-nothing k)) ∙ stays_here ∙ directory_here

  within_listed : (r : KeyCall) → IsIn r (listed k cs ++ calls) → (x : Key) × (r.key ≡ k ++ x)
  within_listed r (inl p) = ([], ap (λ (s : KeyCall). s.key) (sym p) ∙ sym (append-nothing k))
  within_listed r (inr i) = go (IsIn-append r (filter_map (unseen_call k) cs) calls i)
    where
      go : IsIn r (filter_map (unseen_call k) cs) ⊎ IsIn r calls → (x : Key) × (r.key ≡ k ++ x)
      go (inl j) = let f = unseen_is k cs r j in (f.0 ∷ [], ap (λ (s : KeyCall). s.key) (sym f.3))
      go (inr j) = let w = came.within r j in (w.0 ∷ w.2, w.4)

  unbarred_listed : (r : KeyCall) (error : FsError) → IsIn r (listed k cs ++ calls) → r.outcome ≡ Barred error → ⊥
  unbarred_listed r error (inl p) b = granted_barred (ap (λ (s : KeyCall). s.outcome) p ∙ b)
  unbarred_listed r error (inr i) b = go (IsIn-append r (filter_map (unseen_call k) cs) calls i)
    where
      go : IsIn r (filter_map (unseen_call k) cs) ⊎ IsIn r calls → ⊥
      go (inl j) = let f = unseen_is k cs r j in refused_barred (ap (λ (s : KeyCall). s.outcome) f.3 ∙ b)
      go (inr j) = came.unbarred r error j b

  own_listed : (r : KeyCall) (error : FsError) → IsIn r (listed k cs ++ calls) → r.outcome ≡ Refused error → IsOwn error
  own_listed r error (inl p) b = granted_refused (ap (λ (s : KeyCall). s.outcome) p ∙ b)
  own_listed r error (inr i) b = go (IsIn-append r (filter_map (unseen_call k) cs) calls i)
    where
      go : IsIn r (filter_map (unseen_call k) cs) ⊎ IsIn r calls → IsOwn error
      go (inl j) = let f = unseen_is k cs r j in subst IsOwn (same_refusal (ap (λ (s : KeyCall). s.outcome) f.3 ∙ b)) (are.shown (f.0, Err f.1) f.2)
      go (inr j) = came.own r error j b

  named_listed : named_in path (listed k cs ++ calls) ≡ filter_map (unseen_name path k) cs ++ named_in path calls
  named_listed = filter_map-append (named_by path) (filter_map (unseen_call k) cs) calls ∙ ap (λ l. l ++ named_in path calls) (named_unseen k path cs)

  some_refused : clean ≡ false → SomeRefused (listed k cs ++ calls)
  some_refused e = go (came.refused e)
    where
      go : SomeRefused calls ⊎ SomeUnseen cs → SomeRefused (listed k cs ++ calls)
      go (inl s) = (s.0, IsIn-right s.0 (listed k cs) calls s.1, s.2)
      go (inr u) = (call_on (member k u.0) Entry (Refused u.1), inr (IsIn-left _ (filter_map (unseen_call k) cs) calls (unseen_in k cs u.0 u.1 u.2)), λ g. refused_granted g)

  -- the walk ends here, where something was refused
  pub walk_kept : (before after : List Logged) → after ≡ (before ++ map logged_call (listed k cs)) ++ map logged_call calls → clean ≡ false → Walks path old mid before after had has k false
  walk_kept before after log unclean = record {
    calls = listed k cs ++ calls;
    log = log ∙ logs before (listed k cs) calls;
    within = within_listed;
    barred = λ r error i b. absurd (unbarred_listed r error i b);
    own = own_listed;
    no_entry = no_entry_one ReadDir Granted _ (calls_here mid calls (λ n x. refl) (λ n x. refl) ∙ ap (λ l. (ReadDir, Granted) ∷ l) none_here) listing_is_no_entry;
    names = came.names;
    named = came.named;
    bag = subst (λ l. IsPermutation l came.names) (sym named_listed) came.bag;
    outside = λ q apart. came.others q (λ n entry x i. apart (n ∷ x));
    walked = kept directory_here (calls_here mid calls (λ n x. refl) (λ n x. refl) ∙ ap (λ l. (ReadDir, Granted) ∷ l) none_here) stays_here
        (let s = some_refused unclean in let w = within_listed s.0 s.1 in
        (w.0, (s.0.op, s.0.outcome), subst (λ (j : Key). IsIn (s.0.op, s.0.outcome) (calls_at (listed k cs ++ calls) j)) w.1 (calls_at-IsIn (listed k cs ++ calls) s.0 s.1), s.2))
        (child_walked mid calls (λ n x. refl) (λ n x. refl));
    is_kept = came.is_kept;
    well_formed = came.well_formed;
    granted = λ p. not_clean p;
    refused = λ p. some_refused unclean;
    untouched = λ none. came.untouched (λ r i. none r (IsIn-right r (listed k cs) calls i));
  }

  -- where nothing was refused, the directory has no members
  emptied_out : clean ≡ true → (n : List ℕ) → get mid.tree (member k n) ≢ None → ⊥
  emptied_out e n there = go (find_child cs n)
    where
      all_granted : AllGranted calls
      all_granted = (came.granted e).0

      among : (z : Key) (c : Op × Outcome) → IsIn c (calls_below calls (member k n) z) → WasRefused c.1 → ⊥
      among z c i refused = refused (all_granted _ (record_of_call calls (member k n ++ z) c i))

      visible : HasName (calls_below calls (member k n)) [] ⊎ IsHidden (calls_below calls (member k n)) [] → ⊥
      visible (inl h) = among h.0 h.1 h.2 h.3
      visible (inr u) = among [] _ u.1 u.2

      go : ((s : Shown) × IsIn {X = Child} (n, s) cs) ⊎ (IsIn n (names_of cs) → ⊥) → ⊥
      go (inl (Ok entry, i)) = visible (left_only (came.walked n entry i) [] (λ none. there (ap (get mid.tree) (sym (append-nothing (member k n))) ∙ none)))
      go (inl (Err error, i)) = (came.granted e).1 n error i
      go (inr unnamed) = unnamed (children_all old k cs are n (shrinks came.is_kept (member k n) there))

  no_members_left : clean ≡ true → members mid.tree k ≡ []
  no_members_left e = no_members mid.tree k (λ n. nothing n (none_or _))
    where
      nothing : (n : List ℕ) → (get mid.tree (member k n) ≡ None) ⊎ (get mid.tree (member k n) ≢ None) → get mid.tree (member k n) ≡ None
      nothing n (inl none) = none
      nothing n (inr there) = absurd (emptied_out e n there)

  granted_below : clean ≡ true → (rest : List KeyCall) → ((n : List ℕ) (x : Key) → calls_at rest (k ++ n ∷ x) ≡ calls_at calls (k ++ n ∷ x)) → IsGrantedBelow (calls_below (listed k cs ++ rest) k)
  granted_below e rest same_rest n x c i = go (IsIn-append c _ _ (subst (λ (l : List (Op × Outcome)). IsIn c l) (calls_under mid rest same_rest (λ n x. refl) n x) i))
    where
      go : IsIn c (calls_at (filter_map (unseen_call k) cs) (k ++ n ∷ x)) ⊎ IsIn c (calls_at calls (k ++ n ∷ x)) → c.1 ≡ Granted
      go (inl j) = let f = unseen_is k cs _ (record_of_call (filter_map (unseen_call k) cs) _ c j) in absurd ((came.granted e).1 f.0 f.1 f.2)
      go (inr j) = (came.granted e).0 _ (record_of_call calls _ c j)

  -- the walk ends with the removal of the directory itself, whatever comes of it
  module _ (e : clean ≡ true) (outcome : Outcome) (final : Contents) where
    closing : List KeyCall
    closing = calls ++ call_on k RemoveDir outcome ∷ []

    closing_below : (n : List ℕ) (x : Key) → calls_at closing (k ++ n ∷ x) ≡ calls_at calls (k ++ n ∷ x)
    unfolding closing
    closing_below n x = calls_at-append calls _ (k ++ n ∷ x) ∙ ap (λ l. calls_at calls (k ++ n ∷ x) ++ l) (alone_below k RemoveDir outcome n x) ∙ append-nil _

    closing_here : calls_at closing (k ++ []) ≡ (RemoveDir, outcome) ∷ []
    unfolding closing
    closing_here = calls_at-append calls _ (k ++ []) ∙ (λ i. none_here i ++ alone k RemoveDir outcome i)

    closing_cases : (r : KeyCall) → IsIn r (listed k cs ++ closing) → IsIn r (listed k cs ++ calls) ⊎ (call_on k RemoveDir outcome ≡ r)
    unfolding closing
    closing_cases r i = go (IsIn-append r (listed k cs ++ calls) (call_on k RemoveDir outcome ∷ []) (subst (λ (l : List KeyCall). IsIn r l) (sym (append_assoc (listed k cs) calls (call_on k RemoveDir outcome ∷ []))) i))
      where
        go : IsIn r (listed k cs ++ calls) ⊎ IsIn r (call_on k RemoveDir outcome ∷ []) → IsIn r (listed k cs ++ calls) ⊎ (call_on k RemoveDir outcome ≡ r)
        go (inl j) = inl j
        go (inr (inl p)) = inr p
        go (inr (inr j)) = absurd j

    listed_granted : AllGranted (listed k cs ++ calls)
    listed_granted r (inl p) = ap (λ (s : KeyCall). s.outcome) (sym p)
    listed_granted r (inr i) = go (IsIn-append r (filter_map (unseen_call k) cs) calls i)
      where
        go : IsIn r (filter_map (unseen_call k) cs) ⊎ IsIn r calls → r.outcome ≡ Granted
        go (inl j) = let f = unseen_is k cs r j in absurd ((came.granted e).1 f.0 f.1 f.2)
        go (inr j) = (came.granted e).0 r j

    closed : (before after : List Logged) (finally last : Names) (removed : Bool)
        → after ≡ ((before ++ map logged_call (listed k cs)) ++ map logged_call calls) ++ logged_call (call_on k RemoveDir outcome) ∷ []
        → finally ≡ has ++ last → named_in path (call_on k RemoveDir outcome ∷ []) ≡ last
        → ((error : FsError) → outcome ≡ Barred error → IsRootBar k error) → ((error : FsError) → outcome ≡ Refused error → IsOwn error)
        → ((q : Key) → q ≢ k → standing final q ≡ standing mid q) → Leaves outcome (get mid.tree k) (get final.tree k) → IsKept mid final
        → IsWellFormed final → (removed ≡ true → outcome ≡ Granted) → (removed ≡ false → WasRefused outcome) → (WasRefused outcome → final ≡ mid)
        → Walks path old final before after had finally k removed
    unfolding closing
    closed before after finally last removed log named last_is root owned apart leaves fewer sound granted refused unmoved = record {
      calls = listed k cs ++ closing;
      log = log ∙ logs_three;
      within = λ r i. elim (closing_cases r i) [ inl j ↦ within_listed r j | inr p ↦ ([], ap (λ (s : KeyCall). s.key) (sym p) ∙ sym (append-nothing k)) ];
      barred = λ r error i b. elim (closing_cases r i) [
        | inl j ↦ absurd (unbarred_listed r error j b)
        | inr p ↦ let is_root = root error (ap (λ (s : KeyCall). s.outcome) p ∙ b) in
            record { root = ap (λ (s : KeyCall). s.key) (sym p) ∙ is_root.0; removal = ap (λ (s : KeyCall). s.op) (sym p); forbidden = is_root.1 }
      ];
      own = λ r error i b. elim (closing_cases r i) [ inl j ↦ own_listed r error j b | inr p ↦ owned error (ap (λ (s : KeyCall). s.outcome) p ∙ b) ];
      no_entry = no_entry_two ReadDir RemoveDir Granted outcome _ (calls_here final closing closing_below below_final ∙ ap (λ l. (ReadDir, Granted) ∷ l) closing_here) listing_is_no_entry removal_is_no_entry;
      names = came.names ++ last;
      named = named ∙ ap (λ l. l ++ last) came.named ∙ append_assoc had came.names last;
      bag = subst (λ l. IsPermutation l (came.names ++ last)) (sym names_are) (IsPermutation-append _ _ _ _ came.bag (IsPermutation-refl last));
      outside = λ q away. apart q (λ p. away [] (p ∙ sym (append-nothing k))) ∙ came.others q (λ n entry x i. away (n ∷ x));
      walked = emptied outcome directory_here (calls_here final closing closing_below below_final ∙ ap (λ l. (ReadDir, Granted) ∷ l) closing_here)
          (leaves_here outcome leaves) (granted_below e closing closing_below) (child_walked final closing closing_below below_final);
      is_kept = kept_further old mid final came.is_kept fewer;
      well_formed = sound;
      granted = λ p r i. elim (closing_cases r i) [ inl j ↦ listed_granted r j | inr q ↦ ap (λ (s : KeyCall). s.outcome) (sym q) ∙ granted p ];
      refused = λ p. (call_on k RemoveDir outcome, IsIn-right _ (listed k cs) closing (IsIn-right _ calls _ (inl refl)), refused p);
      untouched = λ none. unmoved (none (call_on k RemoveDir outcome) (IsIn-right _ (listed k cs) closing (IsIn-right _ calls _ (inl refl))) (inr refl))
          ∙ came.untouched (λ r i. none r (IsIn-right r (listed k cs) closing (IsIn-left r calls _ i)));
    }
      where
        logs_three : ((before ++ map logged_call (listed k cs)) ++ map logged_call calls) ++ logged_call (call_on k RemoveDir outcome) ∷ [] ≡ before ++ map logged_call (listed k cs ++ (calls ++ call_on k RemoveDir outcome ∷ []))
        logs_three = logs (before ++ map logged_call (listed k cs)) calls (call_on k RemoveDir outcome ∷ []) ∙ logs before (listed k cs) (calls ++ call_on k RemoveDir outcome ∷ [])

        names_are : named_in path (listed k cs ++ (calls ++ call_on k RemoveDir outcome ∷ [])) ≡ (filter_map (unseen_name path k) cs ++ named_in path calls) ++ last
        names_are = ap (named_in path) (sym (append_assoc (listed k cs) calls (call_on k RemoveDir outcome ∷ [])))
            ∙ filter_map-append (named_by path) (listed k cs ++ calls) (call_on k RemoveDir outcome ∷ []) ∙ (λ i. named_listed i ++ last_is i)

        below_final : (n : List ℕ) (x : Key) → get final.tree (k ++ n ∷ x) ≡ get mid.tree (k ++ n ∷ x)
        below_final n x = node_of (apart (k ++ n ∷ x) (λ p. beside k n x (sym p)))

        leaves_here : (o : Outcome) → Leaves o (get mid.tree k) (get final.tree k) → Leaves o (get old.tree (k ++ [])) (get final.tree (k ++ []))
        leaves_here Granted l = ap (get final.tree) (append-nothing k) ∙ l
        leaves_here (Barred error) l = ap (get final.tree) (append-nothing k) ∙ l ∙ ap (get mid.tree) (sym (append-nothing k)) ∙ stays_here
        leaves_here (Refused error) l = ap (get final.tree) (append-nothing k) ∙ l ∙ ap (get mid.tree) (sym (append-nothing k)) ∙ stays_here

  module _ (before between after : List Logged) (log : between ≡ (before ++ map logged_call (listed k cs)) ++ map logged_call calls) (e : clean ≡ true) where
    pub walk_emptied : (new : Contents) → IsRemovedAt k mid new → IsWellFormed new → after ≡ between ++ logged_call (call_on k RemoveDir Granted) ∷ [] → Walks path old new before after had has k true
    walk_emptied new removed sound last =
        closed e Granted new before after has [] true (last ∙ ap (λ l. l ++ logged_call (call_on k RemoveDir Granted) ∷ []) log) (sym (append-nil has)) refl
        (λ error p. granted_barred p) (λ error p. granted_refused p) (removal_others k mid new removed) (removed_here mid new k removed) (removal_keeps k mid new came.well_formed removed)
        sound (λ p. refl) (λ p. not_refused p) (λ refused. absurd (refused refl))

    pub walk_stuck : (outcome : Outcome) (error : FsError) (finally : Names) → error_of outcome ≡ Some error → IsLawful (remove_dir_bar k (get mid.tree k) (members mid.tree k)) outcome
        → after ≡ between ++ logged_call (call_on k RemoveDir outcome) ∷ [] → finally ≡ has ++ (path_at path true k, fs_status error) ∷ [] → Walks path old mid before after had finally k false
    walk_stuck outcome error finally cause lawful last named =
        closed e outcome mid before after finally ((path_at path true k, fs_status error) ∷ []) false (last ∙ ap (λ l. l ++ logged_call (call_on k RemoveDir outcome) ∷ []) log) named
        (ap (λ o. cons_option (option_map (λ (f : FsError). (path_at path true k, fs_status f)) o) []) cause)
        (λ f p. root_bar k f (sym (λ i. remove_dir_bar k (directory_still i) (no_members_left e i)) ∙ bar_of _ _ f lawful p)) (λ f p. own_of _ _ f lawful p)
        (λ q apart. refl) (stays outcome error _ cause) (kept_itself mid came.well_formed) came.well_formed (λ p. not_clean p) (λ p. has_error outcome error cause) (λ refused. refl)
