-- A walk that is broken off, for want of memory.
use Rattle.std.proofs.Common.{◌≡◌, ◌≢◌, ◌⊎◌, ℕ, ◌+◌, ◌<◌, Bool, cond, List, [], ◌∷◌, ◌++◌, length, drop, get_or, Some, Ok, Err, map, refl, sym, ap, ◌∙◌, subst, inl, inr, append_assoc}
use Rattle.std.specs.Prelude.{IsPermutation, filter_map}
use Rattle.std.specs.FinMap.{get}
use Rattle.std.proofs.lemmas.List.{append-nil, append_cancel_left, take-append-drop}
use Rattle.std.proofs.lemmas.List.Elements.{filter_map-append}
use Rattle.std.proofs.lemmas.List.Sorted.{IsPermutation-refl}
use Rattle.dav_key.specs.Key.{Key}
use Rattle.dav_resource.specs.PathText.{PathValue}
use Rattle.dav_resource.specs.declared.meta.DirEntry.{DirEntry}
use Rattle.dav_resource.specs.declared.record.Op.TheVariants.{ReadDir, Entry}
use Rattle.dav_resource.specs.declared.record.Outcome.TheVariants.{Granted, Barred, Refused}
use Rattle.dav_resource.specs.declared.error.FsError.{FsError}
use Rattle.dav_store.specs.Logged.{Logged}
use Rattle.dav_store.specs.Store.{Store, Contents, Directory, IsWellFormed}
use Rattle.dav_store.specs.Calls.{IsOwn}
use Rattle.dav_store.specs.Members.{IsIn, AreDistinct, member, Child, names_of, AreChildren}
use Rattle.dav_walks.specs.KeyCall.{KeyCall, logged_call, same_key, calls_at, standing}
use Rattle.dav_walks.specs.Deletion.{subtree, calls_below, under, named_by, named_in, NothingRemoved, AreSomeOf}
use Rattle.dav_walks.specs.Trace.{unseen, IsKept, Walks, Partly, over, waiting, halted, Halts}
use Rattle.dav_walks.proofs.Keys.{same_key_itself, other_key, child_below, below_cancel, append-nothing, IsIn-left, IsIn-right, IsIn-append, calls_at-append, calls_at-none}
use Rattle.dav_walks.proofs.Kept.{kept_itself, kept_further}
use Rattle.dav_walks.proofs.Facts.{no_entry_one, listing_is_no_entry}
use Rattle.dav_walks.proofs.Single.{Names, beside, same_head, node_of}
use Rattle.dav_walks.proofs.Listings.{Shown, unseen_name, unseen_call, named_unseen, same_look, find_child, one_child, IsIn-name, children_once, children_there, unseen_is, unseen_one, no_unseen, refused_barred, granted_barred, granted_refused, same_refusal, different, listed, logs}
use Rattle.dav_walks.proofs.Missing.{some_all, some_permuted, some_more, some_both, later_last}
use Rattle.dav_walks.proofs.Progress.{Progress}
use Rattle.dav_walks.proofs.Listed.{Listed, IsIn-push, names_after, rootless, place, named_so, fresh}

-- a walk that lacked the memory for its last names
pub walk_halts : {path : PathValue} {old new : Contents} {before after : List Logged} {had finally : Names} {k : Key} {clean : Bool} → Walks path old new before after had finally k clean
    → (added lost has : Names) → has ≡ had ++ added → finally ≡ has ++ lost → Halts path old new before after had has k
walk_halts {path} {had = had} {finally = finally} w added lost has named all = record {
  calls = w.calls;
  log = w.log;
  within = w.within;
  barred = w.barred;
  own = w.own;
  no_entry = w.no_entry;
  outside = w.outside;
  is_kept = w.is_kept;
  partly = over w.walked;
  names = added;
  named = named;
  some = (lost, subst (λ l. IsPermutation (named_in path w.calls) l) split w.bag);
  untouched = w.untouched;
}
  where
    split : w.names ≡ added ++ lost
    split = append_cancel_left had w.names (added ++ lost) (sym w.named ∙ all ∙ ap (λ l. l ++ lost) named ∙ append_assoc had added lost)

-- nothing was called yet
pub nothing_halts : (path : PathValue) (contents : Contents) (log : List Logged) (had : Names) (k : Key) → IsWellFormed contents → Halts path contents contents log log had had k
nothing_halts path contents log had k formed = record {
  calls = [];
  log = sym (append-nil log);
  within = λ r i. absurd i;
  barred = λ r error i. absurd i;
  own = λ r error i. absurd i;
  no_entry = λ o i. i;
  outside = λ q away. refl;
  is_kept = kept_itself contents formed;
  partly = waiting (λ x. record { uncalled = refl; same = refl });
  names = [];
  named = sym (append-nil had);
  some = some_all [] [] (IsPermutation-refl []);
  untouched = λ none. refl;
}

-- the members that were seen so far were walked, or one of them halfway
pub record Pausing (path : PathValue) (old new : Contents) (had has : Names) (k : Key) (seen : List Child) (calls : List KeyCall) : Type 0 where
  pub within : (r : KeyCall) → IsIn r calls → (n : List ℕ) × (entry : DirEntry) × (x : Key) × IsIn {X = Child} (n, Ok entry) seen × (r.key ≡ k ++ n ∷ x)
  pub unbarred : (r : KeyCall) (error : FsError) → IsIn r calls → r.outcome ≡ Barred error → ⊥
  pub own : (r : KeyCall) (error : FsError) → IsIn r calls → r.outcome ≡ Refused error → IsOwn error
  pub others : (q : Key) → ((n : List ℕ) (entry : DirEntry) (x : Key) → IsIn {X = Child} (n, Ok entry) seen → q ≢ k ++ n ∷ x) → standing new q ≡ standing old q
  pub is_kept : IsKept old new
  pub partly : (n : List ℕ) (entry : DirEntry) → IsIn {X = Child} (n, Ok entry) seen → Partly (subtree old.tree (member k n)) (subtree new.tree (member k n)) (calls_below calls (member k n))
  pub names : Names
  pub named : has ≡ had ++ names
  pub some : AreSomeOf names (filter_map (unseen_name path k) seen ++ named_in path calls)
  pub untouched : NothingRemoved calls → new ≡ old

pub progress_pauses : {path : PathValue} {old new : Contents} {had has : Names} {k : Key} {seen : List Child} {calls : List KeyCall} {clean : Bool} → Progress path old new had has k seen calls clean → Pausing path old new had has k seen calls
progress_pauses came = record {
  within = came.within;
  unbarred = came.unbarred;
  own = came.own;
  others = came.others;
  is_kept = came.is_kept;
  partly = λ n entry i. over (came.walked n entry i);
  names = came.names;
  named = came.named;
  some = some_all _ came.names came.bag;
  untouched = came.untouched;
}

-- one more member, halfway
pub pause_child : {path : PathValue} {old mid new : Contents} {before after : List Logged} {had has finally : Names} {k : Key} {seen : List Child} {calls : List KeyCall} (n : List ℕ) (entry : DirEntry)
    → Pausing path old mid had has k seen calls → (h : Halts path mid new before after has finally (member k n)) → (IsIn n (names_of seen) → ⊥) → Pausing path old new had finally k (seen ++ (n, Ok entry) ∷ []) (calls ++ h.calls)
pause_child {path} {old} {mid} {new} {before} {after} {had} {has} {finally} {k} {seen} {calls} n entry came h fresh = record {
  within = λ r i. elim (IsIn-append r calls h.calls i) [
    | inl j ↦ let v = came.within r j in (v.0, v.1, v.2, IsIn-left _ seen _ v.3, v.4)
    | inr j ↦ let v = h.within r j in (n, entry, v.0, IsIn-right _ seen _ (inl refl), v.1 ∙ child_below k n v.0)
  ];
  unbarred = λ r error i b. elim (IsIn-append r calls h.calls i) [
    | inl j ↦ came.unbarred r error j b
    | inr j ↦ let v = h.within r j in rootless k n v.0 (sym v.1 ∙ (h.barred r error j b).root)
  ];
  own = λ r error i b. elim (IsIn-append r calls h.calls i) [ inl j ↦ came.own r error j b | inr j ↦ h.own r error j b ];
  others = λ q apart. h.outside q (λ x p. apart n entry x (IsIn-right _ seen _ (inl refl)) (p ∙ child_below k n x)) ∙ came.others q (λ m e x i. apart m e x (IsIn-left _ seen _ i));
  is_kept = kept_further old mid new came.is_kept h.is_kept;
  partly = λ m e i. elim (IsIn-push _ _ seen i) [ inl j ↦ earlier m e j | inr p ↦ latest m (ap (λ (c : Child). c.0) p) ];
  names = came.names ++ h.names;
  named = h.named ∙ ap (λ l. l ++ h.names) came.named ∙ append_assoc had came.names h.names;
  some = subst (λ l. AreSomeOf (came.names ++ h.names) l) (sym (names_after path k seen n entry calls h.calls)) (some_both _ _ _ _ came.some h.some);
  untouched = λ none. h.untouched (λ r i. none r (IsIn-right r calls h.calls i)) ∙ came.untouched (λ r i. none r (IsIn-left r calls h.calls i));
}
  where
    earlier : (m : List ℕ) (e : DirEntry) → IsIn {X = Child} (m, Ok e) seen → Partly (subtree old.tree (member k m)) (subtree new.tree (member k m)) (calls_below (calls ++ h.calls) (member k m))
    earlier m e j =
        let apart : (x y : Key) → member k m ++ x ≢ member k n ++ y = λ x y p. fresh (subst (λ a. IsIn a (names_of seen)) (same_head k m n x y (sym (child_below k m x) ∙ p ∙ child_below k n y)) (IsIn-name (m, Ok e) seen j)) in
        same_look Partly (came.partly m e j) (λ x. refl) (λ x. node_of (h.outside (member k m ++ x) (apart x)))
        (λ x. calls_at-append calls h.calls (member k m ++ x) ∙ ap (λ l. calls_at calls (member k m ++ x) ++ l) (calls_at-none h.calls _ (λ r i p. let v = h.within r i in apart x v.0 (sym p ∙ v.1))) ∙ append-nil _)

    latest : (m : List ℕ) → n ≡ m → Partly (subtree old.tree (member k m)) (subtree new.tree (member k m)) (calls_below (calls ++ h.calls) (member k m))
    latest m p = subst (λ a. Partly (subtree old.tree (member k a)) (subtree new.tree (member k a)) (calls_below (calls ++ h.calls) (member k a))) p
        (same_look Partly h.partly (λ x. sym (node_of (came.others (member k n ++ x) (λ a e y i q. fresh (subst (λ b. IsIn b (names_of seen)) (sym (same_head k n a x y (sym (child_below k n x) ∙ q))) (IsIn-name (a, Ok e) seen i))))))
        (λ x. refl)
        (λ x. calls_at-append calls h.calls (member k n ++ x) ∙ ap (λ l. l ++ calls_at h.calls (member k n ++ x)) (calls_at-none calls _ (λ r i q. let v = came.within r i in
        fresh (subst (λ b. IsIn b (names_of seen)) (same_head k v.0 n v.2 x (sym v.4 ∙ q ∙ child_below k n x)) (IsIn-name (v.0, Ok v.1) seen v.3))))))

-- the directory's walk is broken off
module _ {shows : Key → Bool} {path : PathValue} {old new : Contents} {had has : Names} {k : Key} {cs seen : List Child} {calls : List KeyCall} (formed : IsWellFormed old) (is : get old.tree k ≡ Some Directory) (are : AreChildren shows old k cs)
    (unseen_yet : List Child) (split : seen ++ unseen_yet ≡ cs) (came : Pausing path old new had has k seen calls) where
  inside : (c : Child) → IsIn c seen → IsIn c cs
  inside c i = subst (λ (l : List Child). IsIn c l) split (IsIn-left c seen unseen_yet i)

  once : AreDistinct (names_of cs)
  once = children_once old k cs are

  not_seen : (n : List ℕ) (x : Key) → ((entry : DirEntry) → IsIn {X = Child} (n, Ok entry) seen → ⊥) → (calls_at calls (k ++ n ∷ x) ≡ []) × (get new.tree (k ++ n ∷ x) ≡ get old.tree (k ++ n ∷ x))
  not_seen n x unshown = (
    calls_at-none calls _ (λ r i p. let w = came.within r i in unshown w.1 (subst (λ j. IsIn {X = Child} (j, Ok w.1) seen) (same_head k _ _ _ _ (sym w.4 ∙ p)) w.3)),
    node_of (came.others _ (λ m entry y i p. unshown entry (subst (λ j. IsIn {X = Child} (j, Ok entry) seen) (sym (same_head k _ _ _ _ p)) i))),
  )

  calls_so_far : (n : List ℕ) (x : Key) → calls_below (listed k cs ++ calls) k (n ∷ x) ≡ calls_at (filter_map (unseen_call k) cs) (k ++ n ∷ x) ++ calls_at calls (k ++ n ∷ x)
  calls_so_far n x =
      ap (λ b. cond b ((ReadDir, Granted) ∷ calls_at (filter_map (unseen_call k) cs ++ calls) (k ++ n ∷ x)) (calls_at (filter_map (unseen_call k) cs ++ calls) (k ++ n ∷ x))) (other_key k (k ++ n ∷ x) (beside k n x))
      ∙ calls_at-append (filter_map (unseen_call k) cs) calls (k ++ n ∷ x)

  child_partly : (n : List ℕ) → Partly (under (subtree old.tree k) n) (under (subtree new.tree k) n) (under (calls_below (listed k cs ++ calls) k) n)
  child_partly n = go (find_child cs n) (find_child seen n)
    where
      shown_alone : (entry : DirEntry) → IsIn {X = Child} (n, Ok entry) cs → (x : Key) → calls_at (filter_map (unseen_call k) cs) (k ++ n ∷ x) ≡ []
      shown_alone entry i x = no_unseen k cs (k ++ n ∷ x) (λ m error j p. different (one_child cs once n _ _ i (subst (λ a. IsIn {X = Child} (a, Err error) cs) (same_head k _ _ _ _ p) j)))

      longer : (j m : List ℕ) (x : Key) → j ∷ [] ≡ n ∷ m ∷ x → ⊥
      longer j m x p = cc

      go : ((s : Shown) × IsIn {X = Child} (n, s) cs) ⊎ (IsIn n (names_of cs) → ⊥) → ((s : Shown) × IsIn {X = Child} (n, s) seen) ⊎ (IsIn n (names_of seen) → ⊥)
          → Partly (under (subtree old.tree k) n) (under (subtree new.tree k) n) (under (calls_below (listed k cs ++ calls) k) n)
      go (inl (Ok entry, i)) (inl (Ok e, j)) = same_look Partly (came.partly n e j)
          (λ x. ap (get old.tree) (sym (child_below k n x)))
          (λ x. ap (get new.tree) (sym (child_below k n x)))
          (λ x. calls_so_far n x ∙ ap (λ l. l ++ calls_at calls (k ++ n ∷ x)) (shown_alone entry i x) ∙ ap (calls_at calls) (sym (child_below k n x)))
      go (inl (Ok entry, i)) (inl (Err e, j)) = different (one_child cs once n _ _ i (inside _ j))
      go (inl (Ok entry, i)) (inr none) =
          let unshown : (e : DirEntry) → IsIn {X = Child} (n, Ok e) seen → ⊥ = λ e j. none (IsIn-name (n, Ok e) seen j) in
          waiting (λ x. record {
            uncalled = calls_so_far n x ∙ ap (λ l. l ++ calls_at calls (k ++ n ∷ x)) (shown_alone entry i x) ∙ (not_seen n x unshown).0;
            same = (not_seen n x unshown).1;
          })
      go (inl (Err error, i)) others =
          let unshown : (e : DirEntry) → IsIn {X = Child} (n, Ok e) seen → ⊥ = λ e j. different (one_child cs once n _ _ (inside _ j) i) in
          over (unseen error (children_there old k cs are n (IsIn-name (n, Err error) cs i))
          (calls_so_far n [] ∙ ap (λ l. l ++ calls_at calls (k ++ n ∷ [])) (unseen_one k cs once n error i) ∙ ap (λ l. (Entry, Refused error) ∷ l) (not_seen n [] unshown).0)
          (not_seen n [] unshown).1
          (λ m x. record {
            uncalled = calls_so_far n (m ∷ x) ∙ ap (λ l. l ++ calls_at calls (k ++ n ∷ m ∷ x)) (no_unseen k cs _ (λ j e a p. longer j m x (below_cancel k _ _ p))) ∙ (not_seen n (m ∷ x) unshown).0;
            same = (not_seen n (m ∷ x) unshown).1;
          }))
      go (inr unnamed) others =
          let unshown : (e : DirEntry) → IsIn {X = Child} (n, Ok e) seen → ⊥ = λ e j. unnamed (IsIn-name (n, Ok e) cs (inside _ j)) in
          waiting (λ x. record {
            uncalled = calls_so_far n x ∙ ap (λ l. l ++ calls_at calls (k ++ n ∷ x)) (no_unseen k cs _ (λ j e a p. unnamed (subst (λ b. IsIn b (names_of cs)) (same_head k _ _ _ _ p) (IsIn-name (j, Err e) cs a)))) ∙ (not_seen n x unshown).0;
            same = (not_seen n x unshown).1;
          })

  pub pause_halts : (before after : List Logged) → after ≡ (before ++ map logged_call (listed k cs)) ++ map logged_call calls → Halts path old new before after had has k
  pause_halts before after log = record {
    calls = listed k cs ++ calls;
    log = log ∙ logs before (listed k cs) calls;
    within = λ r i. elim i [
      | inl p ↦ ([], ap (λ (s : KeyCall). s.key) (sym p) ∙ sym (append-nothing k))
      | inr j ↦ elim (IsIn-append r (filter_map (unseen_call k) cs) calls j) [
        | inl a ↦ let f = unseen_is k cs r a in (f.0 ∷ [], ap (λ (s : KeyCall). s.key) (sym f.3))
        | inr a ↦ let w = came.within r a in (w.0 ∷ w.2, w.4)
      ]
    ];
    barred = λ r error i b. absurd (unbarred r error i b);
    own = λ r error i b. elim i [
      | inl p ↦ granted_refused (ap (λ (s : KeyCall). s.outcome) p ∙ b)
      | inr j ↦ elim (IsIn-append r (filter_map (unseen_call k) cs) calls j) [
        | inl a ↦ let f = unseen_is k cs r a in subst IsOwn (same_refusal (ap (λ (s : KeyCall). s.outcome) f.3 ∙ b)) (are.shown (f.0, Err f.1) f.2)
        | inr a ↦ came.own r error a b
      ]
    ];
    no_entry = no_entry_one ReadDir Granted _ calls_here listing_is_no_entry;
    outside = λ q away. came.others q (λ n entry x i. away (n ∷ x));
    is_kept = came.is_kept;
    partly = halted (ap (get old.tree) (append-nothing k) ∙ is) calls_here
        (node_of (came.others (k ++ []) (λ n entry x i p. beside k n x (sym (append-nothing k) ∙ p)))) child_partly;
    names = came.names;
    named = came.named;
    some = some_permuted _ _ _ more_names (some_more _ _ (filter_map (unseen_name path k) unseen_yet) came.some);
    untouched = λ none. came.untouched (λ r i. none r (IsIn-right r (listed k cs) calls i));
  }
    where
      all_names : named_in path (listed k cs ++ calls) ≡ (filter_map (unseen_name path k) seen ++ filter_map (unseen_name path k) unseen_yet) ++ named_in path calls
      all_names = filter_map-append (named_by path) (filter_map (unseen_call k) cs) calls
          ∙ ap (λ l. l ++ named_in path calls) (named_unseen k path cs ∙ ap (filter_map (unseen_name path k)) (sym split) ∙ filter_map-append (unseen_name path k) seen unseen_yet)

      -- the names of the members that the listing didn't show and that weren't come to
      more_names : IsPermutation (named_in path (listed k cs ++ calls)) ((filter_map (unseen_name path k) seen ++ named_in path calls) ++ filter_map (unseen_name path k) unseen_yet)
      more_names = subst (λ l. IsPermutation l ((filter_map (unseen_name path k) seen ++ named_in path calls) ++ filter_map (unseen_name path k) unseen_yet)) (sym all_names)
          (later_last (filter_map (unseen_name path k) seen) (filter_map (unseen_name path k) unseen_yet) (named_in path calls))

      calls_here : calls_below (listed k cs ++ calls) k [] ≡ (ReadDir, Granted) ∷ []
      calls_here = ap (λ b. cond b ((ReadDir, Granted) ∷ calls_at (filter_map (unseen_call k) cs ++ calls) (k ++ [])) (calls_at (filter_map (unseen_call k) cs ++ calls) (k ++ []))) (ap (same_key k) (append-nothing k) ∙ same_key_itself k)
          ∙ ap (λ l. (ReadDir, Granted) ∷ l) (calls_at-append (filter_map (unseen_call k) cs) calls (k ++ [])
          ∙ (λ t. no_unseen k cs (k ++ []) (λ n error i p. beside k n [] (sym (p ∙ append-nothing k))) t
          ++ calls_at-none calls (k ++ []) (λ r i p. let w = came.within r i in beside k w.0 w.2 (sym (append-nothing k) ∙ sym p ∙ w.4)) t))

      unbarred : (r : KeyCall) (error : FsError) → IsIn r (listed k cs ++ calls) → r.outcome ≡ Barred error → ⊥
      unbarred r error (inl p) b = granted_barred (ap (λ (s : KeyCall). s.outcome) p ∙ b)
      unbarred r error (inr i) b = elim (IsIn-append r (filter_map (unseen_call k) cs) calls i) [
        | inl j ↦ let f = unseen_is k cs r j in refused_barred (ap (λ (s : KeyCall). s.outcome) f.3 ∙ b)
        | inr j ↦ came.unbarred r error j b
      ]

module _ {path : PathValue} {old mid : Store} {had has : Names} {k : Key} {listing : List Shown} {i : ℕ} {clean : Bool} (so_far : Listed path old mid had has k listing i clean) where
  -- between two entries
  pub listed_halts : Halts path old.contents mid.contents old.log mid.log had has k
  listed_halts = pause_halts so_far.formed so_far.is so_far.are (drop i so_far.children) (take-append-drop i so_far.children) (progress_pauses so_far.came) old.log mid.log so_far.log

  -- in the walk of an entry's member
  pub child_halts : (new : Store) (finally : Names) (small : i < length listing) (d : Shown) (entry : DirEntry) (at_place : get_or listing i d ≡ Ok entry)
      → Halts path mid.contents new.contents mid.log new.log has finally (member k entry.name) → Halts path old.contents new.contents old.log new.log had finally k
  child_halts new finally small d entry at_place halts =
      let it = place so_far small d entry at_place in
      let h : Halts path mid.contents new.contents mid.log new.log has finally (member k it.name) = subst (λ n. Halts path mid.contents new.contents mid.log new.log has finally (member k n)) (named_so so_far small d entry at_place) halts in
      pause_halts so_far.formed so_far.is so_far.are (drop (i + 1) so_far.children) (ap (λ (l : List Child). l ++ drop (i + 1) so_far.children) (sym it.next) ∙ take-append-drop (i + 1) so_far.children)
      (pause_child it.name entry (progress_pauses so_far.came) h (fresh so_far small d entry at_place)) old.log new.log
      (h.log ∙ ap (λ l. l ++ map logged_call h.calls) so_far.log ∙ logs (old.log ++ map logged_call (listed k so_far.children)) so_far.calls h.calls)
